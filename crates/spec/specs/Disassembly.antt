-- The listing for the cutters: records as text, sentence by sentence from binary/disassemble.rs.
--
-- Names come from the table of names alone (`name_of`). An instruction that lacks one is refused before any text is made, so that the
-- text need not say what stands there: a name that is missing is left out.
use Rattle.std.specs.Prelude.{ℕ, suc, ◌≡◌, refl, Bool, true, false, ◌&&◌, ◌||◌, List, [], ◌∷◌, ◌++◌, eqb, take, drop, get_or, if◌then◌else◌}
use Rattle.std.specs.Prelude.{Option, None, Some}
use Rattle.spec.specs.Base.{within, is_in, has, and_then as ◌>>=◌, or_else, same, joined, every, ascii}
use Rattle.spec.specs.Words.{major, minor, bits_from, bits_of}
use Rattle.spec.specs.Digits.{digits_from, decimal, hex_digit, hex_digits}
use Rattle.spec.specs.Kinds.{is_mask}
use Rattle.spec.specs.Records.{Operand, narrow, wide, text, Placed, record_size}
use Rattle.spec.specs.Check.{Given, lower, scan_of, fault_of, Checked, bad, good, checked_by}
use Rattle.spec.specs.Write.{has_tag, section_of, sections, parameters_in, functions, module_order, Writing, unwritten, put_or}
use Rattle.spec.specs.Names.{named, name_of, opcode_set, glsl_set, opencl_set}
use Rattle.spec.specs.NameTable.{name_table}

-- OPERANDS: `impl Disassemble for dr::Operand`

-- "%{}"
unfoldable pub id_text : ℕ → List ℕ
id_text id = ascii "%" ++ decimal id

-- "0x and the 8 or 16 capital hex digits of their bits"
unfoldable pub hex_text : ℕ → ℕ → List ℕ
hex_text n v = ascii "0x" ++ hex_digits n v

-- a byte of a string, as `{:?}` has it: `"` and `\` after a `\`; "each string byte outside 20 to 7E (hex) as \x and two such digits"
unfoldable pub byte_text : ℕ → List ℕ
byte_text b =
    if is_in b (34 ∷ 92 ∷ []) then 92 ∷ b ∷ []
    else if within 0x20 b 0x7E then b ∷ []
    else ascii "\\x" ++ hex_digits 2 b

-- a string in quotes
unfoldable pub string_text : List ℕ → List ℕ
string_text s = ascii "\"" ++ joined byte_text s ++ ascii "\""

-- is there a name
abbrev pub is_there : Option (List ℕ) → Bool
is_there None = false
is_there (Some n) = true

-- the name that is there
abbrev pub or_nothing : Option (List ℕ) → List ℕ
or_nothing None = []
or_nothing (Some n) = n

-- the name of a number in a set of names
unfoldable pub name_text : ℕ → ℕ → List ℕ
name_text set n = or_nothing (name_of set n)

-- the names of a kind: an embedded opcode (39 LiteralSpecConstantOpInteger) has an opcode's, an enumerant those of its own kind
unfoldable pub set_of_kind : ℕ → ℕ
set_of_kind k = if eqb k 39 then opcode_set else k

-- the numbers whose names an operand of a kind is made of: a mask's bits that are set, lowest first, or 0 (`None`) where none is; any
-- other's value
unfoldable pub names_in : ℕ → ℕ → List ℕ
names_in k v =
    let bits = bits_of v in
    if is_mask k then if eqb v 0 then 0 ∷ [] else bits else v ∷ []

-- names of a set, joined by `|`
unfoldable pub barred : ℕ → List ℕ → List ℕ
barred set [] = []
barred set (n ∷ ns) = name_text set n ++ joined (λ m. ascii "|" ++ name_text set m) ns

-- kinds whose text has no name: ids (31 to 33) and literals (34 to 38)
abbrev pub is_nameless : ℕ → Bool
is_nameless k = within 31 k 38

-- an operand of one word: ids, literals (34 LiteralInt32, 35 LiteralExtInstInteger, 37 LiteralFloat32), else by name
unfoldable pub narrow_text : ℕ → ℕ → List ℕ
narrow_text k v =
    if within 31 k 33 then id_text v
    else if within 34 k 35 then decimal v
    else if eqb k 37 then hex_text 8 v
    else barred (set_of_kind k) (names_in k v)

-- an operand's text; of two words are 36 LiteralInt64 and 38 LiteralFloat64
unfoldable pub operand_text : Operand → List ℕ
operand_text (narrow k v) = narrow_text k v
operand_text (wide k v) = if eqb k 36 then decimal v else hex_text 16 v
operand_text (text s) = string_text s

-- has an operand every name that its text is made of
unfoldable pub operand_named : Operand → Bool
operand_named (narrow k v) = is_nameless k || every (λ n. is_there (name_of (set_of_kind k) n)) (names_in k v)
operand_named (wide k v) = true
operand_named (text s) = true

-- EXTENDED INSTRUCTION SETS: `ExtInstSetTracker`

-- the set of a name, where it is recognised
unfoldable pub set_named : List ℕ → Option ℕ
set_named s =
    if same s (ascii "GLSL.std.450") then Some glsl_set
    else if same s (ascii "OpenCL.std") then Some opencl_set
    else None

-- the set that the operands of an import name: its first is the set's name
unfoldable pub set_in : List Operand → Option ℕ
set_in [] = None
set_in (narrow k v ∷ os) = None
set_in (wide k v ∷ os) = None
set_in (text s ∷ os) = set_named s

-- is it the id that is there
abbrev pub is_id : ℕ → Option ℕ → Bool
is_id id None = false
is_id id (Some i) = eqb i id

-- the set that an instruction imports under an id, where it is an OpExtInstImport, as those of tag 3 are
unfoldable pub import_of : ℕ → Placed → Option ℕ
import_of id p = if has_tag 3 p && is_id id p.instr.result_id then set_in p.instr.operands else None

-- the set of an id: the last import that is recognised holds
unfoldable pub set_of : ℕ → List Placed → Option ℕ
set_of id [] = None
set_of id (p ∷ ps) = or_else (set_of id ps) (import_of id p)

-- the name of an instruction in the set of an id
unfoldable pub name_by : List Placed → ℕ → ℕ → Option (List ℕ)
name_by is id n = do
  set ← set_of id is
  name_of set n

-- the name that operands of an extended instruction begin with: after an id (33) the number (35) of an instruction
unfoldable pub ext_name : List Placed → List Operand → Option (List ℕ)
ext_name is [] = None
ext_name is (o ∷ []) = None
ext_name is (narrow k id ∷ narrow j n ∷ os) = let name = name_by is id n in if eqb k 33 && eqb j 35 then name else None
ext_name is (narrow k id ∷ wide j n ∷ os) = None
ext_name is (narrow k id ∷ text s ∷ os) = None
ext_name is (wide k v ∷ o ∷ os) = None
ext_name is (text s ∷ o ∷ os) = None

-- INSTRUCTIONS: `impl Disassemble for dr::Instruction`, `disas_ext_inst`

-- operands, a blank before each
unfoldable pub spaced : List Operand → List ℕ
spaced os = joined (λ o. ascii " " ++ operand_text o) os

-- with a name in place of the second
unfoldable pub spaced_by : Option (List ℕ) → List Operand → List ℕ
spaced_by None os = spaced os
spaced_by (Some n) os = spaced (take 1 os) ++ ascii " " ++ n ++ spaced (drop 2 os)

-- an instruction's operands; an OpExtInst in a block has its instruction's name, where that is known
unfoldable pub operands_text : List Placed → Placed → List ℕ
operands_text is p =
    let name = ext_name is p.instr.operands in
    spaced_by (if eqb p.instr.opcode 12 && has_tag 15 p then name else None) p.instr.operands

-- "%{} = "
unfoldable pub result_text : Option ℕ → List ℕ
result_text None = []
result_text (Some id) = id_text id ++ ascii " = "

-- "extra space both before and after the result type"; after it only before operands
unfoldable pub type_text : Option ℕ → List Operand → List ℕ
type_text None os = []
type_text (Some t) os = ascii "  " ++ id_text t ++ (if has 1 os then ascii " " else [])

-- an instruction among all of a module
unfoldable pub instr_text : List Placed → Placed → List ℕ
instr_text is p =
    result_text p.instr.result_id ++ ascii "Op" ++ name_text opcode_set p.instr.opcode
    ++ type_text p.instr.result_type p.instr.operands ++ operands_text is p

-- THE MODULE: `impl Disassemble for dr::ModuleHeader`, `impl Disassemble for dr::Module`

-- the four lines of the header; the generator is the one of module order, whatever the module's own
unfoldable pub header_text : List ℕ → List ℕ
header_text h =
    ascii "; SPIR-V\n; Version: " ++ decimal (major (get_or h 1 0)) ++ ascii "." ++ decimal (minor (get_or h 1 0))
    ++ ascii "\n; Generator: rspirv\n; Bound: " ++ decimal (get_or h 3 0)

-- the lines of some instructions among all of a module, a line feed before each
unfoldable pub lines_text : List Placed → List Placed → List ℕ
lines_text is ps = joined (λ p. ascii "\n" ++ instr_text is p) ps

-- the whole text, in module order
unfoldable pub module_text : List ℕ → List Placed → List ℕ
module_text h is = header_text h ++ lines_text is (module_order is)

-- WHAT IT COMES TO

-- has an instruction every name: its opcode's, and its operands'
unfoldable pub is_named : Placed → Bool
is_named p = is_there (name_of opcode_set p.instr.opcode) && every operand_named p.instr.operands

-- the first instruction that lacks a name, the first of them at an index
unfoldable pub unnamed : ℕ → List Placed → Option ℕ
unnamed index [] = None
unnamed index (p ∷ ps) =
    let later = unnamed (suc index) ps in
    if is_named p then later else Some index

-- "30 as in module order, here also for an opcode or enumerant without a name": the lowest record that is bad in either way
unfoldable pub check_named : Given → Checked
check_named x =
    let is = (scan_of record_size x).instrs in
    checked_by (lower (fault_of record_size true x) (unnamed 1 is)) is

-- by the check
abbrev pub list_by : Checked → List ℕ → List ℕ → Writing
list_by (bad i) h out = unwritten 30 i out
list_by (good is) h out = put_or 32 out (module_text h is)

-- "then 32, exactly when the text does not fit; buffer unchanged"
unfoldable pub disassemble : List ℕ → Given → List ℕ → Writing
disassemble h x out = list_by (check_named x) h out

-- A WORKED EXAMPLE: a function that asks for a sine, its memory model before its import

-- an instruction of a tag, its offset and word count left out, which the text does not read
abbrev pub said : ℕ → ℕ → Option ℕ → Option ℕ → List Operand → Placed
said tag op type id os =
    record {
      instr = record { opcode = op; result_type = type; result_id = id; operands = os; offset = 0; words = 0 };
      tag = tag;
    }

-- the instructions
abbrev pub sine : List Placed
sine =
    said 4 14 None None (narrow 11 0 ∷ narrow 12 1 ∷ [])
    ∷ said 3 11 None (Some 1) (text (ascii "GLSL.std.450") ∷ [])
    ∷ said 11 22 None (Some 2) (narrow 34 32 ∷ [])
    ∷ said 11 33 None (Some 3) (narrow 33 2 ∷ [])
    ∷ said 11 43 (Some 2) (Some 4) (narrow 37 0x3F800000 ∷ [])
    ∷ said 12 54 (Some 2) (Some 5) (narrow 5 6 ∷ narrow 33 3 ∷ [])
    ∷ said 14 248 None (Some 6) []
    ∷ said 15 12 (Some 2) (Some 7) (narrow 33 1 ∷ narrow 35 13 ∷ narrow 33 4 ∷ [])
    ∷ said 15 254 None None (narrow 33 7 ∷ [])
    ∷ said 16 56 None None []
    ∷ []

-- each has its names
pub sine_named : unnamed 1 sine ≡ None
unfolding bits_from bits_of name_of named name_table set_of_kind names_in operand_named is_named unnamed
sine_named = refl

-- their text under a header
pub sine_text : module_text (0x07230203 ∷ 0x00010000 ∷ 0 ∷ 8 ∷ 0 ∷ []) sine ≡ ascii
    "; SPIR-V\n; Version: 1.0\n; Generator: rspirv\n; Bound: 8\n%1 = OpExtInstImport \"GLSL.std.450\"\nOpMemoryModel Logical GLSL450\n%2 = OpTypeFloat 32\n%3 = OpTypeFunction %2\n%4 = OpConstant  %2  0x3F800000\n%5 = OpFunction  %2  DontInline|Pure %3\n%6 = OpLabel\n%7 = OpExtInst  %2  %1 Sin %4\nOpReturnValue %7\nOpFunctionEnd"
unfolding bits_from bits_of digits_from decimal hex_digit hex_digits section_of sections parameters_in functions module_order name_of named name_table id_text hex_text byte_text string_text name_text set_of_kind names_in barred narrow_text operand_text set_named set_in import_of set_of name_by ext_name spaced spaced_by operands_text result_text type_text instr_text header_text lines_text module_text
sine_text = refl
