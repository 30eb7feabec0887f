-- An instruction as data, the bytes it is written as, and what it puts into the stores ("Stores and writing").
use Rattle.std.specs.Prelude.{ℕ, ◌+◌, ◌*◌, ◌/◌, ◌%◌, List, [], ◌∷◌, ◌++◌, map, length, get_or}
use Rattle.std.specs.Prelude.{Option, None, Some}
use Rattle.spec.specs.declared.Fields.{Fields}
use Rattle.spec.specs.declared.Numbers.{Numbers}
use Rattle.spec.specs.Base.{or_zero, joined}
use Rattle.spec.specs.Words.{bytes_of}
use Rattle.spec.specs.Text.{text_words, padded}
use Rattle.spec.specs.Numbers.{no_numbers, numbers_from}

-- an operand: a kind and one word, a kind and two words (36 and 38), or a string's bytes (40)
pub data Operand : Type 0 where
  narrow : ℕ → ℕ → Operand
  wide : ℕ → ℕ → Operand
  text : List ℕ → Operand

-- an instruction as decoded; words counts its first word too
pub record Instr : Type 0 where
  pub opcode : ℕ
  pub result_type : Option ℕ
  pub result_id : Option ℕ
  pub operands : List Operand
  pub offset : ℕ
  pub words : ℕ

-- an instruction with its section tag
pub record Placed : Type 0 where
  pub instr : Instr
  pub tag : ℕ

-- a type entry: "id, width, 1 unsigned, 2 signed, 3 float"
pub data Entry : Type 0 where
  entry : ℕ → ℕ → ℕ → Entry

-- WORDS AND BYTES: what an instruction is written as, and was read from (the standard, 2.3)

-- how many words an operand takes
unfoldable pub operand_size : Operand → ℕ
operand_size (narrow k v) = 1
operand_size (wide k v) = 2
operand_size (text s) = text_words (length s)

-- how many words some operands take
unfoldable pub operands_size : List Operand → ℕ
operands_size [] = 0
operands_size (o ∷ os) = operand_size o + operands_size os

-- how many words an id takes
abbrev pub id_size : Option ℕ → ℕ
id_size None = 0
id_size (Some i) = 1

-- a 64-bit literal's bytes, the low word first
abbrev pub long_bytes : ℕ → List ℕ
long_bytes v = bytes_of (v % 4294967296) ++ bytes_of (v / 4294967296)

-- an operand's bytes
unfoldable pub operand_bytes : Operand → List ℕ
operand_bytes (narrow k v) = bytes_of v
operand_bytes (wide k v) = long_bytes v
operand_bytes (text s) = padded s

-- an id's bytes
abbrev pub id_bytes : Option ℕ → List ℕ
id_bytes None = []
id_bytes (Some i) = bytes_of i

-- an instruction's bytes: opcode and word count, result type, result id, operands
unfoldable pub instr_bytes : Instr → List ℕ
instr_bytes i =
    bytes_of (i.opcode + 65536 * i.words) ++ id_bytes i.result_type ++ id_bytes i.result_id
    ++ joined operand_bytes i.operands

-- THE OPERAND LOG AND THE STRINGS

-- "kind byte, then 4 bytes; 8 for kinds 36, 38 and 40 (string: start, length)", where the strings before take so many bytes
unfoldable pub operand_log : ℕ → Operand → List ℕ
operand_log strings (narrow k v) = k ∷ bytes_of v
operand_log strings (wide k v) = k ∷ long_bytes v
operand_log strings (text s) = 40 ∷ bytes_of strings ++ bytes_of (length s)

-- "String bytes without the zero"
unfoldable pub operand_string : Operand → List ℕ
operand_string (narrow k v) = []
operand_string (wide k v) = []
operand_string (text s) = s

-- operands in the log, one after the other
unfoldable pub operands_log : ℕ → List Operand → List ℕ
operands_log strings [] = []
operands_log strings (o ∷ os) = operand_log strings o ++ operands_log (strings + length (operand_string o)) os

-- the string bytes of some operands
unfoldable pub operands_strings : List Operand → List ℕ
operands_strings os = joined operand_string os

-- the string store of some instructions
unfoldable pub string_store : List Placed → List ℕ
string_store is = joined (λ p. operands_strings p.instr.operands) is

-- the operand log of some instructions, where the strings before them take so many bytes
unfoldable pub log_from : ℕ → List Placed → List ℕ
log_from strings [] = []
log_from strings (p ∷ ps) =
    operands_log strings p.instr.operands ++ log_from (strings + length (operands_strings p.instr.operands)) ps

-- THE INSTRUCTION RECORDS

-- "1 for a result type, 2 for a result id"
abbrev pub presence : Option ℕ → Option ℕ → ℕ
presence None None = 0
presence (Some t) None = 1
presence None (Some i) = 2
presence (Some t) (Some i) = 3

-- the fields of an instruction whose operands start there in the log
unfoldable pub fields_of : ℕ → Placed → Fields
fields_of start p =
    record {
      head = p.instr.opcode + 65536 * presence p.instr.result_type p.instr.result_id;
      tag = p.tag;
      offset = p.instr.offset;
      rtype = or_zero p.instr.result_type;
      rid = or_zero p.instr.result_id;
      start = start;
      count = length p.instr.operands;
      words = p.instr.words;
    }

-- the fields of the records of some instructions, where the log before them takes so many bytes
unfoldable pub fields_from : ℕ → List Placed → List Fields
fields_from start [] = []
fields_from start (p ∷ ps) = fields_of start p ∷ fields_from (start + length (operands_log 0 p.instr.operands)) ps

-- "eight 32-bit words"
abbrev pub field_size : ℕ
field_size = 8

-- the words of fields
unfoldable pub field_words : Fields → List ℕ
field_words f = f.head ∷ f.tag ∷ f.offset ∷ f.rtype ∷ f.rid ∷ f.start ∷ f.count ∷ f.words ∷ []

-- the fields that words begin with
unfoldable pub fields_at : List ℕ → Fields
fields_at ws =
    record {
      head = get_or ws 0 0;
      tag = get_or ws 1 0;
      offset = get_or ws 2 0;
      rtype = get_or ws 3 0;
      rid = get_or ws 4 0;
      start = get_or ws 5 0;
      count = get_or ws 6 0;
      words = get_or ws 7 0;
    }

-- "grows to ten words: function number and block number"
abbrev pub record_size : ℕ
record_size = 10

-- the words of a record: its fields, then its numbers
unfoldable pub record_words : Fields → Numbers → List ℕ
record_words f n = field_words f ++ (n.function ∷ n.block ∷ [])

-- the words of records, each with its fields and its numbers
unfoldable pub records_with : List Fields → List Numbers → List ℕ
records_with [] ns = []
records_with (f ∷ fs) [] = []
records_with (f ∷ fs) (n ∷ ns) = record_words f n ++ records_with fs ns

-- the numbers that the tags of fields call for
unfoldable pub called_for : List Fields → List Numbers
called_for fs = numbers_from no_numbers (map (λ f. f.tag) fs)

-- the words of records with the numbers that their tags call for
unfoldable pub numbered : List Fields → List ℕ
numbered fs = records_with fs (called_for fs)

-- the instruction store of some instructions
unfoldable pub instruction_store : List Placed → List ℕ
instruction_store is = numbered (fields_from 0 is)

-- TYPES

-- the words of a type entry, three of them
abbrev pub entry_words : Entry → List ℕ
entry_words (entry id width sort) = id ∷ width ∷ sort ∷ []

-- the words in a type entry
abbrev pub entry_size : ℕ
entry_size = 3
