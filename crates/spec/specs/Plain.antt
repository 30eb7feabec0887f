-- Plain form: nothing in the bytes that the header words and records do not say; and the lowest offset of what breaks it. No operand
-- stands at offset 0, so 0 is none.
use Rattle.std.specs.Prelude.{ℕ, ◌+◌, ◌*◌, ◌/◌, ◌%◌, ◌&&◌, List, [], ◌∷◌, ◌++◌, ltb, eqb, length, drop, if◌then◌else◌}
use Rattle.std.specs.Prelude.{Option, None, Some}
use Rattle.spec.specs.Words.{four_at}
use Rattle.spec.specs.Text.{text_break}
use Rattle.spec.specs.Records.{Operand, narrow, wide, text, Instr, Placed, operand_size}

-- of two offsets that break, the one whose bytes come first: the lowest
unfoldable pub first_break : ℕ → ℕ → ℕ
first_break a b = if eqb a 0 then b else a

-- what breaks an operand, of the bytes from it on: "the first nonzero padding byte, the embedded opcode's word" where it has something
-- above its low sixteen bits
unfoldable pub operand_break : ℕ → Operand → List ℕ → ℕ
operand_break at (narrow k v) bs = if eqb k 39 && ltb 65535 (four_at 0 bs) then at else 0
operand_break at (wide k v) bs = 0
operand_break at (text s) bs = text_break at (length s) bs

-- operands one after the other, of the bytes from the first on
unfoldable pub operands_break : ℕ → List Operand → List ℕ → ℕ
operands_break at [] bs = 0
operands_break at (o ∷ os) bs =
    first_break (operand_break at o bs) (operands_break (at + 4 * operand_size o) os (drop (4 * operand_size o) bs))

-- a result that is there is a word, as an id is
abbrev pub as_ids : Option ℕ → List Operand
as_ids None = []
as_ids (Some w) = narrow 33 w ∷ []

-- results and operands in the order of their words
abbrev pub in_order : Option ℕ → Option ℕ → List Operand → List Operand
in_order t i os = as_ids t ++ as_ids i ++ os

-- an instruction in a module: its results and operands stand after its first word
unfoldable pub instr_break : List ℕ → Instr → ℕ
instr_break s i =
    operands_break (i.offset + 4) (in_order i.result_type i.result_id i.operands) (drop (i.offset + 4) s)

-- instructions one after the other
unfoldable pub kept_break : List ℕ → List Placed → ℕ
kept_break s [] = 0
kept_break s (p ∷ ps) = first_break (instr_break s p.instr) (kept_break s ps)

-- "the first tail byte": the whole words' length of so many bytes
unfoldable pub tail_break : ℕ → ℕ
tail_break n = if eqb (n % 4) 0 then 0 else 4 * (n / 4)

-- a module of which these are the instructions
unfoldable pub module_break : List ℕ → List Placed → ℕ
module_break s ps = first_break (kept_break s ps) (tail_break (length s))
