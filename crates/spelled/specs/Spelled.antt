-- What the record of an instruction spells, read from log and strings by place.
use Rattle.std.specs.Prelude.{ℕ, zero, suc, ◌+◌, ◌*◌, ◌%◌, ◌≤◌, ◌≡◌, true, List, [], ◌∷◌, ◌++◌, leb, eqb, length, get_or, if◌then◌else◌}
use Rattle.spec.specs.declared.Fields.{Fields}
use Rattle.spec.specs.Words.{bytes_of, four_at}
use Rattle.spec.specs.Kinds.{is_text}
use Rattle.spec.specs.Records.{Operand, Placed, operands_size, id_bytes}
use Rattle.spec.specs.Check.{bits_in, field_in, placed_of}
use Rattle.operand.specs.Parts.{is_two}
use Rattle.records.specs.Steps.{result_words}
use Rattle.records.specs.Good.{Whole, operand_at}

-- a whole operand at a place of the log, and a string in the strings
pub record Readable (log strings : List ℕ) (a : ℕ) : Type 0 where
  pub whole : Whole log a
  pub string : is_text (get_or log a 0) ≡ true → four_at (a + 1) log + four_at (a + 5) log ≤ length strings

-- the place after an operand: "kind byte, then 4 bytes; 8 for kinds 36, 38 and 40"
unfoldable pub operand_after : List ℕ → ℕ → ℕ
operand_after log a = if is_two (get_or log a 0) then a + 9 else a + 5

-- so many operands from a place on
unfoldable pub operands_from : ℕ → List ℕ → List ℕ → ℕ → List Operand
operands_from zero log strings a = []
operands_from (suc n) log strings a = operand_at log strings a ∷ operands_from n log strings (operand_after log a)

-- each of them can be read
unfoldable pub AllReadable : ℕ → List ℕ → List ℕ → ℕ → Type 0
AllReadable zero log strings a = Unit {0}
AllReadable (suc n) log strings a = Readable log strings a × AllReadable n log strings (operand_after log a)

-- first word and result words of a record
unfoldable pub head_bytes : Fields → List ℕ
head_bytes f =
    bytes_of (f.head % 65536 + 65536 * f.words)
    ++ id_bytes (field_in (eqb (bits_in f % 2) 1) f.rtype) ++ id_bytes (field_in (leb 2 (bits_in f)) f.rid)

-- the instruction of a record, with the operands from its start on
unfoldable pub said_by : List ℕ → List ℕ → Fields → Placed
said_by log strings f = placed_of f (operands_from f.count log strings f.start)

-- a record that can be written: its operands can be read, and its word count is right
pub record Sound (log strings : List ℕ) (f : Fields) : Type 0 where
  pub operands : AllReadable f.count log strings f.start
  pub few : f.words ≤ 65535
  pub words : f.words ≡ 1 + result_words f + operands_size (operands_from f.count log strings f.start)
