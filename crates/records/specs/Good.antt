-- Good records: what the check gives, and what every getter of a record or an operand asks for.
use Rattle.std.specs.Prelude.{ℕ, ◌+◌, ◌/◌, ◌%◌, ◌≤◌, ◌≡◌, Bool, true, false, List, length, take, drop, get_or}
use Rattle.std.specs.Prelude.{None}
use Rattle.spec.specs.declared.Numbers.{Numbers}
use Rattle.spec.specs.Words.{four_at, long}
use Rattle.spec.specs.Kinds.{is_logged, is_long}
use Rattle.spec.specs.Records.{Operand, narrow, wide, text, record_size}
use Rattle.spec.specs.Check.{Given, fault_of}
use Rattle.operand.specs.declared.Parts.{Parts}
use Rattle.operand.specs.Parts.{parts, is_two, Fits}

-- the stores are good for the counts, in the order read
unfoldable pub Good : Given → Type 0
Good x = fault_of record_size false x ≡ None

-- the numbers that the words of a record end with
unfoldable pub numbers_at : List ℕ → Numbers
numbers_at ws = record { function = get_or ws 8 0; block = get_or ws 9 0 }

-- a whole operand of a known kind at a place of the log
pub record Whole (log : List ℕ) (at : ℕ) : Type 0 where
  pub known : is_logged (get_or log at 0) ≡ true
  pub five : at + 5 ≤ length log
  pub nine : is_two (get_or log at 0) ≡ true → at + 9 ≤ length log

-- the value of an operand at a place, of two words or one
unfoldable pub value_by : Bool → List ℕ → ℕ → ℕ
value_by true log at = long (four_at (at + 1) log) (four_at (at + 5) log)
value_by false log at = four_at (at + 1) log

-- kind and value of the operand at a place
unfoldable pub parts_at : List ℕ → ℕ → Parts
parts_at log at = parts (get_or log at 0) (value_by (is_two (get_or log at 0)) log at)

-- parts read from a place: their words are those of the log, and they are of an operand
pub record Logged (log : List ℕ) (at : ℕ) (p : Parts) : Type 0 where
  pub is : p ≡ parts_at log at
  pub low : p.value % 4294967296 ≡ four_at (at + 1) log
  pub high : is_two (get_or log at 0) ≡ true → p.value / 4294967296 ≡ four_at (at + 5) log
  pub fits : Fits p.kind p.value

-- the operand at a place, by whether its kind has two words and is a literal
unfoldable pub operand_by : Bool → Bool → List ℕ → List ℕ → ℕ → Operand
operand_by false l log strings at = narrow (get_or log at 0) (four_at (at + 1) log)
operand_by true true log strings at = wide (get_or log at 0) (long (four_at (at + 1) log) (four_at (at + 5) log))
operand_by true false log strings at = text (take (four_at (at + 5) log) (drop (four_at (at + 1) log) strings))

-- the operand at a place: a string is so many bytes from its start on
unfoldable pub operand_at : List ℕ → List ℕ → ℕ → Operand
operand_at log strings at = operand_by (is_two (get_or log at 0)) (is_long (get_or log at 0)) log strings at
