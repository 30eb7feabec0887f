-- Tracking over what an instruction is handed on as: ids, how many operands, and the first two.
use Rattle.std.specs.Prelude.{ℕ, ◌≤◌, ◌≡◌, List, [], ◌∷◌, leb, eqb, length, if◌then◌else◌}
use Rattle.std.specs.Prelude.{Option, None, Some}
use Rattle.spec.specs.Records as records
use Rattle.spec.specs.Records.{Entry}
use Rattle.spec.specs.Types.{is_type, define, literal_int, define_int, define_float, track_value}
use Rattle.operand.specs.declared.Parts.{Parts}
use Rattle.operand.specs.Parts.{Fits}
use Rattle.tracker.specs.declared.Scalar.{Scalar}
use Rattle.tracker.specs.declared.Told.{Told}
use Rattle.tracker.specs.declared.TypeTracker.{TypeTracker}
use Rattle.tracker.specs.Entries.{stored}
use Rattle.tracker.specs.Hints.{new_of, hints_with, greatest_with, Hinted}

-- the first two operands have a kind and a value of an operand, where they are there
pub record FirstFit (count : ℕ) (a b : Parts) : Type 0 where
  pub first : 1 ≤ count → Fits a.kind a.value
  pub second : 2 ≤ count → Fits b.kind b.value

-- the number of an operand that is a LiteralInt32, the arm of kind 34
unfoldable pub literal_of : Parts → Option ℕ
literal_of p = if eqb p.kind 34 then Some p.value else None

-- OpTypeInt: with fewer than two operands nothing is tracked
unfoldable pub int_of : ℕ → ℕ → Option ℕ → Option ℕ → List Entry → List Entry
int_of i count w sign es = if leb 2 count then define_int i w sign es else es

-- OpTypeFloat: with no operand nothing is tracked
unfoldable pub float_of : ℕ → ℕ → Option ℕ → List Entry → List Entry
float_of i count w es = if leb 1 count then define_float i w es else es

-- a result that is a type: integers and floats alone are tracked
unfoldable pub type_of : ℕ → ℕ → ℕ → Option ℕ → Option ℕ → List Entry → List Entry
type_of op i count a b es = if eqb op 21 then int_of i count a b es else if eqb op 22 then float_of i count a es else es

-- the entries after an instruction: its opcode, result type and result id, how many operands it has, and the numbers of the first two
unfoldable pub track_of : ℕ → Option ℕ → Option ℕ → ℕ → Option ℕ → Option ℕ → List Entry → List Entry
track_of op t None count a b es = es
track_of op t (Some i) count a b es = if is_type op then type_of op i count a b es else track_value i t es

-- the entries after an instruction of which this is told, with a result id, or none, in place of its own
unfoldable pub told_with : Told → Option ℕ → List Entry → List Entry
told_with t i es = track_of t.opcode t.rtype i t.operands (literal_of t.first) (literal_of t.second) es

-- the entries after an instruction of which this is told
unfoldable pub told_of : Told → List Entry → List Entry
told_of t es = told_with t t.rid es

-- the first two of some operands have these literal numbers, where they are there
unfoldable pub Literals : List records.Operand → Option ℕ → Option ℕ → Type 0
Literals [] a b = Unit
Literals (x ∷ []) a b = literal_int x ≡ a
Literals (x ∷ y ∷ os) a b = (literal_int x ≡ a) × (literal_int y ≡ b)

-- the entries with the type of an id, where that is known
unfoldable pub defined : ℕ → Option Scalar → List Entry → List Entry
defined i (Some x) es = define i x.width x.sort es
defined i None es = es

-- a tracker and its stores after a change of the entries: they are stored, those that are new are hinted, and the hints are right
pub record Tracked (t : TypeTracker) (types hints types₁ hints₁ : List ℕ) (es : List Entry) (r : TypeTracker) : Type 0 where
  pub count : r.count ≡ length es
  pub store : types₁ ≡ stored types es
  pub hints_are : hints₁ ≡ hints_with t.marks t.count (new_of t.count es) hints
  pub greatest : r.greatest ≡ greatest_with (new_of t.count es) t.greatest
  pub marks : r.marks ≡ t.marks
  pub hinted : Hinted r types₁ hints₁
