-- Tracking what an instruction is handed on as is tracking the instruction.
use Prim.Native.Nat.{ℕ}
use mathlib.Core.Path.{◌≡◌, refl, ap, subst}
use mathlib.Core.List.{List, [], ◌∷◌}
use Rattle.std.specs.Prelude.{Option, None, Some}
use native.Mathlib.Omega.{arith}
use lib.ListN.{length}
use borrow.Author.Tests.{le-leb, lt-leb}
use Rattle.std.specs.Prelude.{if◌then◌else◌}
use Rattle.spec.specs.Records.{Operand, Instr, Entry}
use Rattle.spec.specs.Types.{is_type, literal_int, track_int, track_float, track_type, track_value, track_result, track}
use Rattle.tracker.specs.Track.{int_of, float_of, type_of, track_of, Literals}
use Rattle.tracker.proofs.Growth.{Grown, track_grows}

module _ (i count : ℕ) (a b : Option ℕ) (es : List Entry) where
  -- OpTypeInt
  as_int : (os : List Operand) → length os ≡ count → Literals os a b → int_of i count a b es ≡ track_int i os es
  unfolding int_of Literals
  as_int [] h l = simp (lt-leb 2 count (omega arith))
  as_int (x ∷ []) h l = simp (lt-leb 2 count (omega arith))
  as_int (x ∷ y ∷ os) h l = simp (le-leb 2 count (omega arith), l.0, l.1)

  -- OpTypeFloat
  as_float : (os : List Operand) → length os ≡ count → Literals os a b → float_of i count a es ≡ track_float i os es
  unfolding float_of Literals
  as_float [] h l = simp (lt-leb 1 count (omega arith))
  as_float (x ∷ []) h l = simp (le-leb 1 count (omega arith), l)
  as_float (x ∷ y ∷ os) h l = simp (le-leb 1 count (omega arith), l.0)

  -- a type
  as_type : (op : ℕ) (os : List Operand) → length os ≡ count → Literals os a b → type_of op i count a b es ≡ track_type op i os es
  unfolding type_of
  as_type op os h l = simp (as_int os h l, as_float os h l)

-- a result
as_result : (op : ℕ) (t rid : Option ℕ) (count : ℕ) (a b : Option ℕ) (es : List Entry) (os : List Operand) → length os ≡ count
    → Literals os a b → track_of op t rid count a b es ≡ track_result op t rid os es
unfolding track_of
as_result op t None count a b es os h l = refl
as_result op t (Some i) count a b es os h l = ap (λ (z : List Entry). if is_type op then z else track_value i t es) (as_type i count a b es op os h l)

-- an instruction with so many operands, whose first two have these literal numbers, is tracked so
pub track_as : (i : Instr) (count : ℕ) (a b : Option ℕ) (es : List Entry) → length i.operands ≡ count → Literals i.operands a b
    → track_of i.opcode i.result_type i.result_id count a b es ≡ track i es
unfolding track
track_as i count a b es h l = as_result i.opcode i.result_type i.result_id count a b es i.operands h l

-- operands have some literal numbers
literals_own : (os : List Operand) → (a : Option ℕ) × (b : Option ℕ) × Literals os a b
unfolding Literals
literals_own [] = (None, None, tt)
literals_own (x ∷ []) = (literal_int x, None, refl)
literals_own (x ∷ y ∷ os) = (literal_int x, literal_int y, (refl, refl))

-- an instruction adds an entry at most, and takes none away
pub instruction_grows : (i : Instr) (es : List Entry) → Grown es (track i es)
instruction_grows i es =
    let own = literals_own i.operands in
    subst (Grown es) (track_as i (length i.operands) own.0 own.1 es refl own.2)
    (track_grows i.opcode i.result_type i.result_id (length i.operands) own.0 own.1 es)
