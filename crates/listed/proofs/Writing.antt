-- How far a number and a byte after it reach.
use Prim.Native.Nat.{ℕ}
use mathlib.Core.List.{List, [], ◌∷◌}
use native.Mathlib.Omega.{arith}
use lib.ListN.{length-append}
use Rattle.spec.specs.Digits.{decimal}
use Rattle.texts.specs.Wrote.{Wrote}
use Rattle.texts.proofs.Laws.{Reach, reach, decimal_few}
use Rattle.listed.specs.Lines.{number_then}

-- at most 21 bytes on
pub number_reach : {a b : List ℕ} {i j : ℕ} (v k : ℕ) → Wrote a b i j (number_then v k) → Reach a b i j 21
unfolding number_then decimal
number_reach v k w = reach 21 w (omega (arith, length-append (decimal v) (k ∷ []), decimal_few v))
