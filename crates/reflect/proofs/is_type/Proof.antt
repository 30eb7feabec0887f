-- `reflect::is_type` meets its contract.
-- Assumes nothing.
use Prim.Native.Nat.{ℕ}
use mathlib.Core.Path.{refl, ap, sym}
use mathlib.Core.List.{List, [], ◌∷◌}
use mathlib.Core.Logic.{⊎_elim}
use native.Mathlib.Omega.{arith}
use lib.Ieee.Bits.{is_true}
use Rattle.spec.specs.Types.{tracked_types, is_type}
use Rattle.reflect.proofs.Arms.{passed, absent}
use Rattle.reflect.proofs.is_type.Statement.{statement}
use Rattle.reflect.proofs.is_type.Tie as tie

-- the numbers that are named on their own
abbrev own : List (List ℕ)
own = (4472 ∷ 5341 ∷ []) ∷ []

pub is_type_spec : {M : Type 1} → statement M
is_type_spec =
    tie.close
    (tie.spec
    (λ c. sym (absent own {a = 0} c.in_default.in_default-own.rest (omega arith) c.in_default.if-matches-own.true tracked_types tt))
    (λ c. let at-match = c in sym (absent own {b = 65536} at-match.in_default.in_default-own.rest c.in_default.if-matches-2-own.false (omega arith) tracked_types tt))
    (λ c. ⊎_elim (λ e. sym (ap is_type e)) (λ e. sym (ap is_type e)) c.in-19-to-39.in-19-to-39-own.keys1)
    (λ c. let at-match = c in sym (is_true _ (passed own at-match.in-19-to-39.in_default-own.rest c.in-19-to-39.if-matches-own.false c.in-19-to-39.if-matches-2-own.true is_type refl))))
