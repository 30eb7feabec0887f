-- `tracker::index::slot_of` meets its contract.
use native.Mathlib.Omega.{arith}
use Rattle.tracker.proofs.Hinting.{slot_own, slot_shared}
use Rattle.tracker.proofs.index.slot_of.Statement.{statement}
use Rattle.tracker.proofs.index.slot_of.Tie as tie

pub slot_of_spec : {M : Type 1} → statement M
slot_of_spec =
    tie.close
    (tie.spec
    (λ c. omega (arith, c.requires))
    (λ c. omega (arith, c.requires))
    (λ c. let at-start = c.before in omega (arith, at-start.requires))
    (λ c. let at-start = c.before in (slot_own _ _ _ (omega (arith, at-start.requires, c.if-id-shared.true)), omega (arith, at-start.requires, c.if-id-shared.true)))
    (λ c. let at-start = c.before in omega (arith, at-start.requires))
    (λ c. let at-start = c.before in (slot_shared _ _ _ (omega (arith, at-start.requires, c.if-id-shared.false)), omega (arith, at-start.requires))))
