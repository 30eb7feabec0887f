-- `tracker::index::marks_for` meets its contract.
use native.Mathlib.Omega.{arith}
use Rattle.tracker.proofs.Hinting.{marks_none, marks_many}
use Rattle.tracker.proofs.index.marks_for.Statement.{statement}
use Rattle.tracker.proofs.index.marks_for.Tie as tie

pub marks_for_spec : {M : Type 1} → statement M
marks_for_spec =
    tie.close
    (tie.spec
    (λ c. marks_none _ _ c.if-bound-hints.true)
    (λ c. let at-start = c.before in omega (arith, at-start.requires))
    (λ c. marks_many _ _ c.if-bound-hints.false))
