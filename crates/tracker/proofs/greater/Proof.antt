-- `tracker::greater` meets its contract.
use Rattle.tracker.proofs.Hinting.{second_greater, first_greater}
use Rattle.tracker.proofs.greater.Statement.{statement}
use Rattle.tracker.proofs.greater.Tie as tie

pub greater_spec : {M : Type 1} → statement M
greater_spec =
    tie.close
    (tie.spec
    (λ c. second_greater _ _ c.if-a-b.true)
    (λ c. first_greater _ _ c.if-a-b.false))
