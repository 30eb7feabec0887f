-- `steps::parts::stopped` meets its contract.
use borrow.Author.Rules.{rules}
use Rattle.steps.proofs.Saying.{said_stopped}
use Rattle.steps.proofs.parts.stopped.Statement.{statement}
use Rattle.steps.proofs.parts.stopped.Tie as tie

pub stopped_spec : {M : Type 1} → statement M
stopped_spec =
    tie.close
    (tie.spec
    (λ c κs. search rules)
    (λ c. search rules)
    (λ c. let at-breaks-of = c.before.before in said_stopped _ _ _ _ at-breaks-of.breaks_of-breaks.ensures))
