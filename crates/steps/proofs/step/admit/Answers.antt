-- `steps::step::admit` meets its contract: not read, no place, no room, or all three.
use Rattle.steps.specs.Steps.{Fair}
use Rattle.spec.proofs.Answered.{passed_on}
use Rattle.steps.proofs.Judging.{judged_unread, judged_misplaced, judged_good, judged_crowded}
use mathlib.Core.Path.{sym, subst, ◌∙◌}
use Rattle.steps.proofs.step.admit.Goals as goal

pub returns-in_err-d : goal.returns-in_err-d
returns-in_err-d c = passed_on _ c.from_residual.ensures ∙ judged_unread _ _ _ _ _ c.in_err-d.was

pub need_after-requires-clause-moderate : goal.need_after-requires-clause-moderate
unfolding Fair
need_after-requires-clause-moderate c = subst Fair c.in_ok-d.was c.requires.fair

pub returns-then-fault-eq-ACCEPTED : goal.returns-then-fault-eq-ACCEPTED
returns-then-fault-eq-ACCEPTED c =
    judged_good _ _ _ _ _ c.in_ok-d.was _ _ (sym c.place.ensures ∙ c.in-Ok.is) _ (c.room_fault-fault.ensures ∙ c.need_after.ensures) c.if-fault-eq-ACCEPTED.true

pub returns-in-Err : goal.returns-in-Err
returns-in-Err c = judged_misplaced _ _ _ _ _ c.in_ok-d.was _ (sym c.place.ensures ∙ c.in-Err.is) _ c.refused.ensures

pub returns-else-fault-eq-ACCEPTED : goal.returns-else-fault-eq-ACCEPTED
returns-else-fault-eq-ACCEPTED c =
    judged_crowded _ _ _ _ _ c.in_ok-d.was _ _ (sym c.place.ensures ∙ c.in-Ok.is) _ (c.room_fault-fault.ensures ∙ c.need_after.ensures) c.if-fault-eq-ACCEPTED.false _ c.refused-in-Ok.ensures
