-- `steps::parts::breaks_of` meets its contract.
use borrow.Author.Rules.{rules}
use Rattle.steps.proofs.Saying.{refused_breaks, kept_breaks, tail_breaks}
use Rattle.steps.proofs.parts.breaks_of.Statement.{statement}
use Rattle.steps.proofs.parts.breaks_of.Tie as tie

pub breaks_of_spec : {M : Type 1} → statement M
breaks_of_spec =
    tie.close
    (tie.spec
    (λ c. refused_breaks _ _ c.if-number-ne-ACCEPTED.true)
    (λ c. kept_breaks _ _ _ c.before.if-number-ne-ACCEPTED.false c.if-kept-ne0.true)
    (λ c κs. search rules)
    (λ c. let at-if2 = c.before in tail_breaks _ _ _ at-if2.before.if-number-ne-ACCEPTED.false at-if2.if-kept-ne0.false _ c.tail_break.ensures))
