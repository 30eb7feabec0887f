-- `rules::rules::lead_with` meets its contract.
use borrow.Author.Tests.{eq-eqb, ne_eqb}
use Rattle.rules.specs.Rules.{lead_with}
use Rattle.rules.proofs.rules.lead_with.Statement.{statement}
use Rattle.rules.proofs.rules.lead_with.Tie as tie

returns : tie.Need-returns-then-lead-ne-NO_LEAD
unfolding lead_with
returns c = simp (ne_eqb _ _ c.if-lead-ne-NO_LEAD.true)

returns-2 : tie.Need-returns-then-k-q
unfolding lead_with
returns-2 c = simp (eq-eqb _ _ c.before.if-lead-ne-NO_LEAD.false, c.if-k-q.true)

returns-3 : tie.Need-returns-else-k-q
unfolding lead_with
returns-3 c = simp (eq-eqb _ _ c.before.if-lead-ne-NO_LEAD.false, c.if-k-q.false)

pub lead_with_spec : {M : Type 1} → statement M
lead_with_spec = tie.close (tie.spec returns returns-2 returns-3)
