-- `rules::rules::fixed_rule` meets its contract.
use Rattle.rules.proofs.RuleLaws.{fixed_three, fixed_two}
use Rattle.rules.specs.Rules.{passed_of}
use borrow.Author.Tests.{eq-eqb, ne_eqb}
use borrow.Author.Rules.{rules}
use Rattle.rules.proofs.rules.fixed_rule.Statement.{statement}
use Rattle.rules.proofs.rules.fixed_rule.Tie as tie

returns : tie.Need-returns-then-op-eq-TYPE_INT
unfolding passed_of
returns c before e = rw (c.fixed_kind.ensures, e) (simp (eq-eqb _ _ c.before.if-op-eq-TYPE_INT.true, fixed_three))

returns-2 : tie.Need-returns-then-op-eq-TYPE_FLOAT
unfolding passed_of
returns-2 c before e =
    let at-if1 = c.before.before in
    rw (c.fixed_kind-then-op-eq-TYPE_FLOAT.ensures, e) (simp (ne_eqb _ _ at-if1.if-op-eq-TYPE_INT.false, eq-eqb _ _ c.before.if-op-eq-TYPE_FLOAT.true, fixed_two))

returns-3 : tie.Need-returns
returns-3 c before e = simp (ne_eqb _ _ c.before.if-op-eq-TYPE_INT.false, ne_eqb _ _ c.if-op-eq-TYPE_FLOAT.false)

pub fixed_rule_spec : {M : Type 1} → statement M
fixed_rule_spec =
    tie.close (tie.spec (λ c κs. search rules) returns (λ c κs. search rules) returns-2 returns-3)
