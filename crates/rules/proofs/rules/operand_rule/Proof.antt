-- `rules::rules::operand_rule` meets its contract.
use Rattle.std.proofs.lemmas.Bool.{not_from_false}
use mathlib.Core.Path.{sym, ◌∙◌}
use native.Mathlib.Omega.{arith}
use borrow.Author.Tests.{not-true}
use Rattle.rules.proofs.RuleLaws.{result_alone, free_alone}
use borrow.Author.Rules.{rules}
use Rattle.rules.proofs.rules.operand_rule.Statement.{statement}
use Rattle.rules.proofs.rules.operand_rule.Tie as tie

returns : tie.Need-returns-then-is_result
returns c before e =
    let at-is-result = c.before.before in
    let at-if1 = at-is-result.before in
    let at-is-fixed = at-if1.before in
    let at-start = at-is-fixed.before in
    c.result_rule.ensures before e ∙ result_alone at-start.args.op before at-start.args.k at-start.args.q (sym at-is-fixed.is_fixed.ensures ∙ not-true _ (not_from_false _ at-if1.if-not-is_fixed.true)) (sym at-is-result.is_result.ensures ∙ c.before.if-is_result.true)

returns-2 : tie.Need-returns-then-is_free
returns-2 c before e =
    let at-if1 = c.before.before.before.before in
    let at-is-fixed = at-if1.before in
    let at-start = at-is-fixed.before in
    free_alone at-start.args.op before at-start.args.k at-start.args.q (sym at-is-fixed.is_fixed.ensures ∙ not-true _ (not_from_false _ at-if1.if-not-is_fixed.true)) (omega arith) (sym c.before.is_free.ensures ∙ c.if-is_free.true)

returns-3 : tie.Need-returns
returns-3 c before e =
    let at-result-rule2 = c.before.before in
    let at-may-be-operand = at-result-rule2.before in
    rw (c.fixed_rule.ensures before e, c.before.literal_rule.ensures before e, at-result-rule2.result_rule-2.ensures before e, at-may-be-operand.may_be_operand.ensures)

pub operand_rule_spec : {M : Type 1} → statement M
operand_rule_spec =
    tie.close
    (tie.spec
    (λ c κs. search rules)
    (λ c κs. search rules)
    (λ c κs. search rules)
    returns
    (λ c κs. search rules)
    returns-2
    (λ c κs. search rules)
    (λ c κs. search rules)
    (λ c κs. search rules)
    (λ c κs. search rules)
    returns-3)
