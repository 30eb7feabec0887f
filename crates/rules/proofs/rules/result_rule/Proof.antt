-- `rules::rules::result_rule` meets its contract.
use Rattle.std.proofs.lemmas.Bool.{not_from_true, not_from_false}
use mathlib.Core.Path.{sym, ◌∙◌}
use lib.Dec.{eqb}
use borrow.Author.Tests.{eq-eqb, ne_eqb, not-true, not-false}
use Rattle.rules.proofs.RuleLaws.{result_none, result_many, result_first, result_later, first_kept, later_kept, alone_kept}
use borrow.Author.Rules.{rules}
use Rattle.rules.proofs.rules.result_rule.Statement.{statement}
use Rattle.rules.proofs.rules.result_rule.Tie as tie

returns : tie.Need-returns-then-not-is_result
returns c before e =
    let at-start = c.before.before in
    result_none before at-start.args.k at-start.args.q (sym c.before.is_result.ensures ∙ not-true _ (not_from_false _ c.if-not-is_result.true))

returns-2 : tie.Need-returns-then-q-ne-ONE
returns-2 c before e =
    let at-is-result = c.before.before in
    let at-start = at-is-result.before in
    result_many before at-start.args.k at-start.args.q (sym at-is-result.is_result.ensures ∙ not-false _ (not_from_true _ c.before.if-not-is_result.false)) (ne_eqb _ _ c.if-q-ne-ONE.true)

returns-3 : tie.Need-returns-then-p-eq0
returns-3 c before e =
    let at-if2 = c.before.before in
    let at-if1 = at-if2.before in
    let at-is-result = at-if1.before in
    let at-start = at-is-result.before in
    result_first before at-start.args.k at-start.args.q (sym at-is-result.is_result.ensures ∙ not-false _ (not_from_true _ at-if1.if-not-is_result.false)) (eq-eqb _ _ at-if2.if-q-ne-ONE.false) (first_kept before _ e c.if-p-eq0.true)

returns-4 : tie.Need-returns
returns-4 c before e =
    let at-if3 = c.before.before in
    let at-if2 = at-if3.before.before in
    let at-if1 = at-if2.before in
    let at-is-result = at-if1.before in
    let at-start = at-is-result.before in
    alone_kept before _ e (eqb at-start.args.k 47) ∙ result_later before at-start.args.k at-start.args.q (sym at-is-result.is_result.ensures ∙ not-false _ (not_from_true _ at-if1.if-not-is_result.false)) (eq-eqb _ _ at-if2.if-q-ne-ONE.false) (later_kept before _ e at-if3.if-p-eq0.false)

pub result_rule_spec : {M : Type 1} → statement M
result_rule_spec = tie.close (tie.spec (λ c κs. search rules) returns returns-2 returns-3 returns-4)
