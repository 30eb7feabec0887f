-- `enumerant::enumerant` meets its contract: the grammar, the limit, the word, the value.
use Rattle.std.proofs.lemmas.Bool.{not_from_true, not_from_false}
use Rattle.spec.proofs.Answered.{passed_on}
use Rattle.enumerant.proofs.ReadLaws.{read_ill, read_spent, read_none, read_known, read_unknown}
use borrow.Author.Tests.{not-true, not-false}
use mathlib.Core.Path.{sym, ◌∙◌}
use Rattle.enumerant.proofs.enumerant.Goals as goal

pub returns-then-not-prepare : goal.returns-then-not-prepare
returns-then-not-prepare c =
    c.refused.ensures ∙ read_ill _ _ _ _ (sym c.prepare.ensures.value ∙ not-true _ (not_from_false _ c.if-not-prepare.true))

pub returns-then-limit_reached : goal.returns-then-limit_reached
returns-then-limit_reached c =
    c.refused-then-limit_reached.ensures
    ∙ rw c.offset-at.ensures (read_spent _ _ _ _ (sym c.prepare.ensures.value ∙ not-false _ (not_from_true _ c.if-not-prepare.false)) (sym c.limit_reached.ensures ∙ c.if-limit_reached.true))

pub returns-in_err-value : goal.returns-in_err-value
returns-in_err-value c =
    passed_on _ c.from_residual.ensures
    ∙ read_none _ _ _ _ (sym c.prepare.ensures.value ∙ not-false _ (not_from_true _ c.if-not-prepare.false)) (sym c.limit_reached.ensures ∙ c.if-limit_reached.false) _ _ c.in_err-value.ensures

pub new-rows-requires : goal.new-rows-requires
new-rows-requires c = c.prepare.ensures.indexed (not-false _ (not_from_true _ c.if-not-prepare.false))

pub returns-then-is_known : goal.returns-then-is_known
returns-then-is_known c =
    read_known _ _ _ _ (sym c.prepare.ensures.value ∙ not-false _ (not_from_true _ c.if-not-prepare.false)) (sym c.limit_reached.ensures ∙ c.if-limit_reached.false) _ _ c.in_ok-value.ensures (sym (rw c.new-rows.ensures.0 at c.is_known.ensures) ∙ c.if-is_known.true)

pub returns : goal.returns
returns c =
    c.refused-2.ensures
    ∙ rw c.offset-at.ensures (read_unknown _ _ _ _ (sym c.prepare.ensures.value ∙ not-false _ (not_from_true _ c.if-not-prepare.false)) (sym c.limit_reached.ensures ∙ c.if-limit_reached.false) _ _ c.in_ok-value.ensures (sym (rw c.new-rows.ensures.0 at c.is_known.ensures) ∙ c.if-is_known.false))
