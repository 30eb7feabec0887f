-- `records::offset_after` meets its contract: by each test in turn.
-- Assumes nothing.
use Rattle.std.proofs.lemmas.Bool.{not_from_true, not_from_false}
use Rattle.records.proofs.Fields.{offset_fields, offset_other, offset_long, offset_next}
use borrow.Author.Tests.{not-true, not-false}
use mathlib.Core.Path.{sym, ◌∙◌}
use borrow.Author.Rules.{rules}
use Rattle.records.proofs.offset_after.Statement.{statement}
use Rattle.records.proofs.offset_after.Tie as tie

returns-2 : tie.Need-returns-then-f-at
returns-2 c =
    let at-if1 = c.before.before in
    let at-fields-hold = at-if1.before in
    offset_other _ _ (sym at-fields-hold.fields_hold.ensures ∙ not-false _ (not_from_true _ at-if1.if-not-fields_hold.false)) c.if-f-at.true

returns-3 : tie.Need-returns-then-f-gt65535
returns-3 c =
    let at-if2 = c.before.before in
    let at-if1 = at-if2.before.before in
    let at-fields-hold = at-if1.before in
    offset_long _ _ (sym at-fields-hold.fields_hold.ensures ∙ not-false _ (not_from_true _ at-if1.if-not-fields_hold.false)) at-if2.if-f-at.false c.if-f-gt65535.true

returns-4 : tie.Need-returns
returns-4 c =
    let at-if2 = c.before.before.before in
    let at-if1 = at-if2.before.before in
    let at-fields-hold = at-if1.before in
    offset_next _ _ (sym at-fields-hold.fields_hold.ensures ∙ not-false _ (not_from_true _ at-if1.if-not-fields_hold.false)) at-if2.if-f-at.false c.before.if-f-gt65535.false

pub offset_after_spec : {M : Type 1} → statement M
offset_after_spec =
    tie.close
    (tie.spec
    (λ c κs. search rules)
    (λ c. offset_fields _ _ (sym c.before.fields_hold.ensures ∙ not-true _ (not_from_false _ c.if-not-fields_hold.true)))
    (λ c. search rules)
    returns-2
    returns-3
    (λ c. search rules)
    (λ c. search rules)
    (λ c. search rules)
    returns-4)
