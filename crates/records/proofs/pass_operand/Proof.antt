-- `records::pass_operand` meets its contract: by each test in turn.
-- Assumes nothing.
use Rattle.std.proofs.lemmas.Bool.{not_from_true, not_from_false}
use Rattle.records.proofs.Operands.{unknown_low, unknown_high, known, one_below, operand_few, operand_unknown, operand_one, operand_cut, operand_text_lem, operand_two}
use borrow.Author.Tests.{not-true, not-false}
use mathlib.Core.Path.{sym, ◌∙◌}
use native.Mathlib.Omega.{arith}
use borrow.Author.Rules.{rules}
use Rattle.records.proofs.pass_operand.Statement.{statement}
use Rattle.records.proofs.pass_operand.Tie as tie

returns : tie.Need-returns-then-left-lt5
returns c =
    let at-start = c.before.before.before in
    operand_few _ _ _ _ at-start.requires.0.0 at-start.requires.0.1 c.if-left-lt5.true

returns-2 : tie.Need-returns-then-kind-lt1
returns-2 c =
    let at-start = c.before.before.before.before.before in
    operand_unknown _ _ _ _ at-start.requires.0.0 at-start.requires.0.1 (unknown_low _ c.if-kind-lt1.true)

returns-3 : tie.Need-returns-then-kind-lt-INT64
returns-3 c =
    let at-if1 = c.before.before.before in
    let at-start = at-if1.before.before.before in
    operand_one _ _ _ _ at-start.requires.0.0 at-start.requires.0.1 at-if1.if-left-lt5.false (known _ c.before.if-kind-lt1.false (omega arith)) (one_below _ c.if-kind-lt-INT64.true)

returns-4 : tie.Need-returns-then-kind-gt45
returns-4 c =
    let at-start = c.before.before.before.before.before.before.before in
    operand_unknown _ _ _ _ at-start.requires.0.0 at-start.requires.0.1 (unknown_high _ c.if-kind-gt45.true)

returns-5 : tie.Need-returns-then-not-is_two
returns-5 c =
    let at-if4 = c.before.before in
    let at-if2 = at-if4.before.before in
    let at-if1 = at-if2.before.before in
    let at-start = at-if1.before.before.before in
    operand_one _ _ _ _ at-start.requires.0.0 at-start.requires.0.1 at-if1.if-left-lt5.false (known _ at-if2.if-kind-lt1.false at-if4.if-kind-gt45.false) (sym c.before.is_two.ensures ∙ not-true _ (not_from_false _ c.if-not-is_two.true))

returns-6 : tie.Need-returns-then-left-lt9
returns-6 c =
    let at-is-two = c.before.before in
    let at-start = at-is-two.before.before.before.before.before.before.before.before in
    operand_cut _ _ _ _ at-start.requires.0.0 at-start.requires.0.1 (sym at-is-two.is_two.ensures ∙ not-false _ (not_from_true _ c.before.if-not-is_two.false)) c.if-left-lt9.true

pass-text-requires : tie.Need-pass_text-requires
pass-text-requires c κs =
    let at-start = c.before.before.before.before.before.before.before.before.before.before.before.before.before in
    (search rules, (search rules, at-start.requires.1))

returns-7 : tie.Need-returns-then-kind-eq-STRING
returns-7 c =
    let at-word-at = c.before.before in
    let at-if7 = at-word-at.before in
    let at-if6 = at-if7.before in
    let at-start = at-if6.before.before.before.before.before.before.before.before.before.before in
    operand_text_lem _ _ _ _ at-start.requires.0.0 at-start.requires.0.1 at-if6.if-left-lt9.false at-if7.if-kind-eq-STRING.true _ _ at-word-at.word_at-start.ensures c.before.word_at-size.ensures _ c.pass_text.ensures

returns-8 : tie.Need-returns
returns-8 c =
    let at-if5 = c.before.before in
    let at-is-two = at-if5.before in
    let at-if4 = at-is-two.before in
    let at-if2 = at-if4.before.before in
    let at-start = at-if2.before.before.before.before.before in
    operand_two _ _ _ _ at-start.requires.0.0 at-start.requires.0.1 c.before.if-left-lt9.false (known _ at-if2.if-kind-lt1.false at-if4.if-kind-gt45.false) (sym at-is-two.is_two.ensures ∙ not-false _ (not_from_true _ at-if5.if-not-is_two.false)) c.if-kind-eq-STRING.false

pub pass_operand_spec : {M : Type 1} → statement M
pass_operand_spec =
    tie.close
    (tie.spec
    (λ c. search rules)
    returns
    (λ c. search rules)
    returns-2
    (λ c. search rules)
    returns-3
    returns-4
    (λ c κs. search rules)
    (λ c. search rules)
    returns-5
    returns-6
    (λ c. search rules)
    (λ c κs. search rules)
    (λ c. search rules)
    (λ c κs. search rules)
    pass-text-requires
    returns-7
    (λ c. search rules)
    returns-8)
