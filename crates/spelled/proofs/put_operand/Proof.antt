-- `spelled::put_operand` meets its contract: by the kind.
-- Assumes nothing.
use Rattle.spec.specs.Words.{bytes_of}
use native.Mathlib.Omega.{arith}
use lib.ListN.{length}
use mathlib.Core.Path.{refl, ap, sym, ◌∙◌}
use Rattle.spelled.proofs.Spell.{one_bytes, put_by, after_two, after_one}
use borrow.Author.Rules.{rules}
use Rattle.spelled.proofs.put_operand.Statement.{statement}
use Rattle.spelled.proofs.put_operand.Tie as tie

put-two-requires : tie.Need-put_two-n-requires
put-two-requires c κs =
    let at-has-two = c.before.before in
    let at-start = c.before.before.before.before.before.before.before in
    (at-start.requires.0, (sym at-has-two.has_two.ensures ∙ c.before.if-has_two.true, at-start.requires.1))

returns : tie.Need-returns-then-has_two
returns c =
    let at-put-two = c.before.before in
    let at-if1 = at-put-two.before.before in
    let at-has-two = at-if1.before in
    (after_two _ _ (sym at-has-two.has_two.ensures ∙ at-if1.if-has_two.true), at-put-two.put_two-n.ensures)

put-word-requires : tie.Need-put_word-requires
unfolding bytes_of
put-word-requires c κs =
    let at-if1 = c.before.before in
    let at-has-two = at-if1.before in
    let at-start = c.before.before.before.before.before.before.before.before in
    omega (arith, at-start.requires.1, ap length (one_bytes at-start.args.log.now at-start.args.strings.now at-start.args.a (sym at-has-two.has_two.ensures ∙ at-if1.if-has_two.false) _ c.word_at.ensures))

returns-2 : tie.Need-returns
unfolding bytes_of
returns-2 c =
    let at-put-word = c.before.before in
    let at-word-at = at-put-word.before in
    let at-if1 = at-word-at.before.before in
    let at-has-two = at-if1.before in
    let at-start = c.before.before.before.before.before.before.before.before.before.before.before in
    (after_one _ _ (sym at-has-two.has_two.ensures ∙ at-if1.if-has_two.false), put_by at-start.args.out.now _ _ _ _ (one_bytes at-start.args.log.now at-start.args.strings.now at-start.args.a (sym at-has-two.has_two.ensures ∙ at-if1.if-has_two.false) _ at-word-at.word_at.ensures) refl at-put-word.put_word.ensures)

pub put_operand_spec : {M : Type 1} → statement M
put_operand_spec =
    tie.close
    (tie.spec
    (λ c. search rules)
    (λ c κs. search rules)
    put-two-requires
    (λ c. search rules)
    (λ c. search rules)
    returns
    (λ c. search rules)
    (λ c κs. search rules)
    put-word-requires
    (λ c. search rules)
    (λ c. search rules)
    returns-2)
