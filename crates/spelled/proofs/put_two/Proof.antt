-- `spelled::put_two` meets its contract: a string or two words.
-- Assumes nothing.
use Rattle.spec.specs.Words.{bytes_of}
use native.Mathlib.Omega.{arith}
use lib.ListN.{length}
use mathlib.Core.Path.{refl, ap}
use Rattle.spelled.proofs.Spell.{two_bytes, text_bytes, text_inside, two_put, put_by}
use borrow.Author.Rules.{rules}
use Rattle.spelled.proofs.put_two.Statement.{statement}
use Rattle.spelled.proofs.put_two.Tie as tie

word_at_requires_2 : tie.Need-word_at-high-requires
word_at_requires_2 c κs =
    let at-start = c.before.before.before.before in
    omega (arith, at-start.requires.0.whole.nine at-start.requires.1.0)

part_put_text_end : tie.Need-slice_bounds-put_text-end
part_put_text_end c =
    let at-word-at2 = c.before.before.before in
    let at-word-at = at-word-at2.before in
    let at-start = c.before.before.before.before.before.before.before.before in
    text_inside at-start.args.log.now at-start.args.strings.now at-start.args.a at-start.requires.0 c.before.if-log-a-eq-STRING.true _ _ at-word-at.word_at-low.ensures at-word-at2.word_at-high.ensures

put-text-requires : tie.Need-put_text-requires
put-text-requires c κs =
    let at-if1 = c.before.before in
    let at-word-at2 = at-if1.before.before in
    let at-word-at = at-word-at2.before in
    let at-start = c.before.before.before.before.before.before.before.before.before in
    omega (arith, at-start.requires.1.1, ap length (text_bytes at-start.args.log.now at-start.args.strings.now at-start.args.a at-if1.if-log-a-eq-STRING.true _ _ at-word-at.word_at-low.ensures at-word-at2.word_at-high.ensures))

returns : tie.Need-returns-then-log-a-eq-STRING
returns c =
    let at-put-text = c.before.before in
    let at-if1 = at-put-text.before.before.before in
    let at-word-at2 = at-if1.before.before in
    let at-word-at = at-word-at2.before in
    let at-start = c.before.before.before.before.before.before.before.before.before.before.before.before in
    put_by at-start.args.out.now _ _ _ _ (text_bytes at-start.args.log.now at-start.args.strings.now at-start.args.a at-if1.if-log-a-eq-STRING.true _ _ at-word-at.word_at-low.ensures at-word-at2.word_at-high.ensures) at-put-text.put_text.ensures.0 at-put-text.put_text.ensures.1

put-word-requires : tie.Need-put_word-requires
unfolding bytes_of
put-word-requires c κs =
    let at-word-at2 = c.before.before.before in
    let at-word-at = at-word-at2.before in
    let at-start = c.before.before.before.before.before.before.before.before in
    omega (arith, at-start.requires.1.1, ap length (two_bytes at-start.args.log.now at-start.args.strings.now at-start.args.a at-start.requires.1.0 c.before.if-log-a-eq-STRING.false _ _ at-word-at.word_at-low.ensures at-word-at2.word_at-high.ensures (search rules)))

put_word_requires_2 : tie.Need-put_word-requires-2
unfolding bytes_of
put_word_requires_2 c κs =
    let at-out2 = c.before.before in
    let at-if1 = at-out2.before.before.before in
    let at-word-at2 = at-if1.before.before in
    let at-word-at = at-word-at2.before in
    let at-start = c.before.before.before.before.before.before.before.before.before.before.before.before in
    omega (arith, at-start.requires.1.1, at-out2.out-2-1.given, ap length (two_bytes at-start.args.log.now at-start.args.strings.now at-start.args.a at-start.requires.1.0 at-if1.if-log-a-eq-STRING.false _ _ at-word-at.word_at-low.ensures at-word-at2.word_at-high.ensures (search rules)))

returns-2 : tie.Need-returns
unfolding bytes_of
returns-2 c =
    let at-put-word2 = c.before.before in
    let at-put-word = at-put-word2.before.before.before.before in
    let at-if1 = at-put-word.before.before in
    let at-word-at2 = at-if1.before.before in
    let at-word-at = at-word-at2.before in
    let at-start = c.before.before.before.before.before.before.before.before.before.before.before.before.before.before.before in
    put_by at-start.args.out.now _ _ _ _ (two_bytes at-start.args.log.now at-start.args.strings.now at-start.args.a at-start.requires.1.0 at-if1.if-log-a-eq-STRING.false _ _ at-word-at.word_at-low.ensures at-word-at2.word_at-high.ensures (search rules)) refl (two_put at-start.args.out.now _ _ _ _ at-put-word.put_word.ensures at-put-word2.put_word-2.ensures)

pub put_two_spec : {M : Type 1} → statement M
put_two_spec =
    tie.close
    (tie.spec
    (λ c. search rules)
    (λ c κs. search rules)
    (λ c. search rules)
    word_at_requires_2
    (λ c. search rules)
    (λ c. search rules)
    (λ c. search rules)
    (λ c. search rules)
    (λ c. search rules)
    (λ c. search rules)
    part_put_text_end
    put-text-requires
    (λ c. search rules)
    returns
    put-word-requires
    put_word_requires_2
    (λ c. search rules)
    returns-2)
