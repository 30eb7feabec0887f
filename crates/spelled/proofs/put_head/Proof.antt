-- `spelled::put_head` meets its contract: three words, one after the other.
-- Assumes nothing.
use Prim.Native.Nat.{◌%◌}
use lib.Dec.{eqb}
use Rattle.spec.specs.Check.{bits_in}
use Rattle.records.proofs.Fields.{word_few}
use native.Mathlib.Omega.{arith}
use Rattle.spelled.proofs.Spell.{result_words_lem, head_put}
use borrow.Author.Rules.{rules}
use Rattle.spelled.proofs.put_head.Statement.{statement}
use Rattle.spelled.proofs.put_head.Tie as tie

put-result-requires : tie.Need-put_result-at-requires
put-result-requires c κs =
    let at_out = c.before.before in
    let at-start = at_out.before.before.before.before.before.before.before in
    (search rules, omega (arith, at-start.requires.1, result_words_lem at-start.args.f, at_out.out-1.given))

put_result_requires_2 : tie.Need-put_result-requires
put_result_requires_2 c κs =
    let at-out2 = c.before.before in
    let at-put-result = at-out2.before in
    let at_out = at-put-result.before.before.before in
    let at-start = at_out.before.before.before.before.before.before.before in
    (omega (arith, at-put-result.put_result-at.ensures.0, word_few (eqb (bits_in at-start.args.f % 2) 1)), omega (arith, at-start.requires.1, result_words_lem at-start.args.f, at-put-result.put_result-at.ensures.0, at-out2.out-2-1.given, at_out.out-1.given))

returns : tie.Need-returns
returns c =
    let at-put-result2 = c.before.before in
    let at-put-result = at-put-result2.before.before.before.before in
    let at-put-word = at-put-result.before.before.before.before in
    let at-start = at-put-word.before.before.before.before.before.before in
    (omega (arith, result_words_lem at-start.args.f, at-put-result.put_result-at.ensures.0, at-put-result2.put_result.ensures.0), head_put at-start.args.out.now _ _ _ at-start.args.f at-put-word.put_word.ensures at-put-result.put_result-at.ensures.1 _ at-put-result.put_result-at.ensures.0 at-put-result2.put_result.ensures.1)

pub put_head_spec : {M : Type 1} → statement M
put_head_spec =
    tie.close
    (tie.spec
    (λ c. search rules)
    (λ c. search rules)
    (λ c κs. search rules)
    put-result-requires
    put_result_requires_2
    (λ c. search rules)
    returns)
