-- `spelled::put_result` meets its contract: a word that is there, or none.
-- Assumes nothing.
use Rattle.spelled.proofs.Spell.{result_room, result_there, result_none}
use borrow.Author.Rules.{rules}
use Rattle.spelled.proofs.put_result.Statement.{statement}
use Rattle.spelled.proofs.put_result.Tie as tie

returns : tie.Need-returns-then-there
returns c =
    let at-put-word = c.before.before in
    let at-if1 = at-put-word.before.before in
    let at-start = at-if1.before.before in
    result_there at-start.args.out.now _ _ _ _ at-if1.if-there.true at-put-word.put_word.ensures

pub put_result_spec : {M : Type 1} → statement M
put_result_spec = tie.close (tie.spec (λ c κs. result_room _ _ _ c.before.if-there.true c.before.before.before.requires.1) (λ c. search rules) (λ c. search rules) returns (λ c. result_none c.before.before.args.out.now _ _ _ c.if-there.false))
