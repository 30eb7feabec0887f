-- `join::merge` meets its contract.
use Rattle.std.proofs.lemmas.Result.{err_from_is_err_and}
use Rattle.join.proofs.WalkLaws.{walk_start, on_told, differ_told, on_within, walk_room, walk_turn, walk_less, walk_clash, walk_end}
use Rattle.join.proofs.merge.Goals as goal

pub loop-i-init : goal.loop-i-init
loop-i-init c = walk_start _ _ _ _ c.requires.first_value

pub returns-in_err-i2 : goal.returns-in_err-i2
returns-in_err-i2 c =
    let p = err_from_is_err_and c.from_residual.result c.from_residual.ensures.1 in
    rw (p.1, p.2) (walk_clash c.loop-i.invariant _ c.requires.may_keep (differ_told _ _ _ _ _ _ c.step_at.ensures c.in_err-i2.was))

pub put_taken-at-requires-clause-i_le_i2 : goal.put_taken-at-requires-clause-i_le_i2
put_taken-at-requires-clause-i_le_i2 c = on_within (on_told _ _ _ c.step_at.ensures c.in_ok-i2.was)

pub put_taken-at-requires-clause-j2_in_bounds : goal.put_taken-at-requires-clause-j2_in_bounds
put_taken-at-requires-clause-j2_in_bounds c =
    (walk_room c.loop-i.invariant (on_told _ _ _ c.step_at.ensures c.in_ok-i2.was) c.requires.first_value c.requires.may_keep).0

pub put_taken-at-requires-clause-j2_bound : goal.put_taken-at-requires-clause-j2_bound
put_taken-at-requires-clause-j2_bound c =
    (walk_room c.loop-i.invariant (on_told _ _ _ c.step_at.ensures c.in_ok-i2.was) c.requires.first_value c.requires.may_keep).1

pub loop-i-smaller : goal.loop-i-smaller
loop-i-smaller c = walk_less c.loop-i.invariant (on_told _ _ _ c.step_at.ensures c.in_ok-i2.was)

pub loop-i-preserved : goal.loop-i-preserved
loop-i-preserved c =
    walk_turn c.loop-i.invariant (on_told _ _ _ c.step_at.ensures c.in_ok-i2.was) _ _ (c.put_taken-at.ensures.value, c.put_taken-at.ensures.out_after)

pub returns : goal.returns
returns c = walk_end c.loop-i.invariant c.loop-i-test.false
