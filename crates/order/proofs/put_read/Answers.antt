use Rattle.std.proofs.Common.{arith}
use Rattle.spelled.proofs.Spell.{lent_room}
use Rattle.spelled.proofs.Stores.{stores_at, stores_in}
use Rattle.ranges.proofs.Offsets.{none_put, offset_room, offset_put, all_put}
use Rattle.order.proofs.put_read.Goals as goal

pub loop-i-init : goal.loop-i-init
loop-i-init c = none_put _

pub record_at-f-requires : goal.record_at-f-requires
record_at-f-requires c = stores_in _ _ _ _ c.args.good.stores _ c.loop-i-test.true

pub slice_bounds-put_instruction-count : goal.slice_bounds-put_instruction-count
slice_bounds-put_instruction-count c =
    omega (arith, offset_room _ _ _ _ c.args.good.stores _ c.loop-i-test.true _ c.record_at-f.ensures _ _ c.loop-i.invariant c.requires)

pub slice_bounds-put_instruction-start : goal.slice_bounds-put_instruction-start
slice_bounds-put_instruction-start c =
    omega (arith, offset_room _ _ _ _ c.args.good.stores _ c.loop-i-test.true _ c.record_at-f.ensures _ _ c.loop-i.invariant c.requires)

pub put_instruction-requires : goal.put_instruction-requires
put_instruction-requires c = record {
  sound = (stores_at _ _ _ _ c.args.good.stores _ c.loop-i-test.true _ c.record_at-f.ensures).sound;
  words_in_bounds = lent_room c.loop-i.out _ _ (offset_room _ _ _ _ c.args.good.stores _ c.loop-i-test.true _ c.record_at-f.ensures _ _ c.loop-i.invariant c.requires);
}

-- one more is put at its offset
pub loop-i-preserved : goal.loop-i-preserved
loop-i-preserved c =
    offset_put _ _ _ _ c.args.good.stores _ c.loop-i-test.true _ c.record_at-f.ensures _ c.loop-i.out c.loop-i.invariant c.put_instruction.new.out c.put_instruction.ensures

pub returns : goal.returns
returns c = all_put _ _ _ _ c.args.good.stores _ c.loop-i-test.false _ _ c.loop-i.invariant
