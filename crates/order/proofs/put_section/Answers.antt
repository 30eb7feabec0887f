use Rattle.std.proofs.Common.{arith}
use Rattle.spelled.proofs.Stores.{stores_length}
use Rattle.spelled.proofs.Orders.{tagged_more}
use Rattle.spelled.proofs.Place.{going_starts, going_ends, going_room, going_on}
use Rattle.ranges.proofs.Sections.{ranged_ends}
use Rattle.order.proofs.put_section.Goals as goal

pub loop-i-init : goal.loop-i-init
loop-i-init c = going_starts _ _ _ _ c.requires.ranged.opens c.requires.room

pub put_tagged-at-requires : goal.put_tagged-at-requires
put_tagged-at-requires c = record {
  i_lt_count = omega (arith, c.requires.ranged.within, stores_length _ _ _ _ c.args.good.stores);
  room = going_room c.loop-i.invariant _ _ (tagged_more _ _ _);
}

pub loop-i-preserved : goal.loop-i-preserved
loop-i-preserved c = going_on c.loop-i.invariant _ _ (tagged_more _ _ _) c.put_tagged-at.ensures

pub returns : goal.returns
returns c = going_ends c.loop-i.invariant (ranged_ends c.requires.ranged (omega (arith, c.requires.ranged.order)) c.loop-i-test.false)
