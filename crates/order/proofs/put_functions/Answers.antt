use Rattle.std.proofs.Common.{refl}
use Rattle.spelled.proofs.Orders.{all_end, functions_more, functions_end}
use Rattle.spelled.proofs.Place.{going_starts, going_ends, going_room, going_on}
use Rattle.spelled.proofs.Stores.{stores_at}
use Rattle.order.proofs.put_functions.Goals as goal

pub loop-i-init : goal.loop-i-init
loop-i-init c = going_starts _ _ _ _ c.requires.count_value c.requires.room

pub put_part-at-requires-clause-room : goal.put_part-at-requires-clause-room
put_part-at-requires-clause-room c = going_room c.loop-i.invariant _ _ (functions_more (stores_at _ _ _ _ c.args.good.stores _ c.loop-i-test.true _ refl))

pub loop-i-preserved : goal.loop-i-preserved
loop-i-preserved c = going_on c.loop-i.invariant _ _ (functions_more (stores_at _ _ _ _ c.args.good.stores _ c.loop-i-test.true _ refl)) c.put_part-at.ensures

pub returns : goal.returns
returns c = going_ends c.loop-i.invariant (functions_end _ (all_end _ _ _ _ c.args.good.stores _ c.loop-i-test.false))
