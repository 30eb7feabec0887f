use Rattle.std.proofs.Common.{refl}
use Rattle.spelled.proofs.Orders.{all_end, parameters_none, parameters_more, parameters_end}
use Rattle.spelled.proofs.Place.{going_starts, going_ends, going_room, going_on}
use Rattle.spelled.proofs.Stores.{stores_at, stores_in}
use Rattle.order.proofs.put_parameters.Goals as goal

pub loop-i-init : goal.loop-i-init
loop-i-init c = going_starts _ _ _ _ refl c.requires

pub record_at-f-requires : goal.record_at-f-requires
record_at-f-requires c = stores_in _ _ _ _ c.args.good.stores _ c.loop-i-test.true

-- the end of the function
pub returns-then-f-eq-FUNCTION_END : goal.returns-then-f-eq-FUNCTION_END
returns-then-f-eq-FUNCTION_END c =
    going_ends c.loop-i.invariant (parameters_none (stores_at _ _ _ _ c.args.good.stores _ c.loop-i-test.true _ c.record_at-f.ensures) c.if-f-eq-FUNCTION_END.true)

pub put_tagged-at-requires-clause-room : goal.put_tagged-at-requires-clause-room
put_tagged-at-requires-clause-room c =
    going_room c.loop-i.invariant _ _ (parameters_more (stores_at _ _ _ _ c.args.good.stores _ c.loop-i-test.true _ c.record_at-f.ensures) c.if-f-eq-FUNCTION_END.false)

pub loop-i-preserved : goal.loop-i-preserved
loop-i-preserved c =
    going_on c.loop-i.invariant _ _ (parameters_more (stores_at _ _ _ _ c.args.good.stores _ c.loop-i-test.true _ c.record_at-f.ensures) c.if-f-eq-FUNCTION_END.false) c.put_tagged-at.ensures

pub returns : goal.returns
returns c = going_ends c.loop-i.invariant (parameters_end _ (all_end _ _ _ _ c.args.good.stores _ c.loop-i-test.false))
