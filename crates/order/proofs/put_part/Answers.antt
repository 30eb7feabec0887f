-- `order::put_part` meets its contract: by the tag.
use Rattle.std.proofs.Common.{sym}
use Rattle.spelled.proofs.Place.{room_as, wrote_as, wrote_none}
use Rattle.spelled.proofs.Orders.{part_definition, part_one, part_none}
use Rattle.spelled.proofs.Stores.{stores_at, stores_in}
use Rattle.order.proofs.put_part.Goals as goal

pub record_at-f-requires : goal.record_at-f-requires
record_at-f-requires c = stores_in _ _ _ _ c.args.good.stores _ c.requires.i_lt_count

pub put_definition-requires-clause-room : goal.put_definition-requires-clause-room
put_definition-requires-clause-room c =
    room_as _ _ (part_definition (stores_at _ _ _ _ c.args.good.stores _ c.requires.i_lt_count _ c.record_at-f.ensures) c.if-f-eq-FUNCTION.true) c.requires.room

pub returns-then-f-eq-FUNCTION : goal.returns-then-f-eq-FUNCTION
returns-then-f-eq-FUNCTION c =
    wrote_as _ _ (sym (part_definition (stores_at _ _ _ _ c.args.good.stores _ c.requires.i_lt_count _ c.record_at-f.ensures) c.if-f-eq-FUNCTION.true)) c.put_definition.ensures

pub put_one-requires-clause-room : goal.put_one-requires-clause-room
put_one-requires-clause-room c =
    room_as _ _ (part_one (stores_at _ _ _ _ c.args.good.stores _ c.requires.i_lt_count _ c.record_at-f.ensures) c.if-f-eq-FUNCTION.false c.if-f-ge-LABEL.true) c.requires.room

pub returns-then-f-ge-LABEL : goal.returns-then-f-ge-LABEL
returns-then-f-ge-LABEL c =
    wrote_as _ _ (sym (part_one (stores_at _ _ _ _ c.args.good.stores _ c.requires.i_lt_count _ c.record_at-f.ensures) c.if-f-eq-FUNCTION.false c.if-f-ge-LABEL.true)) c.put_one.ensures

pub returns : goal.returns
returns c =
    wrote_as _ _ (sym (part_none (stores_at _ _ _ _ c.args.good.stores _ c.requires.i_lt_count _ c.record_at-f.ensures) c.if-f-eq-FUNCTION.false c.if-f-ge-LABEL.false)) (wrote_none _ _)
