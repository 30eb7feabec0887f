-- `order::put_tagged` meets its contract: by its tag.
use Rattle.std.proofs.Common.{sym}
use Rattle.spelled.proofs.Place.{room_as, wrote_as, wrote_none}
use Rattle.spelled.proofs.Orders.{tagged_yes, tagged_no}
use Rattle.spelled.proofs.Stores.{stores_at, stores_in}
use Rattle.order.proofs.put_tagged.Goals as goal

pub record_at-f-requires : goal.record_at-f-requires
record_at-f-requires c = stores_in _ _ _ _ c.args.good.stores _ c.requires.i_lt_count

pub put_one-requires-clause-room : goal.put_one-requires-clause-room
put_one-requires-clause-room c =
    room_as _ _ (tagged_yes (stores_at _ _ _ _ c.args.good.stores _ c.requires.i_lt_count _ c.record_at-f.ensures) _ c.if-f-tag.true) c.requires.room

pub returns-then-f-tag : goal.returns-then-f-tag
returns-then-f-tag c =
    wrote_as _ _ (sym (tagged_yes (stores_at _ _ _ _ c.args.good.stores _ c.requires.i_lt_count _ c.record_at-f.ensures) _ c.if-f-tag.true)) c.put_one.ensures

pub returns : goal.returns
returns c =
    wrote_as _ _ (sym (tagged_no (stores_at _ _ _ _ c.args.good.stores _ c.requires.i_lt_count _ c.record_at-f.ensures) _ c.if-f-tag.false)) (wrote_none _ _)
