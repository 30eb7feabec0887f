-- `order::put_definition` meets its contract: the parameters follow the definition.
use Rattle.spelled.proofs.Place.{room_first, room_next, wrote_both}
use Rattle.order.proofs.put_definition.Goals as goal

pub put_one-next-requires-clause-room : goal.put_one-next-requires-clause-room
put_one-next-requires-clause-room c = room_first _ _ c.requires.room

pub put_parameters-requires : goal.put_parameters-requires
put_parameters-requires c = room_next _ _ c.requires.room c.put_one-next.ensures

pub returns : goal.returns
returns c = wrote_both _ _ c.put_one-next.ensures c.put_parameters.ensures
