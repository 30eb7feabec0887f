-- `order::put_module` meets its contract: the functions follow the sections.
use Rattle.std.proofs.Common.{get_or, arith}
use Rattle.spelled.proofs.Place.{room_first, room_next}
use Rattle.spelled.proofs.Orders.{module_room, module_put}
use Rattle.ranges.proofs.Measure.{functions_from}
use Rattle.order.proofs.put_module.Goals as goal

pub put_sections-at-requires-clause-room : goal.put_sections-at-requires-clause-room
put_sections-at-requires-clause-room c = room_first _ _ (module_room _ _ c.requires.count_in_bounds)

pub put_functions-requires-clause-count_value : goal.put_functions-requires-clause-count_value
put_functions-requires-clause-count_value c =
    functions_from _ _ _ _ c.args.good.stores (get_or c.args.ranges.now.first 12 0) (c.requires.all_ranged.each 12 (omega arith)).opens

pub put_functions-requires-clause-room : goal.put_functions-requires-clause-room
put_functions-requires-clause-room c = room_next _ _ (module_room _ _ c.requires.count_in_bounds) c.put_sections-at.ensures

pub returns : goal.returns
returns c = module_put _ _ _ _ _ _ c.put_sections-at.ensures c.put_functions.ensures
