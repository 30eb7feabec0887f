-- `round_trip::round_trip` meets its contract: each answer is a law of `Trips` over what the three calls ensure. No store changes its
-- length in a call.
use Rattle.round_trip.proofs.Trips.{answer_within, taken, trips}
use Rattle.round_trip.proofs.round_trip.Goals as goal

pub slice_bounds-load-end : goal.slice_bounds-load-end
slice_bounds-load-end c = answer_within _ _ _ c.write_parse_order-written.ensures

pub slice_bounds-load-end-2 : goal.slice_bounds-load-end-2
slice_bounds-load-end-2 c = taken _ _ (answer_within _ _ _ c.write_parse_order-written.ensures)

pub shape_of-instructions : goal.shape_of-instructions
shape_of-instructions c = c.load-first.auto.instructions

pub shape_of-log : goal.shape_of-log
shape_of-log c = c.load-first.auto.log

pub shape_of-strings : goal.shape_of-strings
shape_of-strings c = c.load-first.auto.strings

pub shape_of-types : goal.shape_of-types
shape_of-types c = c.load-first.auto.types

pub shape_of-out : goal.shape_of-out
shape_of-out c = c.write_parse_order-written.auto.out

pub shape_of-instructions_back : goal.shape_of-instructions_back
shape_of-instructions_back c = c.load-second.auto.instructions

pub shape_of-log_back : goal.shape_of-log_back
shape_of-log_back c = c.load-second.auto.log

pub shape_of-strings_back : goal.shape_of-strings_back
shape_of-strings_back c = c.load-second.auto.strings

pub shape_of-types_back : goal.shape_of-types_back
shape_of-types_back c = c.load-second.auto.types

pub returns : goal.returns
returns c = trips c.load-first.ensures c.write_parse_order-written.ensures c.load-second.ensures
    c.all_zero.ensures
