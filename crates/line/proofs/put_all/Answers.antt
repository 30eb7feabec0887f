-- `line::put_all` meets its contract.
-- Assumes nothing.
use mathlib.Core.Path.{sym}
use Rattle.pieces.proofs.Put.{room_first, room_next, wrote_both, wrote_as, room_as}
use Rattle.pieces.proofs.Texts.{name_inside}
use Rattle.line.proofs.Lines.{operands_none, named_pieces, named_first, named_rest, named_third, two_inside}
use native.Mathlib.Omega.{arith}
use Rattle.line.proofs.put_all.Goals as goal

pub put_operands-requires-clause-room : goal.put_operands-requires-clause-room
put_operands-requires-clause-room c =
    room_as _ _ (sym (operands_none _ _ _ _ _ _ c.ext_name-name.ensures.result_value c.in_default.is)) c.requires.room

pub returns-in_default : goal.returns-in_default
returns-in_default c =
    wrote_as _ _ (operands_none _ _ _ _ _ _ c.ext_name-name.ensures.result_value c.in_default.is) c.put_operands.ensures

pub overflow_add-third : goal.overflow_add-third
overflow_add-third c =
    omega (arith, two_inside _ _ _ _ (named_third _ _ _ _ _ _ _ _ c.ext_name-name.ensures.result_value c.in-Some.is).two c.requires.all_readable)

pub put_operands-first-requires-clause-all_readable : goal.put_operands-first-requires-clause-all_readable
put_operands-first-requires-clause-all_readable c =
    named_first _ _ _ _ _ _ _ _ c.ext_name-name.ensures.result_value c.in-Some.is c.requires.all_readable

pub put_operands-first-requires-clause-room : goal.put_operands-first-requires-clause-room
put_operands-first-requires-clause-room c =
    room_first _ _ (room_as _ _ (named_pieces _ _ _ _ _ _ _ _ c.ext_name-name.ensures.result_value c.in-Some.is) c.requires.room)

pub put_byte-blank-requires : goal.put_byte-blank-requires
put_byte-blank-requires c =
    room_first _ _ (room_next _ _ (room_as _ _ (named_pieces _ _ _ _ _ _ _ _ c.ext_name-name.ensures.result_value c.in-Some.is) c.requires.room) c.put_operands-first.ensures)

pub slice_bounds-put_bytes-count : goal.slice_bounds-put_bytes-count
slice_bounds-put_bytes-count c = (name_inside _ _ _ _ c.ext_name-name.ensures.inside c.in-Some.is).0

pub slice_bounds-put_bytes-start : goal.slice_bounds-put_bytes-start
slice_bounds-put_bytes-start c = omega (arith, name_inside _ _ _ _ c.ext_name-name.ensures.inside c.in-Some.is)

pub slice_bounds-put_bytes-end : goal.slice_bounds-put_bytes-end
slice_bounds-put_bytes-end c = omega (arith, name_inside _ _ _ _ c.ext_name-name.ensures.inside c.in-Some.is)

pub put_bytes-second-requires : goal.put_bytes-second-requires
put_bytes-second-requires c =
    room_first _ _ (room_next _ _ (room_next _ _ (room_as _ _ (named_pieces _ _ _ _ _ _ _ _ c.ext_name-name.ensures.result_value c.in-Some.is) c.requires.room) c.put_operands-first.ensures) c.put_byte-blank.ensures)

pub overflow_sub-n : goal.overflow_sub-n
overflow_sub-n c = (named_third _ _ _ _ _ _ _ _ c.ext_name-name.ensures.result_value c.in-Some.is).two

pub put_operands-requires-2-clause-all_readable : goal.put_operands-requires-2-clause-all_readable
put_operands-requires-2-clause-all_readable c =
    named_rest _ _ _ _ _ _ _ _ c.ext_name-name.ensures.result_value c.in-Some.is c.requires.all_readable

pub put_operands-requires-2-clause-room : goal.put_operands-requires-2-clause-room
put_operands-requires-2-clause-room c =
    room_next _ _ (room_next _ _ (room_next _ _ (room_as _ _ (named_pieces _ _ _ _ _ _ _ _ c.ext_name-name.ensures.result_value c.in-Some.is) c.requires.room) c.put_operands-first.ensures) c.put_byte-blank.ensures) c.put_bytes-second.ensures

pub returns : goal.returns
returns c =
    let r = room_as _ _ (named_pieces _ _ _ _ _ _ _ _ c.ext_name-name.ensures.result_value c.in-Some.is) c.requires.room in
    let s = room_next _ _ r c.put_operands-first.ensures in
    wrote_as _ _ (sym (named_pieces _ _ _ _ _ _ _ _ c.ext_name-name.ensures.result_value c.in-Some.is))
    (wrote_both _ _ r c.put_operands-first.ensures
    (wrote_both _ _ s c.put_byte-blank.ensures
    (wrote_both _ _ (room_next _ _ s c.put_byte-blank.ensures) c.put_bytes-second.ensures c.put_operands-2.ensures)))
