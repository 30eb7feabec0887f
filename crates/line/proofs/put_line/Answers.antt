-- `line::put_line` meets its contract.
-- Assumes nothing.
use mathlib.Core.Path.{sym, ◌∙◌}
use Rattle.pieces.proofs.Put.{room_first, room_next, wrote_both, wrote_as, room_as}
use Rattle.line.proofs.Lines.{line_is}
use Rattle.line.proofs.put_line.Goals as goal

pub put_byte-feed-requires : goal.put_byte-feed-requires
put_byte-feed-requires c =
    room_first _ _ (room_as _ _ (line_is _ _ _ _) c.requires.room)

pub put_result-id-requires : goal.put_result-id-requires
put_result-id-requires c =
    room_first _ _ (room_next _ _ (room_as _ _ (line_is _ _ _ _) c.requires.room) c.put_byte-feed.ensures)

pub put_bytes-op-requires : goal.put_bytes-op-requires
put_bytes-op-requires c =
    room_first _ _ (room_next _ _ (room_next _ _ (room_as _ _ (line_is _ _ _ _) c.requires.room) c.put_byte-feed.ensures) c.put_result-id.ensures)

pub put_name-name-requires : goal.put_name-name-requires
put_name-name-requires c =
    room_first _ _ (room_next _ _ (room_next _ _ (room_next _ _ (room_as _ _ (line_is _ _ _ _) c.requires.room) c.put_byte-feed.ensures) c.put_result-id.ensures) c.put_bytes-op.ensures)

pub put_type-ty-requires : goal.put_type-ty-requires
put_type-ty-requires c =
    room_first _ _ (room_next _ _ (room_next _ _ (room_next _ _ (room_next _ _ (room_as _ _ (line_is _ _ _ _) c.requires.room) c.put_byte-feed.ensures) c.put_result-id.ensures) c.put_bytes-op.ensures) c.put_name-name.ensures)

pub put_all-requires-clause-room : goal.put_all-requires-clause-room
put_all-requires-clause-room c =
    room_next _ _ (room_next _ _ (room_next _ _ (room_next _ _ (room_next _ _ (room_as _ _ (line_is _ _ _ _) c.requires.room) c.put_byte-feed.ensures) c.put_result-id.ensures) c.put_bytes-op.ensures) c.put_name-name.ensures) c.put_type-ty.ensures

pub shape_of-out : goal.shape_of-out
shape_of-out c =
    c.put_all.auto.out ∙ c.put_type-ty.auto.out ∙ c.put_name-name.auto.out ∙ c.put_bytes-op.auto.out ∙ c.put_result-id.auto.out ∙ c.put_byte-feed.auto.out

pub returns : goal.returns
returns c =
    wrote_as _ _ (sym (line_is _ _ _ _)) (wrote_both _ _ (room_as _ _ (line_is _ _ _ _) c.requires.room) c.put_byte-feed.ensures (wrote_both _ _ (room_next _ _ (room_as _ _ (line_is _ _ _ _) c.requires.room) c.put_byte-feed.ensures) c.put_result-id.ensures (wrote_both _ _ (room_next _ _ (room_next _ _ (room_as _ _ (line_is _ _ _ _) c.requires.room) c.put_byte-feed.ensures) c.put_result-id.ensures) c.put_bytes-op.ensures (wrote_both _ _ (room_next _ _ (room_next _ _ (room_next _ _ (room_as _ _ (line_is _ _ _ _) c.requires.room) c.put_byte-feed.ensures) c.put_result-id.ensures) c.put_bytes-op.ensures) c.put_name-name.ensures (wrote_both _ _ (room_next _ _ (room_next _ _ (room_next _ _ (room_next _ _ (room_as _ _ (line_is _ _ _ _) c.requires.room) c.put_byte-feed.ensures) c.put_result-id.ensures) c.put_bytes-op.ensures) c.put_name-name.ensures) c.put_type-ty.ensures c.put_all.ensures)))))
