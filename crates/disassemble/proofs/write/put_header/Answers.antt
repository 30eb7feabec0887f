-- `disassemble::write::put_header` meets its contract.
-- Assumes nothing.
use mathlib.Core.Path.{sym}
use Rattle.pieces.proofs.Put.{room_first, room_next, wrote_both, wrote_as, room_as}
use Rattle.disassemble.proofs.Wholes.{header_is}
use Rattle.disassemble.proofs.write.put_header.Goals as goal

pub put_bytes-a-requires : goal.put_bytes-a-requires
put_bytes-a-requires c =
    room_first _ _ (room_as _ _ (header_is _) c.requires)

pub put_number-b-requires : goal.put_number-b-requires
put_number-b-requires c =
    room_first _ _ (room_next _ _ (room_as _ _ (header_is _) c.requires) c.put_bytes-a.ensures)

pub put_bytes-c-requires : goal.put_bytes-c-requires
put_bytes-c-requires c =
    room_first _ _ (room_next _ _ (room_next _ _ (room_as _ _ (header_is _) c.requires) c.put_bytes-a.ensures) c.put_number-b.ensures)

pub put_number-d-requires : goal.put_number-d-requires
put_number-d-requires c =
    room_first _ _ (room_next _ _ (room_next _ _ (room_next _ _ (room_as _ _ (header_is _) c.requires) c.put_bytes-a.ensures) c.put_number-b.ensures) c.put_bytes-c.ensures)

pub put_bytes-e-requires : goal.put_bytes-e-requires
put_bytes-e-requires c =
    room_first _ _ (room_next _ _ (room_next _ _ (room_next _ _ (room_next _ _ (room_as _ _ (header_is _) c.requires) c.put_bytes-a.ensures) c.put_number-b.ensures) c.put_bytes-c.ensures) c.put_number-d.ensures)

pub put_number-requires : goal.put_number-requires
put_number-requires c =
    room_next _ _ (room_next _ _ (room_next _ _ (room_next _ _ (room_next _ _ (room_as _ _ (header_is _) c.requires) c.put_bytes-a.ensures) c.put_number-b.ensures) c.put_bytes-c.ensures) c.put_number-d.ensures) c.put_bytes-e.ensures

pub returns : goal.returns
returns c =
    wrote_as _ _ (sym (header_is _)) (wrote_both _ _ (room_as _ _ (header_is _) c.requires) c.put_bytes-a.ensures (wrote_both _ _ (room_next _ _ (room_as _ _ (header_is _) c.requires) c.put_bytes-a.ensures) c.put_number-b.ensures (wrote_both _ _ (room_next _ _ (room_next _ _ (room_as _ _ (header_is _) c.requires) c.put_bytes-a.ensures) c.put_number-b.ensures) c.put_bytes-c.ensures (wrote_both _ _ (room_next _ _ (room_next _ _ (room_next _ _ (room_as _ _ (header_is _) c.requires) c.put_bytes-a.ensures) c.put_number-b.ensures) c.put_bytes-c.ensures) c.put_number-d.ensures (wrote_both _ _ (room_next _ _ (room_next _ _ (room_next _ _ (room_next _ _ (room_as _ _ (header_is _) c.requires) c.put_bytes-a.ensures) c.put_number-b.ensures) c.put_bytes-c.ensures) c.put_number-d.ensures) c.put_bytes-e.ensures c.put_number.ensures)))))
