-- `disassemble::write::put_text` meets its contract.
-- Assumes nothing.
use mathlib.Core.Path.{sym}
use Rattle.pieces.proofs.Put.{room_first, room_next, wrote_both, wrote_as, room_as}
use Rattle.disassemble.proofs.Wholes.{module_text_lem}
use Rattle.disassemble.proofs.write.put_text.Goals as goal

pub put_header-at-requires : goal.put_header-at-requires
put_header-at-requires c =
    room_first _ _ (room_as _ _ (module_text_lem _ _) c.requires.room)

pub put_lines-requires-clause-room : goal.put_lines-requires-clause-room
put_lines-requires-clause-room c =
    room_next _ _ (room_as _ _ (module_text_lem _ _) c.requires.room) c.put_header-at.ensures

pub returns : goal.returns
returns c =
    wrote_as _ _ (sym (module_text_lem _ _)) (wrote_both _ _ (room_as _ _ (module_text_lem _ _) c.requires.room) c.put_header-at.ensures c.put_lines.ensures)
