-- `pieces::operands::put_string_byte` meets its contract: by the tests of a byte.
-- Assumes nothing.
use mathlib.Core.Path.{sym}
use Rattle.pieces.proofs.Put.{room_first, room_next, wrote_both, wrote_as, room_as}
use Rattle.pieces.proofs.Texts.{byte_marked, byte_plain, byte_hex}
use Rattle.pieces.proofs.operands.put_string_byte.Goals as goal

pub put_byte-next-requires : goal.put_byte-next-requires
put_byte-next-requires c =
    room_first _ _ (room_as _ _ (byte_marked _ c.if-b.true) c.requires)

pub put_byte-requires : goal.put_byte-requires
put_byte-requires c =
    room_next _ _ (room_as _ _ (byte_marked _ c.if-b.true) c.requires) c.put_byte-next.ensures

pub returns-then-b : goal.returns-then-b
returns-then-b c =
    wrote_as _ _ (sym (byte_marked _ c.if-b.true)) (wrote_both _ _ (room_as _ _ (byte_marked _ c.if-b.true) c.requires) c.put_byte-next.ensures c.put_byte.ensures)

pub put_byte-requires-then-b-2 : goal.put_byte-requires-then-b-2
put_byte-requires-then-b-2 c =
    room_as _ _ (byte_plain _ c.if-b.false c.if-b-2.true) c.requires

pub returns-then-b-2 : goal.returns-then-b-2
returns-then-b-2 c =
    wrote_as _ _ (sym (byte_plain _ c.if-b.false c.if-b-2.true)) c.put_byte-then-b-2.ensures

pub put_bytes-next-requires : goal.put_bytes-next-requires
put_bytes-next-requires c =
    room_first _ _ (room_as _ _ (byte_hex _ c.if-b.false c.if-b-2.false) c.requires)

pub put_hex-requires : goal.put_hex-requires
put_hex-requires c =
    room_next _ _ (room_as _ _ (byte_hex _ c.if-b.false c.if-b-2.false) c.requires) c.put_bytes-next.ensures

pub returns : goal.returns
returns c =
    wrote_as _ _ (sym (byte_hex _ c.if-b.false c.if-b-2.false)) (wrote_both _ _ (room_as _ _ (byte_hex _ c.if-b.false c.if-b-2.false) c.requires) c.put_bytes-next.ensures c.put_hex.ensures)
