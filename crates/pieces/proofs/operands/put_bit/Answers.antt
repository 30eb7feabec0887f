-- `pieces::operands::put_bit` meets its contract.
-- Assumes nothing.
use mathlib.Core.Path.{sym}
use Rattle.pieces.proofs.Put.{wrote_none, room_first, room_next, wrote_both, wrote_as, room_as}
use Rattle.pieces.proofs.Texts.{bit_none, bit_bar, bit_first}
use native.Mathlib.Omega.{arith}
use Rattle.pieces.proofs.operands.put_bit.Goals as goal

pub returns-then-set-ne1 : goal.returns-then-set-ne1
returns-then-set-ne1 c =
    wrote_as _ _ (bit_none _ _ _ _ c.if-set-ne1.true) (wrote_none _ _ _ (omega arith))

pub put_byte-next-requires : goal.put_byte-next-requires
put_byte-next-requires c =
    room_first _ _ (room_as _ _ (bit_bar _ _ _ _ c.if-set-ne1.false c.if-bar.true) c.requires)

pub put_name-requires : goal.put_name-requires
put_name-requires c =
    room_next _ _ (room_as _ _ (bit_bar _ _ _ _ c.if-set-ne1.false c.if-bar.true) c.requires) c.put_byte-next.ensures

pub returns-then-bar : goal.returns-then-bar
returns-then-bar c =
    wrote_as _ _ (sym (bit_bar _ _ _ _ c.if-set-ne1.false c.if-bar.true)) (wrote_both _ _ (room_as _ _ (bit_bar _ _ _ _ c.if-set-ne1.false c.if-bar.true) c.requires) c.put_byte-next.ensures c.put_name.ensures)

pub put_name-requires-2 : goal.put_name-requires-2
put_name-requires-2 c =
    room_as _ _ (bit_first _ _ _ _ c.if-set-ne1.false c.if-bar.false) c.requires

pub returns : goal.returns
returns c =
    wrote_as _ _ (sym (bit_first _ _ _ _ c.if-set-ne1.false c.if-bar.false)) c.put_name-2.ensures
