-- `pieces::operands::put_narrow` meets its contract: by its kind.
-- Assumes nothing.
use mathlib.Core.Path.{sym}
use Rattle.pieces.proofs.Put.{room_first, room_next, wrote_both, wrote_as, room_as}
use Rattle.pieces.proofs.Texts.{narrow_id, narrow_number, narrow_float, narrow_name}
use Rattle.pieces.proofs.operands.put_narrow.Goals as goal

pub put_id-requires : goal.put_id-requires
put_id-requires c =
    room_as _ _ (sym (narrow_id _ _ c.if-kind.true)) c.requires

pub returns-then-kind : goal.returns-then-kind
returns-then-kind c =
    wrote_as _ _ (narrow_id _ _ c.if-kind.true) c.put_id.ensures

pub put_number-requires : goal.put_number-requires
put_number-requires c =
    room_as _ _ (sym (narrow_number _ _ c.if-kind.false c.if-kind-2.true)) c.requires

pub returns-then-kind-2 : goal.returns-then-kind-2
returns-then-kind-2 c =
    wrote_as _ _ (narrow_number _ _ c.if-kind.false c.if-kind-2.true) c.put_number.ensures

pub put_bytes-next-requires : goal.put_bytes-next-requires
put_bytes-next-requires c =
    room_first _ _ (room_as _ _ (sym (narrow_float _ _ c.if-kind.false c.if-kind-2.false c.if-kind-eq-FLOAT32.true)) c.requires)

pub put_hex-requires : goal.put_hex-requires
put_hex-requires c =
    room_next _ _ (room_as _ _ (sym (narrow_float _ _ c.if-kind.false c.if-kind-2.false c.if-kind-eq-FLOAT32.true)) c.requires) c.put_bytes-next.ensures

pub returns-then-kind-eq-FLOAT32 : goal.returns-then-kind-eq-FLOAT32
returns-then-kind-eq-FLOAT32 c =
    wrote_as _ _ (narrow_float _ _ c.if-kind.false c.if-kind-2.false c.if-kind-eq-FLOAT32.true) (wrote_both _ _ (room_as _ _ (sym (narrow_float _ _ c.if-kind.false c.if-kind-2.false c.if-kind-eq-FLOAT32.true)) c.requires) c.put_bytes-next.ensures c.put_hex.ensures)

pub put_named-requires : goal.put_named-requires
put_named-requires c =
    room_as _ _ (sym (narrow_name _ _ c.if-kind.false c.if-kind-2.false c.if-kind-eq-FLOAT32.false)) c.requires

pub returns : goal.returns
returns c =
    wrote_as _ _ (narrow_name _ _ c.if-kind.false c.if-kind-2.false c.if-kind-eq-FLOAT32.false) c.put_named.ensures
