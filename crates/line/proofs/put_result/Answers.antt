-- `line::put_result` meets its contract.
-- Assumes nothing.
use mathlib.Core.Path.{sym}
use Rattle.pieces.proofs.Put.{wrote_none, room_first, room_next, wrote_both, wrote_as, room_as}
use Rattle.line.proofs.Lines.{result_yes, result_no}
use native.Mathlib.Omega.{arith}
use Rattle.line.proofs.put_result.Goals as goal

pub put_id-next-requires : goal.put_id-next-requires
put_id-next-requires c =
    room_first _ _ (room_as _ _ (result_yes _ _ c.if-there.true) c.requires)

pub put_bytes-requires : goal.put_bytes-requires
put_bytes-requires c =
    room_next _ _ (room_as _ _ (result_yes _ _ c.if-there.true) c.requires) c.put_id-next.ensures

pub returns-then-there : goal.returns-then-there
returns-then-there c =
    wrote_as _ _ (sym (result_yes _ _ c.if-there.true)) (wrote_both _ _ (room_as _ _ (result_yes _ _ c.if-there.true) c.requires) c.put_id-next.ensures c.put_bytes.ensures)

pub returns : goal.returns
returns c = wrote_as _ _ (result_no _ _ c.if-there.false) (wrote_none _ _ _ (omega arith))
