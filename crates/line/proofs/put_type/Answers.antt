-- `line::put_type` meets its contract.
-- Assumes nothing.
use mathlib.Core.Path.{sym}
use Rattle.pieces.proofs.Put.{wrote_none, room_first, room_next, wrote_both, wrote_as, room_as}
use Rattle.line.proofs.Lines.{type_none, type_is, blank_yes, blank_no}
use native.Mathlib.Omega.{arith}
use Rattle.std.proofs.lemmas.Bool.{not_from_false, not_from_true}
use Rattle.line.proofs.put_type.Goals as goal

pub returns-then-not-there : goal.returns-then-not-there
returns-then-not-there c =
    wrote_as _ _ (type_none c.args.there c.args.id c.args.more (not_from_false _ c.if-not-there.true)) (wrote_none _ _ _ (omega arith))

pub put_bytes-next-requires : goal.put_bytes-next-requires
put_bytes-next-requires c =
    room_first _ _ (room_as _ _ (type_is c.args.there c.args.id c.args.more (not_from_true _ c.if-not-there.false)) c.requires)

pub put_id-end-requires : goal.put_id-end-requires
put_id-end-requires c =
    room_first _ _ (room_next _ _ (room_as _ _ (type_is c.args.there c.args.id c.args.more (not_from_true _ c.if-not-there.false)) c.requires) c.put_bytes-next.ensures)

pub put_byte-requires : goal.put_byte-requires
put_byte-requires c =
    room_as _ _ (sym (blank_yes c.args.more c.if-more.true)) (room_next _ _ (room_next _ _ (room_as _ _ (type_is c.args.there c.args.id c.args.more (not_from_true _ c.if-not-there.false)) c.requires) c.put_bytes-next.ensures) c.put_id-end.ensures)

pub returns-then-more : goal.returns-then-more
returns-then-more c =
    wrote_as _ _ (sym (type_is c.args.there c.args.id c.args.more (not_from_true _ c.if-not-there.false))) (wrote_both _ _ (room_as _ _ (type_is c.args.there c.args.id c.args.more (not_from_true _ c.if-not-there.false)) c.requires) c.put_bytes-next.ensures (wrote_both _ _ (room_next _ _ (room_as _ _ (type_is c.args.there c.args.id c.args.more (not_from_true _ c.if-not-there.false)) c.requires) c.put_bytes-next.ensures) c.put_id-end.ensures (wrote_as _ _ (blank_yes c.args.more c.if-more.true) c.put_byte.ensures)))

pub returns : goal.returns
returns c =
    wrote_as _ _ (sym (type_is c.args.there c.args.id c.args.more (not_from_true _ c.if-not-there.false))) (wrote_both _ _ (room_as _ _ (type_is c.args.there c.args.id c.args.more (not_from_true _ c.if-not-there.false)) c.requires) c.put_bytes-next.ensures (wrote_both _ _ (room_next _ _ (room_as _ _ (type_is c.args.there c.args.id c.args.more (not_from_true _ c.if-not-there.false)) c.requires) c.put_bytes-next.ensures) c.put_id-end.ensures (wrote_as _ _ (blank_no c.args.more c.if-more.false) (wrote_none _ _ _ (omega arith)))))
