-- `pieces::operands::put_string` meets its contract: a quote, each byte, a quote.
-- Assumes nothing.
use mathlib.Core.Path.{refl, sym, ◌∙◌}
use Rattle.pieces.proofs.Put.{room_first, room_next, wrote_both, wrote_as, room_as, going_starts, going_length, going_room, going_on, going_ends}
use Rattle.pieces.proofs.Texts.{string_starts, string_more, string_ends}
use native.Mathlib.Omega.{arith}
use Rattle.pieces.proofs.operands.put_string.Goals as goal

pub put_byte-at-requires : goal.put_byte-at-requires
put_byte-at-requires c =
    room_first _ _ (room_as _ _ (string_starts _) c.requires)

pub loop-b-init : goal.loop-b-init
loop-b-init c =
    going_starts _ _ _ _ (omega arith) (room_next _ _ (room_as _ _ (string_starts _) c.requires) c.put_byte-at.ensures)

pub put_string_byte-at-requires : goal.put_string_byte-at-requires
put_string_byte-at-requires c =
    going_room c.loop-b.invariant _ _ (string_more _ _ c.loop-b-test.true)

pub loop-b-preserved : goal.loop-b-preserved
loop-b-preserved c =
    going_on c.loop-b.invariant _ _ (string_more _ _ c.loop-b-test.true) c.put_string_byte-at.ensures

pub put_byte-requires : goal.put_byte-requires
put_byte-requires c =
    going_room c.loop-b.invariant _ _ (string_ends _ _ c.loop-b-test.false)

pub shape_of-out : goal.shape_of-out
shape_of-out c =
    c.put_byte.auto.out ∙ going_length c.loop-b.invariant ∙ c.put_byte-at.auto.out

pub returns : goal.returns
returns c =
    wrote_as _ _ (sym (string_starts _)) (wrote_both _ _ (room_as _ _ (string_starts _) c.requires) c.put_byte-at.ensures (going_ends (going_on c.loop-b.invariant _ _ (string_ends _ _ c.loop-b-test.false) c.put_byte.ensures) refl))
