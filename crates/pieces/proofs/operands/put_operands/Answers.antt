-- `pieces::operands::put_operands` meets its contract: a blank and an operand at a time.
-- Assumes nothing.
use Prim.Native.Nat.{◌-◌}
use mathlib.Core.Path.{◌≡◌}
use mathlib.Core.List.{[], ◌∷◌}
use Rattle.spec.specs.Disassembly.{operand_text}
use Rattle.records.specs.Good.{operand_at}
use Rattle.pieces.proofs.Put.{room_first, room_next, wrote_both, going_room, going_ends}
use Rattle.pieces.proofs.Texts.{spaced_none, spaced_more, readable_more}
use Rattle.pieces.proofs.Masks.{spacing_starts, spacing_on}
use native.Mathlib.Omega.{arith}
use Rattle.pieces.proofs.operands.put_operands.Goals as goal

pub loop-init : goal.loop-init
loop-init c =
    let e : c.args.count - 0 ≡ c.args.count = omega arith in
    rw e (spacing_starts _ _ _ _ _ _ _ (omega arith) c.requires.all_readable c.requires.room)

pub put_byte-next-requires : goal.put_byte-next-requires
put_byte-next-requires c =
    room_first (32 ∷ []) (operand_text (operand_at c.args.log.now c.args.strings.now c.loop.a)) (going_room c.loop.invariant.going _ _ (spaced_more _ _ _ _ (omega arith)))

pub put_operand-at-requires-clause-readable : goal.put_operand-at-requires-clause-readable
put_operand-at-requires-clause-readable c = (readable_more _ _ _ _ (omega arith) c.loop.invariant.readable).0

pub put_operand-at-requires-clause-room : goal.put_operand-at-requires-clause-room
put_operand-at-requires-clause-room c =
    room_next (32 ∷ []) (operand_text (operand_at c.args.log.now c.args.strings.now c.loop.a)) (going_room c.loop.invariant.going _ _ (spaced_more _ _ _ _ (omega arith))) c.put_byte-next.ensures

pub after-a-requires : goal.after-a-requires
after-a-requires c = (readable_more _ _ _ _ (omega arith) c.loop.invariant.readable).0.whole

pub loop-preserved : goal.loop-preserved
loop-preserved c =
    spacing_on c.loop.invariant (omega arith) _ _ c.after-a.ensures (omega arith) (wrote_both (32 ∷ []) (operand_text (operand_at c.args.log.now c.args.strings.now c.loop.a)) (going_room c.loop.invariant.going _ _ (spaced_more _ _ _ _ (omega arith))) c.put_byte-next.ensures c.put_operand-at.ensures)

pub returns : goal.returns
returns c = going_ends c.loop.invariant.going (spaced_none _ _ _ _ (omega arith))
