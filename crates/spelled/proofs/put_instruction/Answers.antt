use Rattle.std.proofs.Common.{◌-◌, ◌<◌, arith}
use native.Mathlib.Nat.{sub-zero}
use Rattle.spelled.proofs.Spell.{putting_starts, putting_ends, putting_here, putting_room, putting_goes_on, lent_room, said_room, said_put}
use Rattle.spelled.proofs.put_instruction.Goals as goal

pub loop-init : goal.loop-init
loop-init c =
    rw sub-zero
    (putting_starts _ _ _ _ _ _ c.requires.sound.operands
    (said_room _ _ c.args.out.now _ _ c.requires.sound _ c.put_head-at.ensures.out_after c.put_head-at.ensures.value c.requires.words_in_bounds))

pub put_operand-next-requires : goal.put_operand-next-requires
put_operand-next-requires c =
    let more : 0 < c.args.f.count - c.loop.counter = omega arith in
    record { readable = putting_here c.loop.invariant more; a_in_bounds = lent_room c.loop.out _ _ (putting_room c.loop.invariant more) }

pub overflow_add-at : goal.overflow_add-at
overflow_add-at c =
    let more : 0 < c.args.f.count - c.loop.counter = omega arith in
    omega (arith, putting_room c.loop.invariant more, c.put_operand-next.ensures.out_value)

-- one more operand is put
pub loop-preserved : goal.loop-preserved
loop-preserved c =
    putting_goes_on c.loop.invariant (omega arith) _ _ _ c.put_operand-next.ensures.log_value c.put_operand-next.ensures.out_value c.put_operand-next.ensures.out_after _
    (omega arith)

pub returns : goal.returns
returns c =
    said_put _ _ c.args.out.now _ _ c.requires.sound _ c.put_head-at.ensures.out_after c.put_head-at.ensures.value _
    (putting_ends c.loop.invariant (omega arith))
