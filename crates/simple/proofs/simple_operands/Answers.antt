-- `simple::simple_operands` meets its contract: one operand more, one that need not be there, one that is passed over; and the end.
use native.Mathlib.Omega.{arith}
use Rattle.std.proofs.Common.{refl}
use Rattle.untyped.proofs.Carried.{indexed_short}
use Rattle.untyped.proofs.RowLaws.{slot_told, end_told, three_told, row_starts, row_ends, row_spent, row_less, row_turn, slots_next}
use Rattle.simple.proofs.SimpleLaws.{pass, take, took}
use Rattle.simple.proofs.SimpleRows.{row_there, row_fits, next_in, end_short}
use Rattle.simple.proofs.simple_operands.Goals as goal

pub returns-then-s-d : goal.returns-then-s-d
returns-then-s-d c = pass _

pub loop-p-init : goal.loop-p-init
loop-p-init c = (row_starts _ _ _ _ _ _ _ c.requires.framed.0 c.requires.framed.1, c.requires.framed.0.place_in)

pub returns-then-q-eq0 : goal.returns-then-q-eq0
returns-then-q-eq0 c = pass _

pub returns-then-limit_reached : goal.returns-then-limit_reached
returns-then-limit_reached c =
    take _ _ _ (row_spent c.loop-p.invariant.0 _ _ _ (slot_told _ _ _ c.slot_at.ensures.g_value _ _ c.in-Some.is) _ c.limit_reached.ensures c.if-limit_reached.true c.if-q-eq0.false)

pub loop-p-smaller : goal.loop-p-smaller
loop-p-smaller c =
    row_less c.loop-p.invariant.0 _ _ _ (slot_told _ _ _ c.slot_at.ensures.g_value _ _ c.in-Some.is) _ c.limit_reached.ensures c.if-limit_reached.false _ _ _ (took _ _ _ _ c.in_ok-n.ensures refl) _ _ refl

pub loop-p-preserved : goal.loop-p-preserved
loop-p-preserved c =
    let k = slot_told _ _ _ c.slot_at.ensures.g_value _ _ c.in-Some.is in
    let rest = slots_next _ _ _ _ _ k c.next_place-p.ensures in
    let inside = next_in _ _ _ _ _ k c.next_place-p.ensures (omega (arith, c.loop-p-test.true)) in
    (row_turn c.loop-p.invariant.0 _ _ _ k _ c.limit_reached.ensures c.if-limit_reached.false _ _ _ (took _ _ _ _ c.in_ok-n.ensures refl) _ _ refl _ rest, inside)

pub returns : goal.returns
returns c = take _ _ _ (row_ends c.loop-p.invariant.0 (end_short _ _ (omega (arith, c.loop-p-test.false))))

pub returns-in_default : goal.returns-in_default
returns-in_default c = take _ _ _ (row_ends c.loop-p.invariant.0 (end_told _ _ _ c.slot_at.ensures.g_value c.in_default.is))

pub simple_slot-requires-clause-there : goal.simple_slot-requires-clause-there
simple_slot-requires-clause-there c =
    row_there _ _ _ _ c.loop-p.invariant.0.few c.loop-p.invariant.0.went _ c.limit_reached.ensures c.if-limit_reached.false (row_fits _ _ _ c.requires.framed.0 c.if-s-d.false)

pub returns-in_err-n : goal.returns-in_err-n
returns-in_err-n c = rw c.from_residual.ensures (pass _)

pub next_place-p-requires : goal.next_place-p-requires
next_place-p-requires c =
    omega (arith, three_told _ _ _ _ c.slot_at.ensures.result_in_bounds c.in-Some.is, indexed_short _ _ c.args.rows.indexed)
