-- `rows::parse_operands` meets its contract: an operand that is missing, one that need not be there, one more, or one that is refused; and
-- the end.
use native.Mathlib.Omega.{arith}
use Rattle.std.proofs.Common.{refl}
use Rattle.spec.proofs.Answered.{passed_on}
use Rattle.untyped.proofs.Carried.{indexed_short}
use Rattle.untyped.proofs.RowLaws.{slot_told, end_told, three_told, row_starts, row_ends, next_operand, row_missing, row_spent, row_stops, row_less, row_turn, slots_next}
use Rattle.parser.proofs.rows.parse_operands.Goals as goal

pub loop-k-init : goal.loop-k-init
loop-k-init c = row_starts _ _ _ _ _ _ _ c.requires.framed.0 c.requires.framed.1

pub returns-then-q-eq0 : goal.returns-then-q-eq0
returns-then-q-eq0 c =
    row_missing c.loop-k.invariant _ _ _ (slot_told _ _ _ c.slot_at.ensures.g_value _ _ c.in-Some.is) _ c.limit_reached.ensures c.if-limit_reached.true c.if-q-eq0.true _ c.refused.ensures

pub returns-then-limit_reached : goal.returns-then-limit_reached
returns-then-limit_reached c =
    row_spent c.loop-k.invariant _ _ _ (slot_told _ _ _ c.slot_at.ensures.g_value _ _ c.in-Some.is) _ c.limit_reached.ensures c.if-limit_reached.true c.if-q-eq0.false

pub literal_for-literal-requires-clause-first_fits : goal.literal_for-literal-requires-clause-first_fits
literal_for-literal-requires-clause-first_fits c = c.loop-k.invariant.few.fits

pub parse_slot-requires : goal.parse_slot-requires
parse_slot-requires c =
    (c.loop-k.invariant.few, next_operand c.loop-k.invariant _ _ _ (slot_told _ _ _ c.slot_at.ensures.g_value _ _ c.in-Some.is), c.literal_for-literal.ensures.1)

pub returns-in_err-n : goal.returns-in_err-n
returns-in_err-n c =
    rw (passed_on _ c.from_residual.ensures)
    (row_stops c.loop-k.invariant _ _ _ (slot_told _ _ _ c.slot_at.ensures.g_value _ _ c.in-Some.is) _ c.limit_reached.ensures c.if-limit_reached.false _ _ _ (c.in_err-n.ensures _ c.literal_for-literal.ensures.0) _ _ refl)

pub loop-k-smaller : goal.loop-k-smaller
loop-k-smaller c =
    row_less c.loop-k.invariant _ _ _ (slot_told _ _ _ c.slot_at.ensures.g_value _ _ c.in-Some.is) _ c.limit_reached.ensures c.if-limit_reached.false _ _ _ (c.in_ok-n.ensures _ c.literal_for-literal.ensures.0) _ _ refl

pub loop-k-preserved : goal.loop-k-preserved
loop-k-preserved c =
    let k = slot_told _ _ _ c.slot_at.ensures.g_value _ _ c.in-Some.is in
    row_turn c.loop-k.invariant _ _ _ k _ c.limit_reached.ensures c.if-limit_reached.false _ _ _ (c.in_ok-n.ensures _ c.literal_for-literal.ensures.0) _ _ refl _
    (slots_next _ _ _ _ _ k c.next_place-p.ensures)

pub returns : goal.returns
returns c = row_ends c.loop-k.invariant (end_told _ _ _ c.slot_at.ensures.g_value c.in_default.is)

pub next_place-p-requires : goal.next_place-p-requires
next_place-p-requires c =
    omega (arith, three_told _ _ _ _ c.slot_at.ensures.result_in_bounds c.in-Some.is, indexed_short _ _ c.args.rows.indexed)
