-- `embedded::may_embed` meets its contract: an operand that bars the row, one that does not, and the end.
use native.Mathlib.Omega.{arith}
use Rattle.untyped.proofs.RowLaws.{slot_told, end_told, three_told}
use Rattle.embedded.proofs.Once.{none_bars, one_bars, one_may}
use Rattle.embedded.proofs.may_embed.Goals as goal

pub returns-then-k : goal.returns-then-k
returns-then-k c = one_bars _ _ _ _ _ c.loop-k.invariant.0 (slot_told _ _ _ c.slot_at.ensures.g_value _ _ c.in-Some.is) c.if-k.true

pub loop-k-smaller : goal.loop-k-smaller
loop-k-smaller c = omega (arith, three_told _ _ _ _ c.slot_at.ensures.result_in_bounds c.in-Some.is)

pub loop-k-preserved : goal.loop-k-preserved
loop-k-preserved c = (
  one_may _ _ _ _ _ c.loop-k.invariant.0 (slot_told _ _ _ c.slot_at.ensures.g_value _ _ c.in-Some.is) c.if-k.false,
  omega (arith, three_told _ _ _ _ c.slot_at.ensures.result_in_bounds c.in-Some.is),
)

pub returns : goal.returns
returns c = none_bars _ _ c.loop-k.invariant.0 (end_told _ _ _ c.slot_at.ensures.g_value c.in_default.is)
