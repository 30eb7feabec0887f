-- `embedded::parse_once` meets its contract: one operand more, or one that is refused; and the end.
use native.Mathlib.Omega.{arith}
use Rattle.std.proofs.Common.{refl}
use Rattle.spec.proofs.Answered.{passed_on}
use Rattle.untyped.proofs.Walk.{good_told}
use Rattle.untyped.proofs.Values.{begins, ends, turn, stops}
use Rattle.untyped.proofs.RowLaws.{slot_told, end_told, three_told}
use Rattle.embedded.proofs.Once.{inner_first, inner_rest, once_none, once_next}
use Rattle.embedded.proofs.parse_once.Goals as goal

pub loop-kind-init : goal.loop-kind-init
loop-kind-init c = (begins _ _ _ _ _ _ c.requires.0, c.requires.1, c.requires.2, c.requires.3)

pub parse_inner-requires : goal.parse_inner-requires
parse_inner-requires c = (
  c.loop-kind.invariant.0.few,
  inner_first _ _ _ _ (slot_told _ _ _ c.slot_at.ensures.g_value _ _ c.in-Some.is) c.loop-kind.invariant.2 c.loop-kind.invariant.3,
)

pub returns-in_err-n : goal.returns-in_err-n
returns-in_err-n c =
    rw (passed_on _ c.from_residual.ensures)
    (stops c.loop-kind.invariant.0 _ _ (once_next _ _ _ _ _ _ (slot_told _ _ _ c.slot_at.ensures.g_value _ _ c.in-Some.is)) _ _ _ _ _ _ c.in_err-n.ensures refl)

pub loop-kind-smaller : goal.loop-kind-smaller
loop-kind-smaller c = omega (arith, three_told _ _ _ _ c.slot_at.ensures.result_in_bounds c.in-Some.is)

pub loop-kind-preserved : goal.loop-kind-preserved
loop-kind-preserved c =
    let k = slot_told _ _ _ c.slot_at.ensures.g_value _ _ c.in-Some.is in
    let rest = inner_rest _ _ _ _ k c.loop-kind.invariant.2 c.loop-kind.invariant.3 in (
      turn c.loop-kind.invariant.0 _ _ (once_next _ _ _ _ _ _ k) (good_told _ _ _ c.in_ok-n.ensures refl),
      omega (arith, three_told _ _ _ _ c.slot_at.ensures.result_in_bounds c.in-Some.is),
      rest.0,
      rest.1,
    )

pub returns : goal.returns
returns c = ends c.loop-kind.invariant.0 (once_none _ _ _ (end_told _ _ _ c.slot_at.ensures.g_value c.in_default.is))
