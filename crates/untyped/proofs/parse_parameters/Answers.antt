-- `untyped::parse_parameters` meets its contract: one parameter more, or one that is refused; and the end.
use native.Mathlib.Omega.{arith}
use Rattle.std.proofs.Common.{refl}
use Rattle.spec.proofs.Answered.{passed_on}
use Rattle.untyped.proofs.Walk.{good_told}
use Rattle.untyped.proofs.Values.{begins, ends, turn, stops, each_none, each_next, kind_told, none_told, bytes_told, single_first}
use Rattle.untyped.proofs.parse_parameters.Goals as goal

pub loop-k-init : goal.loop-k-init
loop-k-init c = (begins _ _ _ _ _ _ c.requires.0, c.requires.1, c.requires.2)

pub read_one-requires : goal.read_one-requires
read_one-requires c =
    (c.loop-k.invariant.0.few, (single_first _ _ _ c.loop-k.invariant.2 (kind_told _ _ _ _ c.parameter_at.ensures.g_value c.in-Some.is)).0)

pub returns-in_err-n : goal.returns-in_err-n
returns-in_err-n c =
    rw (passed_on _ c.from_residual.ensures)
    (stops c.loop-k.invariant.0 _ _ (each_next _ _ _ _ _ (kind_told _ _ _ _ c.parameter_at.ensures.g_value c.in-Some.is)) _ _ _ _ _ _ c.in_err-n.ensures refl)

pub loop-k-smaller : goal.loop-k-smaller
loop-k-smaller c = omega (arith, bytes_told _ _ _ c.parameter_at.ensures.result_in_bounds c.in-Some.is)

pub loop-k-preserved : goal.loop-k-preserved
loop-k-preserved c =
    let k = kind_told _ _ _ _ c.parameter_at.ensures.g_value c.in-Some.is in (
      turn c.loop-k.invariant.0 _ _ (each_next _ _ _ _ _ k) (good_told _ _ _ c.in_ok-n.ensures refl),
      omega (arith, bytes_told _ _ _ c.parameter_at.ensures.result_in_bounds c.in-Some.is),
      (single_first _ _ _ c.loop-k.invariant.2 k).1,
    )

pub returns : goal.returns
returns c = ends c.loop-k.invariant.0 (each_none _ _ _ (none_told _ _ _ c.parameter_at.ensures.g_value c.in_default.is))
