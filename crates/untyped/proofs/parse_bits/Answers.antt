-- `untyped::parse_bits` meets its contract: one bit more, or one whose parameters are refused; and the end.
use native.Mathlib.Omega.{arith}
use Rattle.std.proofs.Common.{refl}
use Rattle.spec.proofs.Answered.{passed_on}
use Rattle.untyped.proofs.Walk.{good_told}
use Rattle.untyped.proofs.Values.{begin_bits, bit_small, bit_turn, bit_stops, ends, each_none, bits_none}
use Rattle.untyped.proofs.parse_bits.Goals as goal

pub loop-rest-init : goal.loop-rest-init
loop-rest-init c = begin_bits _ _ _ _ _ _ _ _ c.requires (omega arith)

pub overflow_cast-bit : goal.overflow_cast-bit
overflow_cast-bit c = omega (arith, bit_small c.loop-rest.invariant c.loop-rest-test.true)

pub returns-in_err-n : goal.returns-in_err-n
returns-in_err-n c =
    rw (passed_on _ c.from_residual.ensures) (bit_stops c.loop-rest.invariant c.loop-rest-test.true _ _ _ _ _ _ c.in_err-n.ensures refl)

pub overflow_mul-bit : goal.overflow_mul-bit
overflow_mul-bit c = omega (arith, bit_small c.loop-rest.invariant c.loop-rest-test.true)

pub loop-rest-preserved : goal.loop-rest-preserved
loop-rest-preserved c = bit_turn c.loop-rest.invariant c.loop-rest-test.true (good_told _ _ _ c.in_ok-n.ensures refl)

pub returns : goal.returns
returns c = ends c.loop-rest.invariant.running (each_none _ _ _ (bits_none _ _ _ _ _ c.loop-rest-test.false))
