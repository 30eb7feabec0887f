-- `pieces::operands::put_bits` meets its contract: the lowest bit that is left, and its half.
-- Assumes nothing.
use mathlib.Core.Path.{refl}
use Rattle.pieces.proofs.Put.{going_room, going_ends}
use Rattle.pieces.proofs.Masks.{masking_starts, masking_on}
use Rattle.pieces.proofs.Texts.{bits_near, bits_more, bits_end}
use native.Mathlib.Omega.{arith}
use Rattle.pieces.proofs.operands.put_bits.Goals as goal

pub loop-rest-init : goal.loop-rest-init
loop-rest-init c = masking_starts _ _ _ _ _ c.ranges.mask.fits (omega arith) c.requires

pub overflow_cast-bit : goal.overflow_cast-bit
overflow_cast-bit c = omega (arith, bits_near c.loop-rest.invariant.bits c.loop-rest-test.true)

pub put_bit-at-requires : goal.put_bit-at-requires
put_bit-at-requires c =
    going_room c.loop-rest.invariant.going _ _ (bits_more c.loop-rest.invariant.bits c.loop-rest-test.true)

pub overflow_mul-bit : goal.overflow_mul-bit
overflow_mul-bit c = omega (arith, bits_near c.loop-rest.invariant.bits c.loop-rest-test.true)

pub loop-rest-preserved : goal.loop-rest-preserved
loop-rest-preserved c = masking_on c.loop-rest.invariant c.loop-rest-test.true _ refl c.put_bit-at.ensures

pub returns : goal.returns
returns c = going_ends c.loop-rest.invariant.going (bits_end c.loop-rest.invariant.bits c.loop-rest-test.false)
