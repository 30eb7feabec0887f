-- `grammar::find::Rows::bits_listed` meets its contract.
use Rattle.std.proofs.lemmas.Bool.{not_from_true, not_from_false}
use Rattle.grammar.proofs.KnownLaws.{bits_start, bits_end, bits_near, bits_bad, bits_turn}
use native.Mathlib.Omega.{arith}
use Rattle.grammar.proofs.find.Rows.bits_listed.Goals as goal

pub loop-rest-init : goal.loop-rest-init
loop-rest-init c = bits_start _ _ _ c.ranges.mask.fits

pub overflow_cast-bit : goal.overflow_cast-bit
overflow_cast-bit c = omega (arith, bits_near _ _ _ _ _ c.loop-rest.invariant c.loop-rest-test.true)

pub returns-then-not-bit_listed : goal.returns-then-not-bit_listed
returns-then-not-bit_listed c =
    bits_bad _ _ _ _ _ c.loop-rest.invariant c.loop-rest-test.true _ c.bit_listed.ensures (not_from_false _ c.if-not-bit_listed.true)

pub overflow_mul-bit : goal.overflow_mul-bit
overflow_mul-bit c = omega (arith, bits_near _ _ _ _ _ c.loop-rest.invariant c.loop-rest-test.true)

pub loop-rest-preserved : goal.loop-rest-preserved
loop-rest-preserved c =
    bits_turn _ _ _ _ _ c.loop-rest.invariant c.loop-rest-test.true _ c.bit_listed.ensures (not_from_true _ c.if-not-bit_listed.false)

pub returns : goal.returns
returns c = bits_end _ _ _ _ _ c.loop-rest.invariant c.loop-rest-test.false
