-- `disassemble::named::bits_named` meets its contract.
-- Assumes nothing.
use Rattle.std.proofs.lemmas.Bool.{not_from_true, not_from_false}
use Rattle.disassemble.proofs.Judged.{judging_starts, judging_ends, judging_bad, judging_turn}
use Rattle.disassemble.proofs.named.bits_named.Goals as goal

pub loop-rest-init : goal.loop-rest-init
loop-rest-init c =
    judging_starts _ _ c.ranges.mask.fits

pub returns-then-not-bit_named : goal.returns-then-not-bit_named
returns-then-not-bit_named c =
    judging_bad c.loop-rest.invariant c.loop-rest-test.true _ c.bit_named.ensures (not_from_false _ c.if-not-bit_named.true)

pub loop-rest-preserved : goal.loop-rest-preserved
loop-rest-preserved c =
    judging_turn c.loop-rest.invariant c.loop-rest-test.true _ c.bit_named.ensures (not_from_true _ c.if-not-bit_named.false)

pub returns : goal.returns
returns c =
    judging_ends c.loop-rest.invariant c.loop-rest-test.false
