-- `text_break` meets its contract: where the bytes passed are zero, its answer is that of the rest.
use Rattle.std.proofs.Common.{arith}
use Rattle.decoder.proofs.Steps.{padding_starts, padding_finds, padding_goes_on, padding_ends}
use Rattle.decoder.proofs.text_break.Goals as goal

pub loop-i-init : goal.loop-i-init
loop-i-init c = padding_starts _ _ _ _ c.text_end-to.ensures

pub returns-then-s-i-ne0 : goal.returns-then-s-i-ne0
returns-then-s-i-ne0 c = padding_finds c.loop-i.invariant (omega arith) c.if-s-i-ne0.true

pub loop-i-preserved : goal.loop-i-preserved
loop-i-preserved c = padding_goes_on c.loop-i.invariant (omega arith) c.if-s-i-ne0.false

pub returns : goal.returns
returns c = padding_ends c.loop-i.invariant (omega arith)
