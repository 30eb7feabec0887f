-- `text::zero` meets its contract: where the bytes passed are not zero, its answer is that of the rest.
use Rattle.std.proofs.Common.{arith}
use Rattle.text.proofs.Laws.{search_starts, search_goes_on, search_finds, search_ends}
use Rattle.text.proofs.zero.Goals as goal

pub loop-at-init : goal.loop-at-init
loop-at-init c = search_starts _

pub returns-then-s-at-eq0 : goal.returns-then-s-at-eq0
returns-then-s-at-eq0 c = search_finds c.loop-at.invariant c.loop-at-test.true c.if-s-at-eq0.true

pub loop-at-preserved : goal.loop-at-preserved
loop-at-preserved c = search_goes_on c.loop-at.invariant c.loop-at-test.true c.if-s-at-eq0.false

pub returns : goal.returns
returns c = search_ends c.loop-at.invariant (omega (arith, c.loop-at-test.false))
