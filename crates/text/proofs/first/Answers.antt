-- `text::first` meets its contract: where the rows passed do not have the byte, its answer is that of the rest.
use Rattle.std.proofs.Common.{arith}
use Rattle.text.proofs.Steps.{walk_starts, walk_finds, walk_goes_on, walk_ends}
use Rattle.text.proofs.first.Goals as goal

pub loop-row-init : goal.loop-row-init
loop-row-init c = walk_starts _

pub returns-then-row-b : goal.returns-then-row-b
returns-then-row-b c = walk_finds c.loop-row.invariant _ c.requires (omega arith) c.if-row-b.true

pub loop-row-preserved : goal.loop-row-preserved
loop-row-preserved c = walk_goes_on c.loop-row.invariant _ c.requires (omega arith) c.if-row-b.false

pub returns : goal.returns
returns c = walk_ends c.loop-row.invariant (omega arith)
