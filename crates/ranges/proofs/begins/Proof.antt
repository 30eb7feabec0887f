-- `ranges::begins` meets its contract: by the tag, and whether there was a range.
-- Assumes nothing.
use Rattle.spelled.specs.Placing.{begins_at}
use Rattle.ranges.proofs.begins.Statement.{statement}
use Rattle.ranges.proofs.begins.Tie as tie

returns : tie.Need-returns-then-tag-end
unfolding begins_at
returns c = rw c.if-tag-end.true

returns-2 : tie.Need-returns
unfolding begins_at
returns-2 c = rw c.if-tag-end.false

pub begins_spec : {M : Type 1} → statement M
begins_spec = tie.close (tie.spec returns returns-2)
