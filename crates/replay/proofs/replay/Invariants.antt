-- Fewer modules differ than the number of the one that is next.
use Rattle.std.proofs.Common.{◌<◌}
use Rattle.replay.proofs.replay.Given as goal

abbrev pub invariant-loop-i : goal.invariant-loop-i
invariant-loop-i g l = l.differences < l.i-counter
