-- A module's number is at most one more than the bytes before it, of 4,096; each turn takes some off.
use Rattle.std.proofs.Common.{◌+◌, ◌≤◌, length}
use Rattle.fittings.proofs.main.Given as goal

abbrev pub invariant-loop-size : goal.invariant-loop-size
invariant-loop-size l = l.index + length l.rest ≤ 4097

abbrev pub decreases-loop-size : goal.decreases-loop-size
decreases-loop-size l = length l.rest
