-- `tracker::TypeTracker::resolve` meets its contract.
use Rattle.tracker.proofs.Laws.{sits, misses, sits_within}
use Rattle.tracker.proofs.Results.{known_none, known_found, known_missed}
use Rattle.tracker.proofs.TypeTracker.resolve.Goals as goal

pub returns-in_err-id : goal.returns-in_err-id
returns-in_err-id c = rw c.from_residual.ensures (known_none _ c.in_err-id.was _)

pub returns-in_err-index : goal.returns-in_err-index
returns-in_err-index c =
    rw c.from_residual-in_err-index.ensures (known_missed _ _ c.in_ok-id.was (misses c.requires.count_in_bounds _ c.find.ensures c.in_err-index.was))

pub type_at-requires : goal.type_at-requires
type_at-requires c = sits_within (sits c.requires.count_in_bounds _ c.find.ensures _ c.in_ok-index.was)

pub returns : goal.returns
returns c =
    known_found _ _ c.in_ok-id.was (sits c.requires.count_in_bounds _ c.find.ensures _ c.in_ok-index.was) _ c.type_at.ensures
