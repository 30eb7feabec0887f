-- `tracker::TypeTracker::after` meets its contract.
use mathlib.Core.Path.{ap, ◌∙◌}
use lib.ListN.{length}
use Rattle.tracker.proofs.Laws.{sits, misses, length_found, length_missed}
use Rattle.tracker.proofs.Results.{result_absent, result_unknown, result_defined, same_count}
use Rattle.tracker.proofs.TypeTracker.after.Goals as goal

pub returns-in_default : goal.returns-in_default
returns-in_default c = same_count _ _ _ (result_absent _ _ c.in_default.is)

pub returns-in_default-typed : goal.returns-in_default-typed
returns-in_default-typed c =
    same_count _ _ _
    (result_unknown _ _ _ c.in-Some.is _ (c.typed.ensures _ c.resolve-known.ensures) c.in_default-typed.is)

pub returns-in_default-find : goal.returns-in_default-find
returns-in_default-find c =
    let known = c.typed.ensures _ c.resolve-known.ensures in
    length_missed (misses c.requires.count_in_bounds _ c.find.ensures c.in_default-find.is) _ _
    ∙ ap length (result_defined _ _ _ c.in-Some.is _ known _ c.in-Some-typed.is)

pub returns : goal.returns
returns c =
    let known = c.typed.ensures _ c.resolve-known.ensures in
    length_found (sits c.requires.count_in_bounds _ c.find.ensures _ c.in-Some-find.is) _ _
    ∙ ap length (result_defined _ _ _ c.in-Some.is _ known _ c.in-Some-typed.is)
