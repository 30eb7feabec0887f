-- `tracker::TypeTracker::track` meets its contract.
use mathlib.Core.Path.{ap}
use native.Mathlib.Omega.{arith}
use lib.ListN.{length}
use Rattle.tracker.proofs.Results.{result_absent, result_unknown, result_defined}
use Rattle.tracker.proofs.Growth.{room_before}
use Rattle.tracker.proofs.Tracking.{tracked_same, tracked_as}
use Rattle.tracker.proofs.TypeTracker.track.Goals as goal

pub returns-in_default : goal.returns-in_default
returns-in_default c = tracked_same _ _ _ _ (result_absent _ _ c.in_default.is) (room_before _ _ _ c.requires.types_in_bounds) c.requires.hinted

pub resolve-known-requires : goal.resolve-known-requires
resolve-known-requires c = record { count_in_bounds = room_before _ _ _ c.requires.types_in_bounds; hinted = c.requires.hinted }

pub returns-in_default-typed : goal.returns-in_default-typed
returns-in_default-typed c =
    let known = c.typed.ensures _ c.resolve-known.ensures in
    tracked_same _ _ _ _ (result_unknown _ _ _ c.in-Some.is _ known c.in_default-typed.is)
    (room_before _ _ _ c.requires.types_in_bounds) c.requires.hinted

pub define-requires : goal.define-requires
define-requires c = let known = c.typed.ensures _ c.resolve-known.ensures in
    let same = result_defined _ _ _ c.in-Some.is _ known _ c.in-Some-typed.is in
    record { count_in_bounds = room_before _ _ _ c.requires.types_in_bounds; hinted = c.requires.hinted; types_in_bounds = omega (arith, ap length same, c.requires.types_in_bounds) }

pub returns : goal.returns
returns c =
    let known = c.typed.ensures _ c.resolve-known.ensures in
    tracked_as _ (result_defined _ _ _ c.in-Some.is _ known _ c.in-Some-typed.is) c.define.ensures
