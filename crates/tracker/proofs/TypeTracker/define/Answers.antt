-- `tracker::TypeTracker::define` meets its contract.
use mathlib.Core.Path.{sym, ◌∙◌}
use Rattle.tracker.proofs.Laws.{sits, misses, sits_within, room_missed}
use Rattle.tracker.proofs.Hinting.{mark_none}
use Rattle.tracker.proofs.Tracking.{tracked_found, tracked_missed}
use Rattle.tracker.proofs.TypeTracker.define.Goals as goal

pub put_entry-requires : goal.put_entry-requires
put_entry-requires c =
    room_missed (misses c.requires.count_in_bounds _ c.find.ensures c.in_default.is) _ _ c.requires.types_in_bounds

pub note-requires : goal.note-requires
note-requires c = record { marks_in_bounds = c.requires.hinted.room; id_value = mark_none c.requires.hinted _ (sym c.in_default.is ∙ c.find.ensures) }

pub returns-in_default : goal.returns-in_default
returns-in_default c =
    tracked_missed _ _ _ _ _ _ c.requires.hinted _ (misses c.requires.count_in_bounds _ c.find.ensures c.in_default.is)
    c.requires.types_in_bounds c.put_entry.ensures _ c.note.ensures _ c.greater.ensures

pub put_entry-requires-2 : goal.put_entry-requires-2
put_entry-requires-2 c =
    sits_within (sits c.requires.count_in_bounds _ c.find.ensures _ c.in-Some.is)

pub returns : goal.returns
returns c =
    tracked_found _ _ _ _ _ _ c.requires.hinted _ _ (sits c.requires.count_in_bounds _ c.find.ensures _ c.in-Some.is)
    c.requires.count_in_bounds c.put_entry-2.ensures
