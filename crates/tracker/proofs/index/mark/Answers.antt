-- `tracker::index::mark` meets its contract: a mark that is not set is added to its hint.
use Rattle.std.proofs.Common.{◌/◌, ◌∙◌}
use Rattle.tracker.proofs.Marks.{mark_fits, mark_made}
use Rattle.tracker.proofs.Hinting.{marked_here, marked_none}
use Rattle.tracker.proofs.index.mark.Goals as goal

pub overflow_add-hints : goal.overflow_add-hints
overflow_add-hints c = record { fits = mark_fits _ _ (c.requires.id_value c.if-at-marks.true) (c.slice_known-1.given (c.args.id / 16)).fits }

pub returns-then-at-marks : goal.returns-then-at-marks
returns-then-at-marks c = mark_made _ _ ∙ marked_here _ _ _ c.if-at-marks.true

pub returns-else-at-marks : goal.returns-else-at-marks
returns-else-at-marks c = marked_none _ _ _ c.if-at-marks.false
