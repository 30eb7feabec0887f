-- `steps::step::need_after` meets its contract: with room for an entry more, or by the entries after the instruction.
use Rattle.steps.proofs.Judging.{room_by, room_spare}
use mathlib.Core.Path.{ap, ◌∙◌}
use lib.ListN.{length}
use Rattle.steps.proofs.step.need_after.Goals.{then-room-entries, else-room-entries}
use Rattle.steps.proofs.step.need_after.Goals as goal

pub returns : goal.returns
returns c =
    elim c.if-room-entries.branch [
      | then-room-entries w ↦ room_by _ _ _ _ _ (w.entries-is ∙ w.after-entries.ensures ∙ ap length (w.told_of.ensures.tracks _))
      | else-room-entries w ↦ room_spare _ _ _ _ _ w.entries-is w.if-room-entries.false
    ]
