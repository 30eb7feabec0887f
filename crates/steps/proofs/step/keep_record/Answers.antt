-- `steps::step::keep_record` meets its contract: the record and the entry are stored.
use mathlib.Core.Path.{ap, ◌∙◌}
use lib.ListN.{length}
use Rattle.tracker.specs.Entries.{stored}
use Rattle.steps.proofs.Keeping.{recorded}
use Rattle.steps.proofs.step.keep_record.Goals as goal

pub returns : goal.returns
returns c =
    let told = c.track.ensures in
    let tells = c.told_of.ensures in
    recorded _ _ _ _ _ _ _ _ _ c.fields_of-fields.ensures c.count-counted.ensures c.put_record.ensures (told.count ∙ ap length (tells.tracks _))
    (told.store ∙ ap (stored _) (tells.tracks _)) told.hinted
