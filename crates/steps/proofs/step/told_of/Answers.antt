-- `steps::step::told_of` meets its contract.
use Rattle.steps.proofs.Judging.{tells}
use Rattle.steps.proofs.step.told_of.Goals as goal

pub returns : goal.returns
returns c = tells _ c.requires
