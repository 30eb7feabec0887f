use Rattle.std.proofs.Common.{◌∙◌}
use Rattle.records.proofs.Fields.{min_is}
use Rattle.records.proofs.at_most.Goals as goal

pub returns : goal.returns
returns c = c.min.ensures ∙ min_is _ _
