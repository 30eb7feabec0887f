-- `steps::parts::fields_of` meets its contract.
use Rattle.steps.proofs.Judging.{fields_by_lem}
use Rattle.steps.proofs.parts.fields_of.Goals as goal

pub returns : goal.returns
returns c = fields_by_lem _ _ _ _ _ _ c.presence_of.ensures.0 c.unwrap_or.ensures c.unwrap_or-2.ensures
