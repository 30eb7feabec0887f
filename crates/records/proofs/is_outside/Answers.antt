use Rattle.std.proofs.Common.{sym, ap}
use Rattle.records.specs.Steps.{is_outside}
use Rattle.records.proofs.Fields.{not_outside}
use Rattle.records.proofs.is_outside.Goals as goal

pub returns-in-Outside : goal.returns-in-Outside
unfolding is_outside
returns-in-Outside c = sym (ap is_outside c.in-Outside.is)

pub returns-in_default : goal.returns-in_default
returns-in_default c = not_outside _ c.in_default.not-Outside
