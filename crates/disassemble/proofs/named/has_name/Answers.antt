-- `disassemble::named::has_name` meets its contract.
-- Assumes nothing.
use mathlib.Core.Path.{◌∙◌}
use Rattle.disassemble.proofs.Judged.{name_there}
use Rattle.disassemble.proofs.named.has_name.Goals as goal

pub returns : goal.returns
returns c = c.is_some.ensures ∙ name_there _ _ _ _ c.find.ensures.result_value
