-- `grammar::find::Rows::is_listed` meets its contract: whether any parameters are found.
use Rattle.grammar.proofs.KnownLaws.{found_listed}
use mathlib.Core.Path.{◌∙◌}
use Rattle.grammar.proofs.find.Rows.is_listed.Goals as goal

pub returns : goal.returns
returns c = c.is_some.ensures ∙ found_listed _ _ _ c.find_enumerant.ensures.result_value
