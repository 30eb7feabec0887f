-- `embedded::push_opcode` meets its contract.
use mathlib.Core.Path.{ap, ◌∙◌}
use Rattle.spec.specs.Plain.{first_break}
use Rattle.embedded.proofs.Once.{pushed_breaks}
use Rattle.embedded.proofs.push_opcode.Goals as goal

pub returns : goal.returns
returns c = record {
  pushed = pushed_breaks _ _ _ _ _ c.push-n.ensures.pushed;
  laid = c.push-n.ensures.laid;
  breaks_value = c.first_break.ensures ∙ ap (first_break _) c.opcode_break.ensures;
}
