-- `listed::load_text` meets its contract.
use native.Mathlib.Omega.{arith}
use mathlib.Core.Path.{◌∙◌}
use Rattle.texts.proofs.Laws.{wrote_then}
use Rattle.listed.proofs.Sentences.{module_reach, lines_reach}
use Rattle.listed.proofs.load_text.Statement.{statement}
use Rattle.listed.proofs.load_text.Tie as tie

pub load_text_spec : {M : Type 1} → statement M
load_text_spec =
    tie.close
    (tie.spec
    (λ c κs. omega arith)
    (λ c κs. let at-module-line = c.before.before.before in let at-start = at-module-line.before.before.before.before.before in (at-start.requires.0, omega (arith, module_reach _ at-module-line.module_line-a.ensures), at-start.requires.2))
    (λ c κs. let at-record-lines = c.before.before.before in let at-module-line = at-record-lines.before.before.before.before in omega (arith, module_reach _ at-module-line.module_line-a.ensures, lines_reach _ _ _ at-record-lines.record_lines-b.ensures))
    (λ c. let at-last-line = c.before.before in let at-record-lines = at-last-line.before.before.before.before in let at-module-line = at-record-lines.before.before.before.before in at-last-line.last_line.auto.out ∙ at-record-lines.record_lines-b.auto.out ∙ at-module-line.module_line-a.auto.out)
    (λ c. let at-last-line = c.before.before in let at-record-lines = at-last-line.before.before.before.before in let at-module-line = at-record-lines.before.before.before.before in wrote_then (wrote_then at-module-line.module_line-a.ensures at-record-lines.record_lines-b.ensures) at-last-line.last_line.ensures))
