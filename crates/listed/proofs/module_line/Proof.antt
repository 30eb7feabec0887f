-- `listed::module_line` meets its contract.
use borrow.Author.Rules.{rules}
use native.Mathlib.Omega.{arith}
use mathlib.Core.Path.{sym, ◌∙◌}
use Rattle.listed.proofs.Sentences.{module_none, module_some}
use Rattle.listed.proofs.module_line.Statement.{statement}
use Rattle.listed.proofs.module_line.Tie as tie

pub module_line_spec : {M : Type 1} → statement M
module_line_spec =
    tie.close
    (tie.spec
    (λ c κs. search rules)
    (λ c. module_none _ _ _ (sym c.before.all_zero.ensures ∙ c.if-all_zero.true))
    (λ c. search rules)
    (λ c. search rules)
    (λ c κs. omega arith)
    (λ c. let at-version-line = c.before.before in at-version-line.version_line.auto.out)
    (λ c. let at-version-line = c.before.before in let at-if1 = at-version-line.before.before in let at-all-zero = at-if1.before in module_some _ (sym at-all-zero.all_zero.ensures ∙ at-if1.if-all_zero.false) at-version-line.version_line.ensures))
