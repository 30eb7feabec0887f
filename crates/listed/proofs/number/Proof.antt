-- `listed::number` meets its contract.
use native.Mathlib.Omega.{arith}
use mathlib.Core.Path.{◌∙◌}
use Rattle.texts.proofs.Laws.{decimal_reach, wrote_then}
use Rattle.listed.specs.Lines.{number_then}
use Rattle.listed.proofs.number.Statement.{statement}
use Rattle.listed.proofs.number.Tie as tie

pub number_spec : {M : Type 1} → statement M
unfolding number_then
number_spec =
    tie.close
    (tie.spec
    (λ c κs. omega arith)
    (λ c κs. let at-decimal = c.before.before.before in omega (arith, decimal_reach _ at-decimal.decimal-end.ensures))
    (λ c. let at-put = c.before.before in let at-decimal = at-put.before.before.before.before in at-put.put.auto.out ∙ at-decimal.decimal-end.auto.out)
    (λ c. let at-put = c.before.before in let at-decimal = at-put.before.before.before.before in wrote_then at-decimal.decimal-end.ensures at-put.put.ensures))
