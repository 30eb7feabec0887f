-- `listed::record_line` meets its contract.
use borrow.Author.Rules.{rules}
use native.Mathlib.Omega.{arith}
use mathlib.Core.Path.{◌∙◌}
use Rattle.texts.proofs.Laws.{wrote_then}
use Rattle.listed.proofs.Writing.{number_reach}
use Rattle.spec.specs.Listing.{numbers_line}
use Rattle.listed.specs.Lines.{record_line, number_then}
use Rattle.listed.proofs.record_line.Statement.{statement}
use Rattle.listed.proofs.record_line.Tie as tie

pub record_line_spec : {M : Type 1} → statement M
unfolding record_line numbers_line number_then
record_line_spec =
    tie.close
    (tie.spec
    (λ c κs. omega arith)
    (λ c. search rules)
    (λ c κs. let at-number = c.before.before.before.before in omega (arith, number_reach _ _ at-number.number-a.ensures))
    (λ c. search rules)
    (λ c κs. let at-number2 = c.before.before.before.before in let at-number = at-number2.before.before.before.before.before in omega (arith, number_reach _ _ at-number.number-a.ensures, number_reach _ _ at-number2.number-b.ensures))
    (λ c. search rules)
    (λ c κs. let at-number3 = c.before.before.before.before in let at-number2 = at-number3.before.before.before.before.before in let at-number = at-number2.before.before.before.before.before in omega (arith, number_reach _ _ at-number.number-a.ensures, number_reach _ _ at-number2.number-b.ensures, number_reach _ _ at-number3.number-c.ensures))
    (λ c. search rules)
    (λ c κs. let at-number4 = c.before.before.before.before in let at-number3 = at-number4.before.before.before.before.before in let at-number2 = at-number3.before.before.before.before.before in let at-number = at-number2.before.before.before.before.before in let at-start = at-number.before.before.before in omega (arith, number_reach _ _ at-number.number-a.ensures, number_reach _ _ at-number2.number-b.ensures, number_reach _ _ at-number3.number-c.ensures, number_reach _ _ at-number4.number-d.ensures, at-start.requires))
    (λ c. let at-number5 = c.before.before in let at-number4 = at-number5.before.before.before.before.before in let at-number3 = at-number4.before.before.before.before.before in let at-number2 = at-number3.before.before.before.before.before in let at-number = at-number2.before.before.before.before.before in at-number5.number.auto.out ∙ at-number4.number-d.auto.out ∙ at-number3.number-c.auto.out ∙ at-number2.number-b.auto.out ∙ at-number.number-a.auto.out)
    (λ c. let at-number5 = c.before.before in let at-number4 = at-number5.before.before.before.before.before in let at-number3 = at-number4.before.before.before.before.before in let at-number2 = at-number3.before.before.before.before.before in let at-number = at-number2.before.before.before.before.before in wrote_then at-number.number-a.ensures (wrote_then at-number2.number-b.ensures (wrote_then at-number3.number-c.ensures (wrote_then at-number4.number-d.ensures at-number5.number.ensures)))))
