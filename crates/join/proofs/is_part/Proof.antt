-- `join::is_part` meets its contract.
use borrow.Author.Rules.{rules}
use Rattle.join.specs.Steps.{is_part}
use Rattle.join.proofs.is_part.Statement.{statement}
use Rattle.join.proofs.is_part.Tie as tie

returns : tie.Need-returns-in-Row
unfolding is_part
returns c = search rules

returns-2 : tie.Need-returns-in-Operand
unfolding is_part
returns-2 c = search rules

returns-3 : tie.Need-returns-in-Enumerant
unfolding is_part
returns-3 c = search rules

returns-4 : tie.Need-returns-in-Parameter
unfolding is_part
returns-4 c = search rules

returns-5 : tie.Need-returns-in-Broken
unfolding is_part
returns-5 c = search rules

pub is_part_spec : {M : Type 1} → statement M
is_part_spec =
    tie.close
    (tie.spec
    (λ c. search rules)
    (λ c. search rules)
    (λ c. search rules)
    (λ c. search rules)
    (λ c. search rules)
    returns
    returns-2
    returns-3
    returns-4
    returns-5)
