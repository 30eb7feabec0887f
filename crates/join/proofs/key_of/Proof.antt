-- `join::key_of` meets its contract.
use borrow.Author.Rules.{rules}
use Rattle.spec.specs.Join.{key_of}
use Rattle.join.proofs.key_of.Statement.{statement}
use Rattle.join.proofs.key_of.Tie as tie

returns : tie.Need-returns-in-Row
unfolding key_of
returns c = rw c.in-Row.is

returns-2 : tie.Need-returns-in-Operand
unfolding key_of
returns-2 c = search rules

returns-3 : tie.Need-returns-in-Enumerant
unfolding key_of
returns-3 c = rw c.in-Enumerant.is

returns-4 : tie.Need-returns-in-Parameter
unfolding key_of
returns-4 c = search rules

returns-5 : tie.Need-returns-in-Broken
unfolding key_of
returns-5 c = search rules

pub key_of_spec : {M : Type 1} → statement M
key_of_spec =
    tie.close
    (tie.spec
    (λ c. search rules)
    (λ c. search rules)
    (λ c. search rules)
    (λ c. search rules)
    (λ c. search rules)
    (λ c. search rules)
    (λ c. search rules)
    (λ c. search rules)
    (λ c. search rules)
    (λ c. search rules)
    returns
    returns-2
    returns-3
    returns-4
    returns-5)
