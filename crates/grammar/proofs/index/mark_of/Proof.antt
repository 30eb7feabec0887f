-- `grammar::index::mark_of` meets its contract.
use Rattle.grammar.proofs.IndexLaws.{other_mark}
use borrow.Author.Rules.{rules}
use Rattle.grammar.proofs.index.mark_of.Statement.{statement}
use Rattle.grammar.proofs.index.mark_of.Tie as tie

returns : tie.Need-returns-in-Row
returns c = rw c.in-Row.is

returns-2 : tie.Need-returns-in-Enumerant
returns-2 c = rw c.in-Enumerant.is

returns-3 : tie.Need-returns-in_default
returns-3 c = other_mark c.before.args.x c.before.args.place c.in_default.in_default-own.keys3

pub mark_of_spec : {M : Type 1} → statement M
mark_of_spec = tie.close (tie.spec (λ c. search rules) (λ c. search rules) (λ c. search rules) returns returns-2 returns-3)
