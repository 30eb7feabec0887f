-- `fittings::by_bytes` shows what the table says: the grammar is the built-in one.
use Rattle.fittings.proofs.Telling.{told}
use borrow.Author.Rules.{rules}
use Rattle.fittings.proofs.by_bytes.Statement.{statement}
use Rattle.fittings.proofs.by_bytes.Tie as tie

pub by_bytes_spec : {M : Type 1} → statement M
by_bytes_spec =
    tie.close
    (tie.spec
    (λ c κs. search rules)
    (λ c. search rules)
    (λ c κs. search rules)
    (λ c. search rules)
    (λ c. search rules)
    (λ c. search rules)
    (λ c. search rules)
    (λ c. let at_load = c.before.before.before.before.before.before.before.before in let at_table = at_load.before.before.before.before.before.before in let at-start = at_table.before.before.before.before.before.before in told _ _ at-start.requires at_table.table-table.ensures at_load.load.ensures))
