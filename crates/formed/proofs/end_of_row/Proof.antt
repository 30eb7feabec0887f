-- `formed::end_of_row` meets its contract.
use mathlib.Core.Path.{sym, ◌∙◌}
use Rattle.formed.proofs.CheckLaws.{ends_at, ends_nowhere}
use borrow.Author.Rules.{rules}
use Rattle.formed.proofs.end_of_row.Statement.{statement}
use Rattle.formed.proofs.end_of_row.Tie as tie

returns : tie.Need-returns-then-row_end
returns c before e = ends_at _ _ (sym (c.before.row_end.ensures before e) ∙ c.if-row_end.true)

returns-2 : tie.Need-returns-else-row_end
returns-2 c before e = ends_nowhere _ _ (sym (c.before.row_end.ensures before e) ∙ c.if-row_end.false)

pub end_of_row_spec : {M : Type 1} → statement M
end_of_row_spec = tie.close (tie.spec (λ c κs. search rules) returns returns-2)
