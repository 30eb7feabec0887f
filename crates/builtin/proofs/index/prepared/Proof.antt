-- `builtin::prepared` meets its contract: that its numbers are an index of the built-in grammar is computed over the definition's items.
use mathlib.Core.Path.{refl}
use Rattle.spec.specs.Table.{table}
use Rattle.spec.specs.Builtin.{builtin, builtin_items, builtin_well_formed}
use Rattle.grammar.specs.Index.{marks_from, places_of, begins}
use Rattle.grammar.proofs.IndexLaws.{indexed_by, indexed_told}
use Rattle.builtin.proofs.index.prepared.Statement.{statement}
use Rattle.builtin.proofs.index.prepared.Tie as tie

returns : tie.Need-returns
unfolding table marks_from places_of begins
returns c = indexed_told builtin _ (indexed_by builtin _ table builtin_well_formed builtin_items refl)

pub prepared_spec : {M : Type 1} → statement M
prepared_spec = tie.close (tie.spec returns)
