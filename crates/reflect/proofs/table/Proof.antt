-- `reflect::table` meets its contract: the whole table is held to the definition by one equation, which antt computes.
-- Assumes nothing.
use mathlib.Core.Path.{refl}
use Rattle.spec.specs.Layout.{layout_at}
use Rattle.reflect.specs.Column.{code_of, layout_table}
use Rattle.reflect.proofs.table.Statement.{statement}
use Rattle.reflect.proofs.table.Tie as tie

pub table_spec : {M : Type 1} → statement M
unfolding layout_table code_of layout_at
table_spec = tie.close (tie.spec (λ c. refl))
