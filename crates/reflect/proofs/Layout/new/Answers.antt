-- `reflect::Layout::new` makes what its type says: its tables are those of `kinds` and `table`.
use Rattle.reflect.proofs.Layout.new.Goals as goal

pub invariant_of-result : goal.invariant_of-result
invariant_of-result c = record { kinds_known = c.kinds.ensures; cells_known = c.table.ensures }
