-- `lookup::Names::new` makes what its type says: its caller owes it.
use Rattle.lookup.proofs.Names.new.Goals as goal

pub invariant_of-result : goal.invariant_of-result
invariant_of-result c = record { indexed = c.requires }
