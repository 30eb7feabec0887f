-- `Names::place_of` meets its contract: the slot of the number has the place.
use Rattle.std.proofs.Common.{refl, arith}
use Rattle.lookup.proofs.Laws.{place_read}
use Rattle.lookup.proofs.Names.place_of.Goals as goal

pub returns : goal.returns
returns c = (place_read _ _ _ _ _ refl refl, omega arith)
