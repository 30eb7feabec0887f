-- `names::prepared` meets its contract: that each name has its slot, and each slot a name's place, is computed over the definition's names.
use mathlib.Core.Path.{refl}
use Rattle.spec.specs.NameTable.{name_table}
use Rattle.lookup.specs.Run.{place_in, slotted, places_from, has_place, placed}
use Rattle.names.proofs.index.prepared.Statement.{statement}
use Rattle.names.proofs.index.prepared.Tie as tie

returns : tie.Need-returns
unfolding name_table place_in slotted places_from has_place placed
returns c = record { whole = refl; size = refl; slots = refl; places = refl }

pub prepared_spec : {M : Type 1} → statement M
prepared_spec = tie.close (tie.spec returns)
