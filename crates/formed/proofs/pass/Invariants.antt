use Rattle.formed.specs.Check.{Checking}
use mathlib.Core.Path.{◌≡◌}
use lib.ListN.{length}
use Prim.Native.Nat.{◌-◌}
use Rattle.formed.proofs.pass.Given as goal

abbrev pub invariant-loop-at : goal.invariant-loop-at
invariant-loop-at l = Checking l.g l.index l.owners l.used l.count l.last l.at × (length l.index ≡ length l.initial.index)

abbrev pub decreases-loop-at : goal.decreases-loop-at
decreases-loop-at l = length l.g - l.at
