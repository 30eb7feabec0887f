-- `tracker::TypeTracker::new` meets its contract.
use mathlib.Core.Path.{ap}
use Prim.Native.Nat.{ℕ}
use Rattle.tracker.proofs.TypeTracker.new.Statement.{statement}
use Rattle.tracker.proofs.TypeTracker.new.Tie as tie

pub new_spec : {M : Type 1} → statement M
new_spec =
    tie.close
    (tie.spec
    (λ c κs. c.requires)
    (λ c. ap (λ (m : ℕ). record { count = 0; greatest = 0; marks = m }) c.marks_for.ensures))
