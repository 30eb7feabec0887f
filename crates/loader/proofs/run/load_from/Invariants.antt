use Rattle.spec.specs.Load.{lent}
use Rattle.loader.proofs.Running.{Running}
use lib.ListN.{length}
use Prim.Native.Nat.{◌-◌}
use Rattle.loader.proofs.run.load_from.Given as goal

abbrev pub invariant-loop-p : goal.invariant-loop-p
invariant-loop-p l = Running l.s l.grammar l.room (lent l.initial.instructions l.initial.log l.initial.strings l.initial.types) (lent l.instructions l.log l.strings l.types) l.initial.hints l.hints l.p

abbrev pub decreases-loop-p : goal.decreases-loop-p
decreases-loop-p l = length l.s - l.p.at
