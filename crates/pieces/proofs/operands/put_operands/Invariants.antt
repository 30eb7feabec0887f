use Prim.Native.Nat.{◌-◌}
use Rattle.pieces.proofs.Masks.{Spacing}
use Rattle.pieces.proofs.operands.put_operands.Given as goal

abbrev pub invariant-loop : goal.invariant-loop
invariant-loop l = Spacing l.log l.strings l.first l.count l.keep l.initial.out l.start l.a (l.count - l.counter) l.at l.out
