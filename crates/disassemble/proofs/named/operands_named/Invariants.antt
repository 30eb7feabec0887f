use Prim.Native.Nat.{◌-◌}
use Rattle.disassemble.proofs.Judged.{Passing}
use Rattle.disassemble.proofs.named.operands_named.Given as goal

abbrev pub invariant-loop : goal.invariant-loop
invariant-loop l = Passing l.log l.strings l.count l.first (l.count - l.counter) l.a
