use Rattle.std.proofs.Common.{◌-◌}
use Rattle.spelled.proofs.Spell.{Putting}
use Rattle.spelled.proofs.put_instruction.Given as goal

-- so many operands are left
abbrev pub invariant-loop : goal.invariant-loop
invariant-loop l = Putting l.log l.strings l.fn.f.count l.initial.a l.initial.out l.out l.initial.at (l.fn.f.count - l.counter) l.a l.at
