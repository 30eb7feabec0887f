use Rattle.records.proofs.Operands.{Passing}
use Rattle.records.proofs.pass_operands.Given as goal

-- the answer is that of the operands that are left
abbrev pub invariant-loop : goal.invariant-loop
invariant-loop l = Passing l.log l.strings l.count l.log_at l.strings_at l.passed.log l.passed.strings l.passed.words l.counter
