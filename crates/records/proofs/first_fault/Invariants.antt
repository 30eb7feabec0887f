use Rattle.records.proofs.Pass.{Checking}
use Rattle.records.proofs.first_fault.Given as goal

-- the fault is that of the records from the index on
abbrev pub invariant-loop-i : goal.invariant-loop-i
invariant-loop-i g l = Checking l.asked l.instructions l.log l.strings l.i l.at l.a l.b l.s
