use Rattle.records.specs.Steps.{given}
use Rattle.standing.proofs.StandLaws.{Passing}
use Rattle.standing.proofs.standing.Given as goal

-- all stand where those that are left stand after the first so many
abbrev pub invariant-loop-i : goal.invariant-loop-i
invariant-loop-i l = Passing (given l.instructions l.log l.strings l.instruction_count l.log_count l.string_count) l.o l.i
