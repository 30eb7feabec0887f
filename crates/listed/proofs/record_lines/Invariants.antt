use Rattle.listed.proofs.Sentences.{Lined}
use Rattle.listed.proofs.record_lines.Given as goal

abbrev pub invariant-loop-i : goal.invariant-loop-i
invariant-loop-i l = Lined l.initial.out l.out l.instructions l.at l.end l.count l.i
