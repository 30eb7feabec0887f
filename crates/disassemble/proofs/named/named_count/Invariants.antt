use Rattle.disassemble.proofs.Judged.{Counting}
use Rattle.disassemble.proofs.named.named_count.Given as goal

abbrev pub invariant-loop-i : goal.invariant-loop-i
invariant-loop-i l = Counting l.instructions l.log l.strings l.count l.i
