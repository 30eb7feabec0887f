use Rattle.disassemble.proofs.Judged.{Judging}
use Rattle.disassemble.proofs.named.bits_named.Given as goal

abbrev pub invariant-loop-rest : goal.invariant-loop-rest
invariant-loop-rest l = Judging l.kind l.mask l.rest l.bit

abbrev pub decreases-loop-rest : goal.decreases-loop-rest
decreases-loop-rest l = l.rest
