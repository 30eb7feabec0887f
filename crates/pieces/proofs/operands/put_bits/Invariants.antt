use Rattle.pieces.proofs.Masks.{Masking}
use Rattle.pieces.proofs.operands.put_bits.Given as goal

-- the names of the lower bits are written
abbrev pub invariant-loop-rest : goal.invariant-loop-rest
invariant-loop-rest l = Masking l.kind l.mask l.keep l.initial.out l.start l.rest l.bit l.bar l.at l.out

abbrev pub decreases-loop-rest : goal.decreases-loop-rest
decreases-loop-rest l = l.rest
