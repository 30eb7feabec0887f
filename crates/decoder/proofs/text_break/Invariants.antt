-- A loop over the padding: the bytes passed are zero.
use Rattle.decoder.proofs.Steps.{Padded}
use Rattle.decoder.proofs.text_break.Given as goal

abbrev pub invariant-loop-i : goal.invariant-loop-i
invariant-loop-i l = Padded l.s l.at l.n l.to l.i
