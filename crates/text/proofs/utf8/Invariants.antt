-- A loop over the bytes: so much is due as the bytes passed leave due.
use Rattle.text.proofs.Steps.{Tested}
use Rattle.text.proofs.utf8.Given as goal

abbrev pub invariant-loop-b : goal.invariant-loop-b
invariant-loop-b l = Tested l.s l.p l.b-index
