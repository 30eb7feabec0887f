-- A loop over the bytes: where those passed are not zero, the answer is that of the rest.
use Rattle.text.proofs.Laws.{Searched}
use Rattle.text.proofs.zero.Given as goal

abbrev pub invariant-loop-at : goal.invariant-loop-at
invariant-loop-at l = Searched l.s l.at
