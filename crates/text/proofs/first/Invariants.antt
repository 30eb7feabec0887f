-- A loop over the rows: those passed do not have the byte.
use Rattle.text.proofs.Steps.{Walked}
use Rattle.text.proofs.first.Given as goal

abbrev pub invariant-loop-row : goal.invariant-loop-row
invariant-loop-row l = Walked l.b l.row-index
