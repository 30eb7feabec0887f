-- A loop over the places, the last first: the digits behind are put.
use Rattle.spec.specs.Digits.{digits_from, decimal}
use Rattle.texts.proofs.Filling.{Filled}
use Rattle.texts.proofs.digits.Given as goal

abbrev pub invariant-loop-i : goal.invariant-loop-i
invariant-loop-i l = Filled l.fn.out l.at l.n (decimal l.v) (digits_from l.i l.rest) l.i l.out
