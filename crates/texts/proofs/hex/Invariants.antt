-- A loop over the places, the last first: the digits behind are put.
use Rattle.spec.specs.Digits.{hex_digits}
use Rattle.texts.proofs.Filling.{Filled}
use Rattle.texts.proofs.hex.Given as goal

abbrev pub invariant-loop-i : goal.invariant-loop-i
invariant-loop-i l = Filled l.fn.out l.at l.n (hex_digits l.n l.v) (hex_digits l.i l.rest) l.i l.out
