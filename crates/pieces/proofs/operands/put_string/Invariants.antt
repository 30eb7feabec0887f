use lib.ListN.{drop}
use Rattle.pieces.proofs.Put.{Going}
use Rattle.pieces.proofs.Texts.{string_from}
use Rattle.pieces.proofs.operands.put_string.Given as goal

abbrev pub invariant-loop-b : goal.invariant-loop-b
invariant-loop-b l = Going l.keep l.initial.out l.initial.at (string_from (drop 0 l.s)) (string_from (drop l.b-index l.s)) l.at l.out
