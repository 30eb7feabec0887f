use Rattle.std.proofs.Common.{drop}
use Rattle.spec.specs.Write.{functions}
use Rattle.spelled.specs.Said.{said}
use Rattle.spelled.proofs.Place.{Going}
use Rattle.order.proofs.put_functions.Given as goal

-- what the instructions from the index on add is left
abbrev pub invariant-loop-i : goal.invariant-loop-i
invariant-loop-i l =
    Going l.initial.out l.start (functions (said l.good)) (functions (drop l.i (said l.good))) l.at l.out
