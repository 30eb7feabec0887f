use Rattle.std.proofs.Common.{drop}
use Rattle.spec.specs.Write.{parameters_in}
use Rattle.spelled.specs.Said.{said}
use Rattle.spelled.proofs.Place.{Going}
use Rattle.order.proofs.put_parameters.Given as goal

-- the parameters from the index on are left
abbrev pub invariant-loop-i : goal.invariant-loop-i
invariant-loop-i l =
    Going l.initial.out l.start (parameters_in (drop l.first (said l.good))) (parameters_in (drop l.i (said l.good))) l.at l.out
