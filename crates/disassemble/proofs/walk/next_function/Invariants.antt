use mathlib.Core.Path.{◌≡◌}
use lib.ListN.{drop}
use Rattle.spec.specs.Write.{functions}
use Rattle.spelled.specs.Said.{said}
use Rattle.disassemble.proofs.walk.next_function.Given as goal

abbrev pub invariant-loop-i : goal.invariant-loop-i
invariant-loop-i l =
    functions (drop l.start (said l.good)) ≡ functions (drop l.i (said l.good))
