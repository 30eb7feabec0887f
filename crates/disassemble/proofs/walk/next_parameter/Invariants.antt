use mathlib.Core.Path.{◌≡◌}
use Rattle.spelled.specs.Said.{said}
use Rattle.disassemble.specs.Listed.{parameters_left}
use Rattle.disassemble.proofs.walk.next_parameter.Given as goal

abbrev pub invariant-loop-i : goal.invariant-loop-i
invariant-loop-i l =
    parameters_left l.start l.back (said l.good) ≡ parameters_left l.i l.back (said l.good)
