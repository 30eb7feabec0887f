use mathlib.Core.Path.{◌≡◌}
use lib.ListN.{drop}
use Rattle.spelled.specs.Placing.{tagged}
use Rattle.spelled.specs.Said.{said}
use Rattle.disassemble.proofs.walk.first_tagged.Given as goal

abbrev pub invariant-loop-i : goal.invariant-loop-i
invariant-loop-i l =
    tagged l.tag (drop l.start (said l.good)) ≡ tagged l.tag (drop l.i (said l.good))
