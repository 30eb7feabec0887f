use Rattle.std.proofs.Common.{drop}
use Rattle.spec.specs.Write.{section_of}
use Rattle.spelled.specs.Placing.{tagged}
use Rattle.spelled.specs.Said.{said}
use Rattle.spelled.proofs.Place.{Going}
use Rattle.order.proofs.put_section.Given as goal

-- those with the tag from the index on are left
abbrev pub invariant-loop-i : goal.invariant-loop-i
invariant-loop-i l =
    Going l.initial.out l.start (section_of l.tag (said l.good)) (tagged l.tag (drop l.i (said l.good))) l.at l.out
