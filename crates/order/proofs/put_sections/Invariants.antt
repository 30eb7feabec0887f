use Rattle.std.proofs.Common.{◌-◌}
use Rattle.spec.specs.Write.{sections}
use Rattle.spelled.specs.Said.{said}
use Rattle.spelled.proofs.Orders.{sections_from}
use Rattle.spelled.proofs.Place.{Going}
use Rattle.order.proofs.put_sections.Given as goal

-- the sections from the tag on are left
abbrev pub invariant-loop-tag : goal.invariant-loop-tag
invariant-loop-tag l =
    Going l.initial.out l.start (sections (said l.good)) (sections_from (12 - l.tag) l.tag (said l.good)) l.at l.out
