use mathlib.Core.Path.{◌≡◌}
use Rattle.spelled.specs.Said.{said}
use Rattle.disassemble.specs.Listed.{sections_left}
use Rattle.disassemble.proofs.Cursors.{sections_or}
use Rattle.disassemble.proofs.walk.next_section.Given as goal

abbrev pub invariant-loop-tag : goal.invariant-loop-tag
invariant-loop-tag l =
    sections_left l.first l.start (said l.good) ≡ sections_or l.tag l.at (said l.good)
