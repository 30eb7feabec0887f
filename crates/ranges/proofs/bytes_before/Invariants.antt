use Rattle.std.proofs.Common.{◌≡◌, take, length}
use Rattle.spec.specs.Write.{bytes_of_all}
use Rattle.spelled.specs.Placing.{tagged}
use Rattle.spelled.specs.Said.{said}
use Rattle.ranges.proofs.bytes_before.Given as goal

-- the bytes of those with the tag among the first so many
abbrev pub invariant-loop-i : goal.invariant-loop-i
invariant-loop-i l = l.bytes ≡ length (bytes_of_all (tagged l.tag (take l.i (said l.good))))
