use Rattle.std.proofs.Common.{◌≡◌, take}
use Rattle.std.proofs.lemmas.List.Edits.{sets}
use Rattle.spec.specs.Write.{bytes_of_all}
use Rattle.spelled.specs.Said.{said}
use Rattle.order.proofs.put_read.Given as goal

-- the first so many instructions are behind the header
abbrev pub invariant-loop-i : goal.invariant-loop-i
invariant-loop-i l = l.out ≡ sets l.initial.out 20 (bytes_of_all (take l.i (said l.good)))
