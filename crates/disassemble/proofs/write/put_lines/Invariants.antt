use lib.ListN.{length}
use Rattle.spec.specs.Write.{module_order}
use Rattle.spec.specs.Disassembly.{lines_text}
use Rattle.spelled.specs.Said.{said}
use Rattle.disassemble.specs.Listed.{left_of}
use Rattle.pieces.proofs.Put.{Going}
use Rattle.disassemble.proofs.write.put_lines.Given as goal

abbrev pub invariant-loop-i : goal.invariant-loop-i
invariant-loop-i l =
    let is = said l.good in
    Going l.asked.keep l.initial.out l.start (lines_text is (module_order is)) (lines_text is (left_of l.c is)) l.at l.out

abbrev pub decreases-loop-i : goal.decreases-loop-i
decreases-loop-i l = length (left_of l.c (said l.good))
