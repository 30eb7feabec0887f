use Rattle.books.proofs.Passes.{Numbering}
use Rattle.books.proofs.put_new.Given as goal

-- so many records are numbered in the output
abbrev pub invariant-loop-i : goal.invariant-loop-i
invariant-loop-i l = Numbering l.old l.initial.out l.out l.begun l.i l.count
