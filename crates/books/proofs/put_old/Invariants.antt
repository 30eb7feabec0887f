use Rattle.books.proofs.Passes.{Stripping}
use Rattle.books.proofs.put_old.Given as goal

-- the fields of so many records are in the output
abbrev pub invariant-loop-i : goal.invariant-loop-i
invariant-loop-i l = Stripping l.new l.initial.out l.out l.i l.count
