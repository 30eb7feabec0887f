use Rattle.books.proofs.Passes.{Matching}
use Rattle.books.proofs.check_numbers.Given as goal

-- the first so many records have their numbers
abbrev pub invariant-loop-i : goal.invariant-loop-i
invariant-loop-i l = Matching l.new l.count l.begun l.i
