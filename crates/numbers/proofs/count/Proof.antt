-- `numbers::count` meets its contract: first what has begun, then the record's own numbers.
-- Assumes nothing.
use borrow.Author.Rules.{rules}
use Rattle.numbers.specs.Counting.{step_of}
use Rattle.numbers.proofs.count.Statement.{statement}
use Rattle.numbers.proofs.count.Tie as tie

pub count_spec : {M : Type 1} → statement M
unfolding step_of
count_spec =
    tie.close
    (tie.spec
    (λ c κs. search rules)
    (λ c κs. search rules)
    (λ c. rw (c.numbers_of-own.ensures, c.before.onward-begun.ensures)))
