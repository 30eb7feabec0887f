-- `simple::words_left` meets its contract. Assumes nothing.
use Rattle.simple.proofs.SimpleLaws.{left_none, left_words}
use borrow.Author.Rules.{rules}
use Rattle.simple.proofs.words_left.Statement.{statement}
use Rattle.simple.proofs.words_left.Tie as tie

pub words_left_spec : {M : Type 1} → statement M
words_left_spec =
    tie.close
    (tie.spec
    (λ c. search rules)
    (λ c. search rules)
    (λ c. left_none _ c.in-None.is)
    (λ c. left_words _ _ c.in-Some.is))
