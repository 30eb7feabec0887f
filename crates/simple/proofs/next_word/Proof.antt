-- `simple::next_word` meets its contract. Assumes nothing.
use Rattle.simple.proofs.SimpleLaws.{next_there}
use borrow.Author.Rules.{rules}
use Rattle.simple.proofs.next_word.Statement.{statement}
use Rattle.simple.proofs.next_word.Tie as tie

pub next_word_spec : {M : Type 1} → statement M
next_word_spec =
    tie.close
    (tie.spec
    (λ c κs. search rules)
    (λ c κs. search rules)
    (λ c. search rules)
    (λ c. search rules)
    (λ c. let at-start = c.before.before.before in next_there _ _ at-start.requires.1 _ _ c.word_at-word.ensures c.before.words_left-left.ensures))
