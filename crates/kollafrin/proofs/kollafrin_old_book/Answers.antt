-- `kollafrin::kollafrin_old_book`: the answer fits its words.
use Rattle.books.proofs.Indices.{old_small}
use Rattle.kollafrin.proofs.kollafrin_old_book.Goals as goal

pub say_turned-requires : goal.say_turned-requires
say_turned-requires c = let small = old_small _ _ (λ i. (c.type_inv.records i).fits) in rw c.old_book-x.ensures.said (small.index, small.records)
