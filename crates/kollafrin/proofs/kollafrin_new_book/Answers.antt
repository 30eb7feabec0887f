-- `kollafrin::kollafrin_new_book`: the answer fits its words.
use Rattle.books.proofs.Indices.{new_small}
use Rattle.kollafrin.proofs.kollafrin_new_book.Goals as goal

pub say_turned-requires : goal.say_turned-requires
say_turned-requires c = let small = new_small _ _ (λ i. (c.type_inv.records i).fits) in rw c.new_book-x.ensures.said (small.index, small.records)
