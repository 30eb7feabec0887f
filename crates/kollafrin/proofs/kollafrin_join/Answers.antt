-- `kollafrin::kollafrin_join`: the answer fits its words.
use Rattle.kollafrin.proofs.Laws.{joined_small}
use Rattle.kollafrin.proofs.kollafrin_join.Goals as goal

pub say_joined-requires : goal.say_joined-requires
say_joined-requires c = joined_small _ _ _ c.join-x.ensures.joins
