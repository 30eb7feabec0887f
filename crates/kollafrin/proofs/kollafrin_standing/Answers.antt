-- `kollafrin::kollafrin_standing`: the answer fits its words.
use Rattle.demands.proofs.Indices.{standing_index}
use Rattle.kollafrin.proofs.kollafrin_standing.Goals as goal

pub say_standing-requires : goal.say_standing-requires
say_standing-requires c = rw c.standing-x.ensures (standing_index _ (λ i. (c.type_inv.instructions i).fits))
