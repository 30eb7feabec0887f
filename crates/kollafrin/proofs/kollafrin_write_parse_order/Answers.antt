-- `kollafrin::kollafrin_write_parse_order`: the answer fits its words.
use Rattle.demands.proofs.Indices.{parse_index}
use Rattle.kollafrin.proofs.kollafrin_write_parse_order.Goals as goal

pub say_written-requires : goal.say_written-requires
say_written-requires c = rw c.write_parse_order-x.ensures.said (parse_index _ _ _ (λ i. (c.type_inv.instructions i).fits))
