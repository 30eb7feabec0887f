-- `kollafrin::kollafrin_write_module_order`: the answer fits its words.
use Rattle.demands.proofs.Indices.{module_index}
use Rattle.kollafrin.proofs.kollafrin_write_module_order.Goals as goal

pub say_written-requires : goal.say_written-requires
say_written-requires c = rw c.write_module_order-x.ensures.said (module_index _ _ _ (λ i. (c.type_inv.instructions i).fits))
