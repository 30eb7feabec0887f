-- `kollafrin::kollafrin_disassemble`: the answer fits its words.
use Rattle.demands.proofs.Indices.{text_index}
use Rattle.kollafrin.proofs.kollafrin_disassemble.Goals as goal

pub say_written-requires : goal.say_written-requires
say_written-requires c = rw c.disassemble-x.ensures.said (text_index _ _ _ (λ i. (c.type_inv.instructions i).fits))
