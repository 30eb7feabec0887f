-- `untyped::parse_bit` meets its contract. Assumes nothing.
use Rattle.untyped.proofs.Walk.{same_read}
use Rattle.untyped.proofs.Values.{nothing, set_none, set_listed, same_each}
use Rattle.untyped.proofs.parse_bit.Goals as goal

pub returns-then-rest-ne1 : goal.returns-then-rest-ne1
returns-then-rest-ne1 c = nothing _ _ _ _ _ _ _ c.requires (set_none _ _ _ _ c.if-rest-ne1.true)

pub returns : goal.returns
returns c =
    same_read _ _ _ _ _ _ _ _ _ _ _ (same_each _ _ _ _ (set_listed _ _ _ _ c.if-rest-ne1.false)) c.parse_listed.ensures
