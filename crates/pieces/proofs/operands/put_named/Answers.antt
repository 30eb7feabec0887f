-- `pieces::operands::put_named` meets its contract: by its bits or by its value.
-- Assumes nothing.
use mathlib.Core.Path.{sym, ◌∙◌}
use Rattle.pieces.proofs.Put.{wrote_as, room_as}
use Rattle.pieces.proofs.Texts.{named_bits, value_text}
use Rattle.pieces.proofs.operands.put_named.Goals as goal

pub put_bits-requires : goal.put_bits-requires
put_bits-requires c =
    room_as _ _ (sym (named_bits _ _ (sym c.has_bits.ensures ∙ c.if-has_bits.true))) c.requires

pub returns-then-has_bits : goal.returns-then-has_bits
returns-then-has_bits c =
    wrote_as _ _ (named_bits _ _ (sym c.has_bits.ensures ∙ c.if-has_bits.true)) c.put_bits.ensures

pub put_name-requires : goal.put_name-requires
put_name-requires c =
    room_as _ _ (sym (value_text _ _ _ c.set_of_kind.ensures (sym c.has_bits.ensures ∙ c.if-has_bits.false))) c.requires

pub returns : goal.returns
returns c =
    wrote_as _ _ (value_text _ _ _ c.set_of_kind.ensures (sym c.has_bits.ensures ∙ c.if-has_bits.false)) c.put_name.ensures
