-- `pieces::operands::put_operand` meets its contract: by whether its kind has two words.
-- Assumes nothing.
use mathlib.Core.Path.{sym, ◌∙◌}
use Rattle.pieces.proofs.Put.{wrote_as, room_as}
use Rattle.pieces.proofs.Texts.{one_text}
use Rattle.pieces.proofs.operands.put_operand.Goals as goal

pub put_narrow-requires : goal.put_narrow-requires
put_narrow-requires c =
    room_as _ _ (sym (one_text _ _ _ (sym c.is_two.ensures ∙ c.if-is_two.false) _ c.word_at.ensures)) c.requires.room

pub returns : goal.returns
returns c =
    wrote_as _ _ (one_text _ _ _ (sym c.is_two.ensures ∙ c.if-is_two.false) _ c.word_at.ensures) c.put_narrow.ensures
