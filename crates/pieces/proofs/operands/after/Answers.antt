-- `pieces::operands::after` meets its contract: five bytes, or nine.
-- Assumes nothing.
use mathlib.Core.Path.{sym, ◌∙◌}
use Rattle.spelled.proofs.Spell.{after_two, after_one}
use Rattle.pieces.proofs.operands.after.Goals as goal

pub returns-then-is_two : goal.returns-then-is_two
returns-then-is_two c =
    after_two _ _ (sym c.is_two.ensures ∙ c.if-is_two.true)

pub returns : goal.returns
returns c =
    after_one _ _ (sym c.is_two.ensures ∙ c.if-is_two.false)
