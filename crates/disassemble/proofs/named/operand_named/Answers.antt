-- `disassemble::named::operand_named` meets its contract.
-- Assumes nothing.
use mathlib.Core.Path.{sym, ◌∙◌}
use Rattle.disassemble.proofs.Judged.{two_named, one_named}
use Rattle.disassemble.proofs.named.operand_named.Goals as goal

pub returns-then-is_two : goal.returns-then-is_two
returns-then-is_two c =
    two_named _ _ _ (sym c.is_two.ensures ∙ c.if-is_two.true)

pub returns : goal.returns
returns c =
    one_named _ _ _ (sym c.is_two.ensures ∙ c.if-is_two.false) _ _ c.word_at.ensures c.narrow_named.ensures
