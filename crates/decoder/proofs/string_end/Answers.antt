-- `string_end` meets its contract: no zero byte, or one with UTF-8 before it or not.
-- Assumes nothing.
use mathlib.Core.Path.{sym, ◌∙◌}
use Rattle.decoder.proofs.Steps.{end_none, end_size, end_found}
use Rattle.decoder.proofs.string_end.Goals as goal

pub returns-in_default : goal.returns-in_default
returns-in_default c = end_none _ (sym c.in_default.is ∙ c.zero-found.ensures)

pub slice_bounds-utf8-end : goal.slice_bounds-utf8-end
slice_bounds-utf8-end c = end_size _ _ (sym c.in-Some.is ∙ c.zero-found.ensures)

pub returns-then-utf8 : goal.returns-then-utf8
returns-then-utf8 c = end_found _ _ _ (sym c.in-Some.is ∙ c.zero-found.ensures) (sym c.utf8-2.ensures ∙ c.if-utf8.true)

pub returns : goal.returns
returns c = end_found _ _ _ (sym c.in-Some.is ∙ c.zero-found.ensures) (sym c.utf8-2.ensures ∙ c.if-utf8.false)
