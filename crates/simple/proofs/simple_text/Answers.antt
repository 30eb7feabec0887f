-- `simple::simple_text` meets its contract: a string, or none.
use Rattle.std.proofs.Common.{refl}
use Rattle.untyped.proofs.One.{may_copy, text_parsed}
use Rattle.simple.proofs.SimpleLaws.{pass, take_of}
use mathlib.Core.Path.{sym, ◌∙◌}
use Rattle.simple.proofs.simple_text.Goals as goal

pub returns-in_default : goal.returns-in_default
returns-in_default c g = pass _

pub push_text-n-requires-clause-log_bound : goal.push_text-n-requires-clause-log_bound
push_text-n-requires-clause-log_bound c = (may_copy c.requires (sym c.in-Ok.is ∙ c.string-t.ensures)).0

pub push_text-n-requires-clause-size_in_bounds : goal.push_text-n-requires-clause-size_in_bounds
push_text-n-requires-clause-size_in_bounds c = (may_copy c.requires (sym c.in-Ok.is ∙ c.string-t.ensures)).1

pub returns : goal.returns
returns c g =
    take_of _ _ _ c.taken.ensures
    (text_parsed _ _ _ _ _ _ _ _ _ _ _ _ c.requires refl (sym c.in-Ok.is ∙ c.string-t.ensures)
    c.push_text-n.ensures.copied c.push_text-n.ensures.laid c.push_text-n.ensures.laid_2)
