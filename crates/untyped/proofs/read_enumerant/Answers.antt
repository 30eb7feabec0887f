-- `untyped::read_enumerant` meets its contract: the limit, the word, a mask's bits, a value.
use mathlib.Core.Path.{refl, sym, ◌∙◌}
use Rattle.spec.proofs.Answered.{passed_on}
use Rattle.untyped.proofs.One.{enum_spent, enum_unread, enum_unknown, mask_known, value_known, value_unknown}
use Rattle.untyped.proofs.read_enumerant.Goals as goal

pub returns-then-limit_reached : goal.returns-then-limit_reached
returns-then-limit_reached c = enum_spent _ _ _ _ _ c.limit_reached.ensures _ c.if-limit_reached.true c.no_enumerant.ensures

pub returns-in_err-v : goal.returns-in_err-v
returns-in_err-v c =
    rw (passed_on _ c.from_residual.ensures) (enum_unread _ _ _ _ _ c.limit_reached.ensures c.if-limit_reached.false _ _ c.in_err-v.ensures)

pub returns-then-is_known : goal.returns-then-is_known
returns-then-is_known c =
    mask_known _ _ _ _ _ c.limit_reached.ensures c.if-limit_reached.false _ _ c.in_ok-v.ensures _ _ c.is_mask.ensures c.if-is_mask.true c.is_known.ensures c.if-is_known.true

pub returns-then-is_mask : goal.returns-then-is_mask
returns-then-is_mask c =
    enum_unknown _ _ _ _ _ c.limit_reached.ensures c.if-limit_reached.false _ _ c.in_ok-v.ensures _ refl (sym c.is_known.ensures ∙ c.if-is_known.false) _ c.no_enumerant-then-is_mask.ensures

pub returns-in-Some : goal.returns-in-Some
returns-in-Some c =
    value_known _ _ _ _ _ c.limit_reached.ensures c.if-limit_reached.false _ _ c.in_ok-v.ensures _ c.is_mask.ensures c.if-is_mask.false _ c.find_enumerant.ensures.result_value _ c.in-Some.is c.find_enumerant.ensures.result_in_bounds

pub returns-in-None : goal.returns-in-None
returns-in-None c =
    value_unknown _ _ _ _ _ c.limit_reached.ensures c.if-limit_reached.false _ _ c.in_ok-v.ensures _ c.is_mask.ensures c.if-is_mask.false _ c.find_enumerant.ensures.result_value c.in-None.is _ c.no_enumerant-in-None.ensures
