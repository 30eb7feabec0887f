-- `simple::simple_value` meets its contract: a mask that is zero, a value where the guess says, with its parameters.
use mathlib.Core.Path.{refl, sym, ◌∙◌}
use native.Mathlib.Omega.{arith}
use Rattle.untyped.proofs.KindLaws.{enum_narrow, narrow_fits}
use Rattle.untyped.proofs.One.{may_push}
use Rattle.untyped.proofs.Values.{none_told}
use Rattle.simple.proofs.SimpleLaws.{pass, known_zero, known_found, known_few, known_single, zero_none, value_alone, value_end, value_parsed}
use Rattle.simple.proofs.simple_value.Goals as goal

pub returns-then-value-ne0 : goal.returns-then-value-ne0
returns-then-value-ne0 c = pass _

pub push-requires : goal.push-requires
push-requires c = may_push c.requires.few.0 (narrow_fits _ _ (enum_narrow _ c.requires.few.1) (omega arith))

pub returns-then-is_mask : goal.returns-then-is_mask
returns-then-is_mask c =
    let m = sym c.is_mask.ensures ∙ c.if-is_mask.true in
    value_alone (known_zero _ _ _ _ c.requires.there _ _ c.next_word-w.ensures m c.if-value-ne0.false) c.requires.few.0 c.push.ensures.pushed _ _ _ c.requires.few.1
    c.push.ensures.laid c.push.ensures.breaks_value (zero_none _ _ m)

pub returns-in_err-place : goal.returns-in_err-place
returns-in_err-place c = rw c.from_residual.ensures (pass _)

pub push-n-requires : goal.push-n-requires
push-n-requires c = may_push c.requires.few.0 (narrow_fits _ _ (enum_narrow _ c.requires.few.1) (omega arith))

pub returns-in_default : goal.returns-in_default
returns-in_default c =
    let m = sym c.is_mask.ensures ∙ c.if-is_mask.false in
    value_end (known_found _ _ _ _ c.requires.there _ _ c.next_word-w.ensures m _ _ c.in_ok-place.ensures.result_value c.in_ok-place.ensures.result_in_bounds refl)
    c.requires.few.0 c.push-n.ensures.pushed _ _ _ c.requires.few.1 c.push-n.ensures.laid c.push-n.ensures.breaks_value m
    (none_told _ _ _ c.parameter_at.ensures.g_value c.in_default.is)

pub parse_parameters-requires : goal.parse_parameters-requires
parse_parameters-requires c =
    let m = sym c.is_mask.ensures ∙ c.if-is_mask.false in
    let k = known_found _ _ _ _ c.requires.there _ _ c.next_word-w.ensures m _ _ c.in_ok-place.ensures.result_value c.in_ok-place.ensures.result_in_bounds refl in
    (known_few k c.requires.few.0 c.push-n.ensures.pushed, k.inside, known_single k _ c.args.rows.indexed m)

pub returns : goal.returns
returns c =
    let m = sym c.is_mask.ensures ∙ c.if-is_mask.false in
    let k = known_found _ _ _ _ c.requires.there _ _ c.next_word-w.ensures m _ _ c.in_ok-place.ensures.result_value c.in_ok-place.ensures.result_in_bounds refl in
    value_parsed k c.requires.few.0 c.push-n.ensures.pushed _ _ _ c.requires.few.1 c.push-n.ensures.laid c.push-n.ensures.breaks_value m _ _ _ _
    c.parse_parameters.ensures c.taken.ensures
