-- `untyped::read_one` meets its contract: an enumerant, a string, one word.
use native.Mathlib.Omega.{arith}
use mathlib.Core.Path.{refl, sym, ◌∙◌}
use Rattle.spec.proofs.Answered.{passed_on}
use Rattle.untyped.proofs.KindLaws.{enum_narrow, narrow_fits, single_word}
use Rattle.untyped.proofs.One.{may_push, may_copy, enum_bad, enum_parsed, known_told, unread_told, text_bad, text_parsed}
use Rattle.untyped.proofs.Walk.{deny}
use Rattle.untyped.proofs.read_one.Goals as goal

pub push-requires : goal.push-requires
push-requires c = may_push c.requires.0 (narrow_fits _ _ (enum_narrow _ (sym c.is_enum.ensures ∙ c.if-is_enum.true)) (omega arith))

pub returns-in_err-v : goal.returns-in_err-v
returns-in_err-v c =
    deny _ _ _ _ _ _ _ _ _ _ _ _ (passed_on _ c.from_residual.ensures)
    (enum_bad _ _ _ _ _ c.is_enum.ensures c.if-is_enum.true _ _ (unread_told _ _ _ _ _ _ _ c.in_err-v.ensures refl))

pub returns-then-is_enum : goal.returns-then-is_enum
returns-then-is_enum c =
    enum_parsed _ _ _ _ _ _ _ _ _ _ _ _ c.requires.0 (sym c.is_enum.ensures ∙ c.if-is_enum.true) (known_told _ _ _ _ _ _ _ _ c.in_ok-v.ensures refl)
    c.push.ensures.pushed c.push.ensures.laid c.push.ensures.breaks_value

pub returns-in_err-x : goal.returns-in_err-x
returns-in_err-x c =
    deny _ _ _ _ _ _ _ _ _ _ _ _ (passed_on _ c.from_residual-in_err-x.ensures)
    (text_bad _ _ _ _ c.if-kind-eq-STRING.true c.requires.0.inside _ _ c.in_err-x.ensures)

pub push_text-n-requires-clause-log_bound : goal.push_text-n-requires-clause-log_bound
push_text-n-requires-clause-log_bound c = (may_copy c.requires.0 c.in_ok-x.ensures).0

pub push_text-n-requires-clause-size_in_bounds : goal.push_text-n-requires-clause-size_in_bounds
push_text-n-requires-clause-size_in_bounds c = (may_copy c.requires.0 c.in_ok-x.ensures).1

pub returns-then-kind-eq-STRING : goal.returns-then-kind-eq-STRING
returns-then-kind-eq-STRING c =
    text_parsed _ _ _ _ _ _ _ _ _ _ _ _ c.requires.0 c.if-kind-eq-STRING.true c.in_ok-x.ensures
    c.push_text-n.ensures.copied c.push_text-n.ensures.laid c.push_text-n.ensures.laid_2

pub read_word-requires : goal.read_word-requires
read_word-requires c = (c.requires.0, single_word _ c.requires.1 (sym c.is_enum.ensures ∙ c.if-is_enum.false) c.if-kind-eq-STRING.false)
