-- `literals::parse_literal` meets its contract: no literal, one of two words, one of one.
use native.Mathlib.Omega.{arith}
use Rattle.spec.proofs.Answered.{passed_on}
use Rattle.untyped.proofs.KindLaws.{literal_word, word_single, long_fits}
use Rattle.untyped.proofs.One.{may_push, few_pushed, held_wide, step_long, long_went, spotted_long}
use Rattle.untyped.proofs.Walk.{deny, accept, same_read}
use Rattle.untyped.proofs.LiteralLaws.{literal_none, literal_one, long_good, long_bad}
use Rattle.parser.proofs.literals.parse_literal.Goals as goal

pub returns-in_default : goal.returns-in_default
returns-in_default c = deny _ _ _ _ _ _ _ _ _ _ _ _ c.refused.ensures (literal_none _ _ _ c.in_default.is)

pub returns-in_err-v : goal.returns-in_err-v
returns-in_err-v c =
    deny _ _ _ _ _ _ _ _ _ _ _ _ (passed_on _ c.from_residual.ensures) (long_bad _ _ _ _ c.in-Some.is c.if-kind.true _ _ c.in_err-v.ensures)

pub push-requires : goal.push-requires
push-requires c = may_push c.requires.0 (long_fits _ _ c.if-kind.true)

pub returns-then-kind : goal.returns-then-kind
returns-then-kind c =
    let f = c.requires.0 in
    let t = step_long _ _ _ _ c.in_ok-v.ensures in
    accept _ _ _ _ _ _ _ _ _ _ _ _ (long_good _ _ _ _ c.in-Some.is c.if-kind.true _ _ c.in_ok-v.ensures)
    (held_wide _ _ _ _ _ _ _ c.if-kind.true c.push.ensures.pushed c.push.ensures.laid)
    (few_pushed _ _ _ _ _ _ _ _ f t (omega arith) c.push.ensures.pushed) (long_went _ _ _ _ t f.limited)
    (spotted_long _ _ _ _ _ _ _ t c.push.ensures.breaks_value)

pub read_one-requires : goal.read_one-requires
read_one-requires c = (c.requires.0, word_single _ (literal_word _ c.requires.1 _ c.in-Some.is c.if-kind.false))

pub returns : goal.returns
returns c =
    same_read _ _ _ _ _ _ _ _ _ _ _ (literal_one _ _ _ _ c.in-Some.is _ (literal_word _ c.requires.1 _ c.in-Some.is c.if-kind.false)) c.read_one.ensures
