-- `untyped::read_word` meets its contract: no word, or a record of it.
use native.Mathlib.Omega.{arith}
use Rattle.spec.proofs.Answered.{passed_on}
use Rattle.untyped.proofs.KindLaws.{word_narrow, narrow_fits}
use Rattle.untyped.proofs.One.{may_push, word_bad, word_parsed}
use Rattle.untyped.proofs.Walk.{deny}
use Rattle.untyped.proofs.read_word.Goals as goal

pub returns-in_err-v : goal.returns-in_err-v
returns-in_err-v c g t = deny _ _ _ _ _ _ _ _ _ _ _ _ (passed_on _ c.from_residual.ensures) (word_bad _ _ _ _ c.requires.1 _ _ c.in_err-v.ensures)

pub push-requires : goal.push-requires
push-requires c = may_push c.requires.0 (narrow_fits _ _ (word_narrow _ c.requires.1) (omega arith))

pub returns : goal.returns
returns c g t = word_parsed _ _ _ _ _ _ _ _ _ _ _ c.requires.0 c.requires.1 c.in_ok-v.ensures c.push.ensures.pushed c.push.ensures.laid c.push.ensures.breaks_value
