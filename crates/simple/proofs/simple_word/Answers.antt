-- `simple::simple_word` meets its contract.
use native.Mathlib.Omega.{arith}
use Rattle.untyped.proofs.KindLaws.{word_narrow, narrow_fits}
use Rattle.untyped.proofs.One.{may_push, word_parsed}
use Rattle.simple.proofs.SimpleLaws.{take}
use Rattle.simple.proofs.simple_word.Goals as goal

pub push-requires : goal.push-requires
push-requires c = may_push c.requires.few.0 (narrow_fits _ _ (word_narrow _ c.requires.few.1) (omega arith))

pub returns : goal.returns
returns c g t =
    take _ _ _
    (word_parsed _ _ _ _ _ _ _ _ _ _ _ c.requires.few.0 c.requires.few.1 c.next_word-x.ensures c.push.ensures.pushed c.push.ensures.laid
    c.push.ensures.breaks_value)
