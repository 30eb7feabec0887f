-- `Decoder::word` meets its contract: a spent limit, a stream that ends, a word.
use mathlib.Core.Path.{refl, sym, ◌∙◌}
use borrow.Author.Tests.{ltb-false}
use Rattle.decoder.proofs.Steps.{word_spent, word_ended, word_there}
use Rattle.decoder.proofs.Decoder.word.Goals as goal

pub returns-then-spent : goal.returns-then-spent
returns-then-spent c = word_spent _ _ _ _ (sym c.limit_reached-spent.ensures ∙ c.if-spent.true) c.refused.ensures

pub take_one-taken-requires : goal.take_one-taken-requires
take_one-taken-requires c = sym c.limit_reached-spent.ensures ∙ c.if-spent.false

pub returns-then-ended : goal.returns-then-ended
returns-then-ended c =
    word_ended _ _ _ _ (sym c.limit_reached-spent.ensures ∙ c.if-spent.false) c.take_one-taken.ensures (sym c.stream_ends-ended.ensures ∙ c.if-ended.true) c.refused-then-ended.ensures

pub word_at-requires : goal.word_at-requires
word_at-requires c = ltb-false _ _ (sym c.stream_ends-ended.ensures ∙ c.if-ended.false)

pub returns : goal.returns
returns c =
    word_there _ _ _ _ (sym c.limit_reached-spent.ensures ∙ c.if-spent.false) c.take_one-taken.ensures _ (sym c.stream_ends-ended.ensures ∙ c.if-ended.false) c.word_at.ensures refl
