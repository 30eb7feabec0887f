-- `lent::word_and_string` meets its contract: both answers, each by its call.
use Rattle.std.proofs.Common.{refl}
use Rattle.decoder.specs.Lent.{pair_of, pair_from}
use Rattle.decoder.proofs.lent.word_and_string.Goals as goal

pub returns : goal.returns
unfolding pair_of pair_from
returns c = rw (c.given.ensures, c.given-2.ensures, c.next-2.ensures, c.string_lent-text.ensures, c.next.ensures, c.word_lent-word.ensures) refl
