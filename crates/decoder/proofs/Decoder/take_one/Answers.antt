-- `Decoder::take_one` meets its contract, in each case of the limit.
use Rattle.decoder.proofs.Steps.{none_less, one_left, one_less}
use Rattle.decoder.proofs.Decoder.take_one.Goals as goal

pub returns-in-None : goal.returns-in-None
returns-in-None c = none_less _ _ c.in-None.is

pub overflow_sub-result : goal.overflow_sub-result
overflow_sub-result c = one_left _ _ _ c.in-Some.is c.requires

pub returns-in-Some : goal.returns-in-Some
returns-in-Some c = one_less _ _ _ c.in-Some.is
