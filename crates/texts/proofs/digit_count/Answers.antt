-- `texts::digit_count` meets its contract: a number from a power of ten on, below the next, has one digit more than the power.
use Rattle.texts.proofs.Filling.{decimal_log, decimal_zero}
use Rattle.texts.proofs.digit_count.Goals as goal

pub returns-in-Some : goal.returns-in-Some
returns-in-Some c = decimal_log _ _ c.in-Some.ensures.bound c.in-Some.ensures.power_le c.in-Some.ensures.next_power_gt

pub returns-in-None : goal.returns-in-None
returns-in-None c = decimal_zero _ c.in-None.ensures.none
