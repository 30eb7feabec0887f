-- `texts::hex_digit` meets its contract, below ten and from ten on.
use Rattle.texts.proofs.Filling.{hex_low, hex_high}
use Rattle.texts.proofs.hex_digit.Goals as goal

pub returns-then-d-lt10 : goal.returns-then-d-lt10
returns-then-d-lt10 c = hex_low _ c.if-d-lt10.true

pub returns-else-d-lt10 : goal.returns-else-d-lt10
returns-else-d-lt10 c = hex_high _ c.if-d-lt10.false
