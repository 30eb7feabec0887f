-- `texts::hex` meets its contract: one byte less is left at each turn.
use Rattle.std.proofs.Common.{refl, arith}
use Rattle.texts.proofs.Filling.{hex_last, hex_length, filled_starts, filled_on}
use Rattle.texts.proofs.hex.Goals as goal

pub loop-i-init : goal.loop-i-init
loop-i-init c = filled_starts _ _ _ _ _ refl (hex_length _ _)

pub loop-i-preserved : goal.loop-i-preserved
loop-i-preserved c = filled_on c.loop-i.invariant (omega arith) _ _ (hex_last _ _ _ (omega arith) c.hex_digit.ensures)
