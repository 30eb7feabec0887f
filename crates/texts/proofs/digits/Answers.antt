-- `texts::digits` meets its contract: one byte less is left at each turn.
use Rattle.std.proofs.Common.{ap, sym, length, arith}
use Rattle.texts.proofs.Filling.{counted_digits, digits_last, filled_starts, filled_on}
use Rattle.texts.proofs.digits.Goals as goal

pub loop-i-init : goal.loop-i-init
loop-i-init c =
    let e = counted_digits _ _ c.requires.n_value in
    filled_starts _ _ _ _ _ (sym e) (omega (arith, ap length e, c.requires.n_value))

pub loop-i-preserved : goal.loop-i-preserved
loop-i-preserved c = filled_on c.loop-i.invariant (omega arith) _ _ (digits_last _ _ c.loop-i.invariant.count (omega arith))
