-- `texts::decimal` meets its contract: no number has more than 20 digits.
use Rattle.std.proofs.Common.{arith}
use Rattle.texts.proofs.Laws.{decimal_few}
use Rattle.texts.proofs.decimal.Goals as goal

pub digits-requires-clause-n_in_bounds : goal.digits-requires-clause-n_in_bounds
digits-requires-clause-n_in_bounds c = omega (arith, c.digit_count.ensures, decimal_few c.args.v)
