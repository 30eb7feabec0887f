-- `grammar::find::Rows::guess_row` meets its contract: behind the row's item, where it stands where the guess says.
use Rattle.std.proofs.Common.{refl}
use Rattle.grammar.proofs.FindLaws.{row_at, row_near, guess_right, guess_silent, guess_far}
use native.Mathlib.Omega.{arith}
use Rattle.grammar.proofs.find.Rows.guess_row.Goals as goal

pub returns-in_err-place-clause-result_value : goal.returns-in_err-place-clause-result_value
returns-in_err-place-clause-result_value c = rw c.from_residual.ensures guess_silent

pub returns-in_err-place-clause-result_in_bounds : goal.returns-in_err-place-clause-result_in_bounds
returns-in_err-place-clause-result_in_bounds c = rw c.from_residual.ensures guess_far

pub overflow_add-result : goal.overflow_add-result
overflow_add-result c = omega (arith, row_near _ _ _ _ c.args.self.indexed (guess_right _ _ _ refl c.in_ok-place.ensures))

pub returns-clause-result_value : goal.returns-clause-result_value
returns-clause-result_value c = λ s. (row_at _ _ _ _ c.args.self.indexed (guess_right _ _ _ refl c.in_ok-place.ensures)).0

pub returns-clause-result_in_bounds : goal.returns-clause-result_in_bounds
returns-clause-result_in_bounds c = (row_at _ _ _ _ c.args.self.indexed (guess_right _ _ _ refl c.in_ok-place.ensures)).1
