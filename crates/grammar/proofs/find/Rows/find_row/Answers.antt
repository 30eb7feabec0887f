-- `grammar::find::Rows::find_row` meets its contract: behind the row's item, or nowhere.
use Rattle.grammar.proofs.FindLaws.{row_at, row_near}
use native.Mathlib.Omega.{arith}
use Rattle.grammar.proofs.find.Rows.find_row.Goals as goal

pub returns-in_err-place-clause-result_value : goal.returns-in_err-place-clause-result_value
returns-in_err-place-clause-result_value c = rw c.from_residual.ensures (row_at _ _ _ _ c.args.self.indexed c.in_err-place.ensures).0

pub returns-in_err-place-clause-result_in_bounds : goal.returns-in_err-place-clause-result_in_bounds
returns-in_err-place-clause-result_in_bounds c = rw c.from_residual.ensures (row_at _ _ _ _ c.args.self.indexed c.in_err-place.ensures).1

pub overflow_add-result : goal.overflow_add-result
overflow_add-result c = omega (arith, row_near _ _ _ _ c.args.self.indexed c.in_ok-place.ensures)

pub returns-clause-result_value : goal.returns-clause-result_value
returns-clause-result_value c = (row_at _ _ _ _ c.args.self.indexed c.in_ok-place.ensures).0

pub returns-clause-result_in_bounds : goal.returns-clause-result_in_bounds
returns-clause-result_in_bounds c = (row_at _ _ _ _ c.args.self.indexed c.in_ok-place.ensures).1
