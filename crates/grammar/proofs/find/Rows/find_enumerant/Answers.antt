-- `grammar::find::Rows::find_enumerant` meets its contract: behind the enumerant's item, or nowhere.
use Rattle.grammar.proofs.FindLaws.{guess_far, enumerant_at, enumerant_near, no_enumerant}
use native.Mathlib.Omega.{arith}
use Rattle.grammar.proofs.find.Rows.find_enumerant.Goals as goal

pub returns-then-kind-eq0-clause-result_value : goal.returns-then-kind-eq0-clause-result_value
returns-then-kind-eq0-clause-result_value c = (no_enumerant _ _ _ _ c.args.self.indexed c.if-kind-eq0.true).0

pub returns-in_err-place-clause-result_value : goal.returns-in_err-place-clause-result_value
returns-in_err-place-clause-result_value c = rw c.from_residual.ensures (enumerant_at _ _ _ _ _ c.args.self.indexed c.if-kind-eq0.false c.in_err-place.ensures).0

pub returns-in_err-place-clause-result_in_bounds : goal.returns-in_err-place-clause-result_in_bounds
returns-in_err-place-clause-result_in_bounds c = rw c.from_residual.ensures (enumerant_at _ _ _ _ _ c.args.self.indexed c.if-kind-eq0.false c.in_err-place.ensures).1

pub overflow_add-result : goal.overflow_add-result
overflow_add-result c = omega (arith, enumerant_near _ _ _ _ _ c.args.self.indexed c.if-kind-eq0.false c.in_ok-place.ensures)

pub returns-clause-result_value : goal.returns-clause-result_value
returns-clause-result_value c = (enumerant_at _ _ _ _ _ c.args.self.indexed c.if-kind-eq0.false c.in_ok-place.ensures).0

pub returns-clause-result_in_bounds : goal.returns-clause-result_in_bounds
returns-clause-result_in_bounds c = (enumerant_at _ _ _ _ _ c.args.self.indexed c.if-kind-eq0.false c.in_ok-place.ensures).1

pub returns-then-kind-eq0-clause-result_in_bounds : goal.returns-then-kind-eq0-clause-result_in_bounds
returns-then-kind-eq0-clause-result_in_bounds c = guess_far
