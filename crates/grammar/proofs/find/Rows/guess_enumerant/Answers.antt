-- `grammar::find::Rows::guess_enumerant` meets its contract: behind the enumerant's item, where it stands where the guess says.
use Rattle.std.proofs.Common.{refl}
use Rattle.grammar.proofs.FindLaws.{enumerant_at, enumerant_near, guess_right, guess_silent, guess_far}
use native.Mathlib.Omega.{arith}
use Rattle.grammar.proofs.find.Rows.guess_enumerant.Goals as goal

pub returns-in_err-place-clause-result_value : goal.returns-in_err-place-clause-result_value
returns-in_err-place-clause-result_value c = rw c.from_residual.ensures guess_silent

pub returns-in_err-place-clause-result_in_bounds : goal.returns-in_err-place-clause-result_in_bounds
returns-in_err-place-clause-result_in_bounds c = rw c.from_residual.ensures guess_far

pub overflow_add-result : goal.overflow_add-result
overflow_add-result c = omega (arith, enumerant_near _ _ _ _ _ c.args.self.indexed c.if-kind-eq0.false (guess_right _ _ _ refl c.in_ok-place.ensures))

pub returns-clause-result_value : goal.returns-clause-result_value
returns-clause-result_value c = λ s. (enumerant_at _ _ _ _ _ c.args.self.indexed c.if-kind-eq0.false (guess_right _ _ _ refl c.in_ok-place.ensures)).0

pub returns-clause-result_in_bounds : goal.returns-clause-result_in_bounds
returns-clause-result_in_bounds c = (enumerant_at _ _ _ _ _ c.args.self.indexed c.if-kind-eq0.false (guess_right _ _ _ refl c.in_ok-place.ensures)).1

pub returns-then-kind-eq0-clause-result_value : goal.returns-then-kind-eq0-clause-result_value
returns-then-kind-eq0-clause-result_value c = guess_silent

pub returns-then-kind-eq0-clause-result_in_bounds : goal.returns-then-kind-eq0-clause-result_in_bounds
returns-then-kind-eq0-clause-result_in_bounds c = guess_far
