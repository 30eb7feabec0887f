-- Pairs in answers and refusals: what two that are equal have in common; and a refusal that is passed on.
use Rattle.std.proofs.Common.{◌≡◌, ◌∙◌, ap}
use Rattle.std.specs.Result.{IsErr, IsErrAnd}
use Rattle.std.proofs.lemmas.Result.{err_from_is_err_and}
use Rattle.std.specs.Prelude.{Result, Ok, Err}

first_ok : {A E : Type 0} → Result A E → A → A
first_ok (Ok x) d = x
first_ok (Err e) d = d

first_err : {A E : Type 0} → Result A E → E → E
first_err (Ok x) d = d
first_err (Err e) d = e

-- of two answers
pub ok_parts : {A B E : Type 0} (a x : A) (b y : B) → ◌≡◌ {A = Result (A × B) E} (Ok (a, b)) (Ok (x, y)) → (a ≡ x) × (b ≡ y)
unfolding first_ok
ok_parts {A} {B} {E} a x b y e =
    let p : ◌≡◌ {A = A × B} (a, b) (x, y) = ap (λ (r : Result (A × B) E). first_ok r (a, b)) e in
    (ap (λ (q : A × B). q.0) p, ap (λ (q : A × B). q.1) p)

-- of two refusals
pub err_parts : {T A B : Type 0} (a x : A) (b y : B) → ◌≡◌ {A = Result T (A × B)} (Err (a, b)) (Err (x, y)) → (a ≡ x) × (b ≡ y)
unfolding first_err
err_parts {T} {A} {B} a x b y e =
    let p : ◌≡◌ {A = A × B} (a, b) (x, y) = ap (λ (r : Result T (A × B)). first_err r (a, b)) e in
    (ap (λ (q : A × B). q.0) p, ap (λ (q : A × B). q.1) p)

-- a refusal that `?` passes on
pub passed_on : {T E : Type 0} {x : E} (r : Result T E) → IsErr r × IsErrAnd r (λ y. y ≡ x) → r ≡ Err x
passed_on r h = let p = err_from_is_err_and r h.1 in p.1 ∙ ap Err p.2
