-- A match on a number: some arms name numbers, their keys; what is left goes by tests, which leave a range.
use Prim.Native.Nat.{ℕ, ◌-◌, ◌<◌, ◌≤◌}
use mathlib.Core.Path.{◌≡◌, refl, sym, subst}
use mathlib.Core.Bool.{Bool, true, false, ◌||◌}
use mathlib.Core.List.{List, [], ◌∷◌}
use mathlib.Core.Logic.{⊎_elim}
use native.Mathlib.Omega.{arith}
use lib.Dec.{T, ltb, leb, ltb→lt, leb→le}
use borrow.Author.Tests.{ne_eqb}
use mir.Facts.{and_yes, or_yes}
use mir.Val.{has_key}
use types.Run.{OneOf, hit}
use Rattle.spec.specs.Base.{is_in, every}
use Rattle.spec.proofs.Range.{all, each}

-- the number is none of the arms' keys, the last arm first
abbrev pub NoneOf : List (List ℕ) → ℕ → Type 0
NoneOf [] x = Unit
NoneOf (keys ∷ arms) x = NoneOf arms x × (OneOf keys x → ⊥)

-- is the number one of the arms' keys
abbrev pub among : List (List ℕ) → ℕ → Bool
among [] x = false
among (keys ∷ arms) x = has_key keys x || among arms x

-- none of the keys is not among them
not_among : (arms : List (List ℕ)) (x : ℕ) → NoneOf arms x → T (among arms x) → ⊥
not_among [] x none t = t
not_among (keys ∷ arms) x none t =
    ⊎_elim (λ h. none.1 (hit keys x h)) (not_among arms x none.0) (or_yes (has_key keys x) (among arms x) t)

-- from a up to b, does each number pass that is no key
abbrev pub pass : List (List ℕ) → ℕ → ℕ → (ℕ → Bool) → Bool
pass arms a b f = all (λ y. among arms y || f y) a (b - a)

-- does no number of the list lie from a up to b, but for the keys
abbrev pub clear : List (List ℕ) → ℕ → ℕ → List ℕ → Bool
clear arms a b l = every (λ y. ltb y a || (leb b y || among arms y)) l

module _ (arms : List (List ℕ)) {a b x : ℕ} (none : NoneOf arms x) (low : a ≤ x) (high : x < b) where
  -- a number that is left passes a test that the range passes
  pub passed : (f : ℕ → Bool) → pass arms a b f ≡ true → T (f x)
  passed f e =
      ⊎_elim (λ h. absurd (not_among arms x none h)) (λ h. h)
      (or_yes (among arms x) (f x) (subst T (sym (each (λ y. among arms y || f y) a (b - a) e x low (omega arith))) tt))

  -- it lies in the range, and is no key
  not_here : T (ltb x a || (leb b x || among arms x)) → ⊥
  not_here t =
      ⊎_elim (λ h. let e : x < a = ltb→lt x a h in omega arith)
      (λ h. ⊎_elim (λ g. let e : b ≤ x = leb→le b x g in omega arith) (not_among arms x none) (or_yes (leb b x) (among arms x) h))
      (or_yes (ltb x a) (leb b x || among arms x) t)

  -- so it is in no list that is clear of the range
  pub absent : (l : List ℕ) → T (clear arms a b l) → is_in x l ≡ false
  absent [] t = refl
  absent (y ∷ l) t =
      let u = and_yes (ltb y a || (leb b y || among arms y)) (clear arms a b l) t in
      rw (ne_eqb x y (λ e. not_here (rw e u.0))) (absent l u.1)
