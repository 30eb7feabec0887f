-- Tests, what is chosen by them, and what is there or not.
use Prim.Native.Nat.{ℕ, ◌≤◌}
use mathlib.Core.Path.{◌≡◌, refl}
use mathlib.Core.Bool.{Bool, true, false, ◌&&◌, ◌||◌, and-eq-true_iff, true≢false, false≢true}
use Rattle.std.specs.Prelude.{Option, None, Some}
use borrow.Author.Tests.{leb-true}
use lib.Dec.{leb}
use Rattle.std.specs.Prelude.{if◌then◌else◌}
use Rattle.spec.specs.Base.{implies, within, and_then}

-- the first of two tests that both hold
pub left : (a b : Bool) → (a && b) ≡ true → a ≡ true
left a b e = ((and-eq-true_iff a b).0 e).0

-- the second of them
pub right : (a b : Bool) → (a && b) ≡ true → b ≡ true
right a b e = ((and-eq-true_iff a b).0 e).1

-- two tests that hold
pub both : {a b : Bool} → a ≡ true → b ≡ true → (a && b) ≡ true
both {a} {b} e f = (and-eq-true_iff a b).1 (e, f)

-- what is asked where a test holds
pub asked : (a b : Bool) → implies a b ≡ true → a ≡ true → b ≡ true
asked true b e t = e
asked false b e t = absurd (false≢true t)

-- the second of two tests, of which the first fails
pub other : (a b : Bool) → (a || b) ≡ true → a ≡ false → b ≡ true
other true b e f = absurd (true≢false f)
other false b e f = e

-- a test that cannot hold fails
pub fails : (a : Bool) → (a ≡ true → ⊥) → a ≡ false
fails true n = absurd (n refl)
fails false n = refl

-- what follows both where a test holds and where it fails
pub cases : {A : Type 0} (c : Bool) → (c ≡ true → A) → (c ≡ false → A) → A
cases true x y = x refl
cases false x y = y refl

-- one of two values has what each has where the test chooses it
pub either : {A : Type 0} (P : A → Type 0) (c : Bool) (a b : A) → (c ≡ true → P a) → (c ≡ false → P b) → P (if c then a else b)
either P true a b x y = x refl
either P false a b x y = y refl

-- a property of what is there
abbrev pub IfSome : {A : Type 0} → (A → Type 0) → Option A → Type 0
IfSome P None = Unit
IfSome P (Some a) = P a

-- it holds of what comes of going on where it holds after each thing that may be there
pub if_then : {A B : Type 0} (P : B → Type 0) (o : Option A) (f : A → Option B) → ((a : A) → o ≡ Some a → IfSome P (f a))
    → IfSome P (and_then o f)
if_then P None f on = tt
if_then P (Some a) f on = on a refl

-- a number in a range
pub in_range : (a k b : ℕ) → within a k b ≡ true → (a ≤ k) × (k ≤ b)
in_range a k b e = (leb-true a k (left (leb a k) (leb k b) e), leb-true k b (right (leb a k) (leb k b) e))
