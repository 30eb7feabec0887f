-- Lists: how they begin, how long they are, and what each of their elements has.
use Prim.Native.Nat.{ℕ, zero, suc}
use mathlib.Core.Path.{◌≡◌, refl, sym, ◌∙◌}
use mathlib.Core.Bool.{Bool, true}
use mathlib.Core.List.{List, [], ◌∷◌, ◌++◌, append_assoc}
use native.Mathlib.Omega.{arith}
use lib.Dec.{leb, leb-zero, leb-suc-zero, leb-suc-suc}
use lib.ListN.{length, get_or}
use Rattle.spec.specs.Base.{has, joined, every}
use Rattle.demands.proofs.Choice.{left, right, both}

-- a list begins with another
abbrev pub Begins : {A : Type 0} → List A → List A → Type 0
Begins {A} l p = (more : List A) × (l ≡ p ++ more)

-- a list of no elements
pub nil_of : (l : List ℕ) → length l ≡ 0 → l ≡ []
nil_of [] e = refl
nil_of (b ∷ l) e = absurd (omega arith)

-- the test for so many elements, as a number
pub has_leb : {A : Type 0} (n : ℕ) (l : List A) → has n l ≡ leb n (length l)
has_leb zero l = sym (leb-zero (length l))
has_leb (suc n) [] = sym (leb-suc-zero n)
has_leb (suc n) (x ∷ l) = has_leb n l ∙ sym (leb-suc-suc n (length l))

-- a place of a list, or past it, passes what each element and the one past it pass
pub every_at : {A : Type 0} (f : A → Bool) (xs : List A) (d : A) (j : ℕ) → every f xs ≡ true → f d ≡ true → f (get_or xs j d) ≡ true
every_at f [] d j e h = h
every_at f (x ∷ xs) d zero e h = left (f x) (every f xs) e
every_at f (x ∷ xs) d (suc j) e h = every_at f xs d j (right (f x) (every f xs) e) h

-- lists whose elements pass, one after the other
pub every_append : {A : Type 0} (f : A → Bool) (a b : List A) → every f a ≡ true → every f b ≡ true → every f (a ++ b) ≡ true
every_append f [] b x y = y
every_append f (k ∷ a) b x y = both (left (f k) (every f a) x) (every_append f a b (right (f k) (every f a) x) y)

-- lists joined one after the other
pub joined_append : {A B : Type 0} (f : A → List B) (xs ys : List A) → joined f (xs ++ ys) ≡ joined f xs ++ joined f ys
joined_append f [] ys = refl
joined_append f (x ∷ xs) ys = rw (joined_append f xs ys, append_assoc)

-- the same lists joined
pub joined_same : {A B : Type 0} (f g : A → List B) → ((x : A) → f x ≡ g x) → (xs : List A) → joined f xs ≡ joined g xs
joined_same f g h [] = refl
joined_same f g h (x ∷ xs) = rw (h x, joined_same f g h xs)
