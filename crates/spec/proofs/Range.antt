-- A test that is computed over a whole range holds of each number in it.
use Prim.Native.Nat.{ℕ, zero, suc, ◌+◌, ◌<◌, ◌≤◌}
use mathlib.Core.Path.{◌≡◌}
use mathlib.Core.Bool.{Bool, true, ◌&&◌}
use native.Mathlib.Omega.{arith}
use borrow.Author.Tests.{ltb-true, ltb-false}
use lib.Dec.{ltb}
use Rattle.spec.proofs.Choice.{left, right, cases}

-- a test of each of n numbers, from a on
abbrev pub all : (ℕ → Bool) → ℕ → ℕ → Bool
all f a zero = true
all f a (suc n) = f a && all f (suc a) n

-- it holds of each
pub each : (f : ℕ → Bool) (a n : ℕ) → all f a n ≡ true → (x : ℕ) → a ≤ x → x < a + n → f x ≡ true
each f a zero e x h g = absurd (omega arith)
each f a (suc n) e x h g =
    cases (ltb a x)
    (λ l. each f (suc a) n (right (f a) (all f (suc a) n) e) x (omega (arith, ltb-true a x l)) (omega arith))
    (λ l. let a-is : a ≡ x = omega (arith, ltb-false a x l) in rw a-is at (left (f a) (all f (suc a) n) e))

-- so does a test of each number below another
pub below_at : (f : ℕ → Bool) (n k : ℕ) → all f 0 n ≡ true → k < n → f k ≡ true
below_at f n k e h = each f 0 n e k (omega arith) (omega arith)
