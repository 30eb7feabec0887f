-- Laws of digits: how many a number has, and those that are put the last first.
use Prim.Native.Nat.{ℕ, zero, suc, ◌+◌, ◌-◌, ◌*◌, ◌/◌, ◌%◌, ◌^◌, ◌<◌, ◌≤◌}
use mathlib.Core.Path.{◌≡◌, refl, ap, sym, subst, ◌∙◌}
use mathlib.Core.Bool.{Bool, true, false}
use mathlib.Core.List.{List, [], ◌∷◌, ◌++◌, append-nil, append_assoc}
use native.Mathlib.Omega.{arith}
use borrow.Author.Tests.{ltb-true, lt-ltb, le-ltb}
use lib.Dec.{ltb}
use lib.ListN.{length, length-append, set}
use lib.Seq.{sets, set_comm}
use Rattle.std.specs.Prelude.{if◌then◌else◌}
use Rattle.spec.specs.Digits.{digits_from, decimal, hex_digit, hex_digits}
use Rattle.texts.proofs.Laws.{digits_few}

-- HOW MANY DIGITS

-- a number of one digit
one_digit : (n v : ℕ) → v < 10 → length (digits_from (suc n) v) ≡ 1
unfolding digits_from
one_digit n v h = simp (lt-ltb v 10 h)

-- one more than its tenth has
more_digits : (n v : ℕ) → 10 ≤ v → length (digits_from (suc n) v) ≡ length (digits_from n (v / 10)) + 1
unfolding digits_from
more_digits n v h = simp (le-ltb v 10 h) (length-append (digits_from n (v / 10)) ((48 + v % 10) ∷ []))

-- a number from a power of ten on, below the next
digits_log : (n k v : ℕ) → k < n → 10 ^ k ≤ v → v < 10 * 10 ^ k → length (digits_from n v) ≡ k + 1
digits_log zero k v h l u = absurd (omega arith)
digits_log (suc n) zero v h l u = one_digit n v (omega arith)
digits_log (suc n) (suc k) v h l u =
    let t : 10 ≤ v = omega arith in
    more_digits n v t ∙ ap (λ (m : ℕ). m + 1) (digits_log n k (v / 10) (omega arith) (omega arith) (omega arith)) ∙ omega arith

pub decimal_log : (k v : ℕ) → k < 20 → 10 ^ k ≤ v → v < 10 * 10 ^ k → k + 1 ≡ length (decimal v)
unfolding decimal
decimal_log k v h l u = sym (digits_log 20 k v h l u)

-- zero
pub decimal_zero : (v : ℕ) → v ≡ 0 → 1 ≡ length (decimal v)
unfolding decimal
decimal_zero v z = sym (one_digit 19 v (omega arith))

-- THE DIGITS THEMSELVES

-- there is one at least
some_digit : (n v : ℕ) → 1 ≤ length (digits_from (suc n) v)
unfolding digits_from
some_digit n v = by (ltb v 10) (digits_from n (v / 10))
  where
    by : (t : Bool) (more : List ℕ) → 1 ≤ length (if t then (48 + v) ∷ [] else more ++ ((48 + v % 10) ∷ []))
    by true more = omega arith
    by false more = omega (arith, length-append more ((48 + v % 10) ∷ []))

-- so many suffice as there are
enough_digits : (n m v : ℕ) → n ≤ m → length (digits_from m v) ≤ n → digits_from n v ≡ digits_from m v
unfolding digits_from
enough_digits zero zero v h l = refl
enough_digits zero (suc m) v h l = absurd (omega (arith, l, some_digit m v))
enough_digits (suc n) zero v h l = absurd (omega arith)
enough_digits (suc n) (suc m) v h l = by (ltb v 10) refl (λ k. enough_digits n m (v / 10) (omega arith) k)
  where
    by : (t : Bool) → ltb v 10 ≡ t → (length (digits_from m (v / 10)) ≤ n → digits_from n (v / 10) ≡ digits_from m (v / 10)) → digits_from (suc n) v ≡ digits_from (suc m) v
    by true e on = rw e
    by false e on =
        let k : length (digits_from m (v / 10)) + 1 ≤ suc n =
        subst (λ (x : ℕ). x ≤ suc n) (ap (λ (t : Bool). length (if t then (48 + v) ∷ [] else digits_from m (v / 10) ++ ((48 + v % 10) ∷ []))) e ∙ length-append (digits_from m (v / 10)) ((48 + v % 10) ∷ [])) l in
        rw e (ap (λ (z : List ℕ). z ++ ((48 + v % 10) ∷ [])) (on (omega (arith, k))))

-- the digits that were counted are all
pub counted_digits : (n v : ℕ) → n ≡ length (decimal v) → digits_from n v ≡ decimal v
unfolding decimal
counted_digits n v e = enough_digits n 20 v (omega (arith, e, digits_few 20 v)) (omega (arith, e))

-- the last of so many digits, after those of a tenth
pub digits_last : (i v : ℕ) → length (digits_from i v) ≡ i → 0 < i → digits_from i v ≡ digits_from (i - 1) (v / 10) ++ ((48 + v % 10) ∷ [])
unfolding digits_from
digits_last zero v l h = absurd (omega arith)
digits_last (suc n) v l h = by (ltb v 10) refl
  where
    q : suc n - 1 ≡ n
    q = omega arith

    by : (t : Bool) → ltb v 10 ≡ t → digits_from (suc n) v ≡ digits_from (suc n - 1) (v / 10) ++ ((48 + v % 10) ∷ [])
    by true e = one n (omega (arith, l, one_digit n v (ltb-true v 10 e)))
      where
        one : (n : ℕ) → n ≡ 0 → digits_from (suc n) v ≡ digits_from (suc n - 1) (v / 10) ++ ((48 + v % 10) ∷ [])
        one zero z = rw e (ap (λ (d : ℕ). (48 + d) ∷ []) (omega (arith, ltb-true v 10 e)))
        one (suc n) z = absurd (omega arith)
    by false e = rw e (ap (λ (k : ℕ). digits_from k (v / 10) ++ ((48 + v % 10) ∷ [])) (sym q))

-- HEXADECIMAL

-- a digit below ten
pub hex_low : (d : ℕ) → d < 10 → 48 + d ≡ hex_digit d
unfolding hex_digit
hex_low d h = simp (lt-ltb d 10 h)

-- one from ten on
pub hex_high : (d : ℕ) → 10 ≤ d → 65 + (d - 10) ≡ hex_digit d
unfolding hex_digit
hex_high d h = simp (le-ltb d 10 h) (omega arith)

-- the last digit, after those of a sixteenth
pub hex_last : (n v d : ℕ) → 0 < n → d ≡ hex_digit (v % 16) → hex_digits n v ≡ hex_digits (n - 1) (v / 16) ++ (d ∷ [])
unfolding hex_digits
hex_last zero v d h e = absurd (omega arith)
hex_last (suc n) v d h e =
    let q : n ≡ suc n - 1 = omega arith in
    ap (λ (k : ℕ). hex_digits k (v / 16) ++ (hex_digit (v % 16) ∷ [])) q ∙ ap (λ (x : ℕ). hex_digits (suc n - 1) (v / 16) ++ (x ∷ [])) (sym e)

-- there are n
pub hex_length : (n v : ℕ) → length (hex_digits n v) ≡ n
unfolding hex_digits
hex_length zero v = refl
hex_length (suc n) v = length-append (hex_digits n (v / 16)) (hex_digit (v % 16) ∷ []) ∙ omega (arith, hex_length n (v / 16))

-- THE LAST FIRST

-- a store before a run of stores may come after it
set_before : (vs l : List ℕ) (i k a : ℕ) → k < i → set (sets l i vs) k a ≡ sets (set l k a) i vs
set_before [] l i k a h = refl
set_before (x ∷ vs) l i k a h =
    set_before vs (set l i x) (suc i) k a (omega arith)
    ∙ ap (λ (m : List ℕ). sets m (suc i) vs) (set_comm l i k x a (λ e. omega arith))

-- of a text the last bytes are put; the first i are not
pub record Filled (out₀ : List ℕ) (at n : ℕ) (all front : List ℕ) (i : ℕ) (out : List ℕ) : Type 0 where
  pub last : List ℕ
  pub whole : all ≡ front ++ last
  pub count : length front ≡ i
  pub ends : i + length last ≡ n
  pub stored : out ≡ sets out₀ (at + i) last

-- none at first
pub filled_starts : (out : List ℕ) (at n : ℕ) (all front : List ℕ) → all ≡ front → length front ≡ n → Filled out at n all front n out
filled_starts out at n all front e l =
    record { last = []; whole = e ∙ sym (append-nil front); count = l; ends = omega arith; stored = refl }

module _ {out₀ : List ℕ} {at n : ℕ} {all front : List ℕ} {i : ℕ} {out : List ℕ} (f : Filled out₀ at n all front i out) where
  -- one more
  pub filled_on : 0 < i → (front' : List ℕ) (b : ℕ) → front ≡ front' ++ (b ∷ []) → Filled out₀ at n all front' (i - 1) (set out (at + (i - 1)) b)
  filled_on h front' b e =
      let k : suc (at + (i - 1)) ≡ at + i = omega arith in
      record {
        last = b ∷ f.last;
        whole = f.whole ∙ ap (λ (z : List ℕ). z ++ f.last) e ∙ append_assoc front' (b ∷ []) f.last;
        count = omega (arith, f.count, ap length e, length-append front' (b ∷ []));
        ends = omega (arith, f.ends);
        stored =
            ap (λ (z : List ℕ). set z (at + (i - 1)) b) f.stored
            ∙ set_before f.last out₀ (at + i) (at + (i - 1)) b (omega arith)
            ∙ ap (λ (j : ℕ). sets (set out₀ (at + (i - 1)) b) j f.last) (sym k);
      }
