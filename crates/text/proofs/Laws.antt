-- Laws of the search for a zero byte: what its answer says of a string, and how its loop goes.
use Prim.Native.Nat.{ℕ, ◌+◌, ◌<◌, ◌≤◌}
use mathlib.Core.Path.{◌≡◌, refl, ap, sym, ◌∙◌}
use mathlib.Core.Bool.{Bool, true, false}
use mathlib.Core.List.{List, [], ◌∷◌}
use Rattle.std.specs.Prelude.{Option, None, Some, option_map}
use native.Mathlib.Nat.{zero-add, add-zero}
use native.Mathlib.Numerals.{add-one}
use borrow.Author.Tests.{eq-eqb, ne_eqb}
use native.Mathlib.Omega.{arith}
use lib.Dec.{eqb}
use lib.ListN.{length, take, drop, get_or, drop_of_length-le}
use lib.Seq.{drop-cons}
use Rattle.spec.specs.Text.{until_zero}
use Rattle.text.specs.Zero.{zero_in}

-- WHAT THE ANSWER SAYS

-- a string that ends is the front of the bytes, and shorter
unfoldable Front : List ℕ → Option (List ℕ) → Type 0
Front s None = Unit
Front s (Some bs) = (length bs < length s) × (bs ≡ take (length bs) s)

-- a byte before others, by whether it is zero and what string they hold
front_cons : (b : ℕ) (s : List ℕ) (z : Bool) (o : Option (List ℕ)) → eqb b 0 ≡ z → until_zero s ≡ o → Front s o → Front (b ∷ s) (until_zero (b ∷ s))
unfolding Front until_zero
front_cons b s true o e f h = simp e (omega arith, refl)
front_cons b s false None e f h = simp (e, f) tt
front_cons b s false (Some bs) e f h = simp (e, f) (omega arith, ap (λ (l : List ℕ). b ∷ l) h.1)

-- the bytes before the first zero byte are the front
front : (s : List ℕ) → Front s (until_zero s)
unfolding Front until_zero
front [] = tt
front (b ∷ s) = front_cons b s (eqb b 0) (until_zero s) refl refl (front s)

-- the string before a zero byte found at i
at_by : (s : List ℕ) (i : ℕ) (o : Option (List ℕ)) → Front s o → Some i ≡ option_map length o → (i < length s) × (o ≡ Some (take i s))
unfolding Front
at_by s i None h e = let z : ◌≡◌ {A = ℕ} 0 1 = cc in absurd (omega arith)
at_by s i (Some bs) h e = let q : i ≡ length bs = cc in rw q (h.0, ap Some h.1)

-- a zero byte found at i is within the bytes, and the string is the i bytes before it
pub zero_at : (s : List ℕ) (i : ℕ) → Some i ≡ zero_in s → (i < length s) × (until_zero s ≡ Some (take i s))
unfolding zero_in
zero_at s i e = at_by s i (until_zero s) (front s) e

-- no string before a zero byte that is not found
nothing_by : (o : Option (List ℕ)) → None ≡ option_map length o → o ≡ None
nothing_by None e = refl
nothing_by (Some bs) e = let z : ◌≡◌ {A = ℕ} 0 1 = cc in absurd (omega arith)

-- where no zero byte is found, no string ends
pub zero_nothing : (s : List ℕ) → None ≡ zero_in s → until_zero s ≡ None
unfolding zero_in
zero_nothing s e = nothing_by (until_zero s) e

-- HOW THE LOOP GOES

-- the bytes from i on are one and those after it
pub rest : (s : List ℕ) (i : ℕ) → i < length s → drop i s ≡ get_or s i 0 ∷ drop (i + 1) s
rest s i h = rw (add-one, drop-cons s i 0)

-- the answer where i bytes are passed and this is the string of the rest
unfoldable pub found_from : ℕ → Option (List ℕ) → Option ℕ
found_from i None = None
found_from i (Some bs) = Some (i + length bs)

-- no byte is passed at first
from_start : (o : Option (List ℕ)) → option_map length o ≡ found_from 0 o
unfolding found_from
from_start None = refl
from_start (Some bs) = simp zero-add

-- a byte that is not zero is passed
from_next : (i b : ℕ) (s : List ℕ) (o : Option (List ℕ)) → (b ≡ 0 → ⊥) → until_zero s ≡ o → found_from i (until_zero (b ∷ s)) ≡ found_from (i + 1) o
unfolding found_from until_zero
from_next i b s None z e = simp (ne_eqb b 0 z, e)
from_next i b s (Some bs) z e = simp (ne_eqb b 0 z, e) (ap (λ (n : ℕ). Some n) (omega arith))

-- at i, the answer is that of the rest
pub record Searched (s : List ℕ) (i : ℕ) : Type 0 where
  pub answer : zero_in s ≡ found_from i (until_zero (drop i s))

-- before the first byte
pub search_starts : (s : List ℕ) → Searched s 0
unfolding zero_in
search_starts s = record { answer = from_start (until_zero s) }

module _ {s : List ℕ} {i : ℕ} (r : Searched s i) where
  -- the byte at i decides
  here : i < length s → zero_in s ≡ found_from i (until_zero (get_or s i 0 ∷ drop (i + 1) s))
  here h = r.answer ∙ ap (λ (l : List ℕ). found_from i (until_zero l)) (rest s i h)

  -- past a byte that is not zero
  pub search_goes_on : i < length s → (get_or s i 0 ≡ 0 → ⊥) → Searched s (i + 1)
  search_goes_on h z = record { answer = here h ∙ from_next i (get_or s i 0) (drop (i + 1) s) _ z refl }

  -- at a zero byte
  pub search_finds : i < length s → get_or s i 0 ≡ 0 → Some i ≡ zero_in s
  unfolding found_from until_zero
  search_finds h z = sym (here h ∙ simp (eq-eqb (get_or s i 0) 0 z, add-zero))

  -- at the end
  pub search_ends : length s ≤ i → None ≡ zero_in s
  unfolding found_from until_zero
  search_ends h = sym (r.answer ∙ ap (λ (l : List ℕ). found_from i (until_zero l)) (drop_of_length-le s h))
