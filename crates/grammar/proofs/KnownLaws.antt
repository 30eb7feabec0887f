-- Whether a value is known: a mask bit by bit, lowest first.
use mathlib.Core.Path.{◌≡◌, refl, sym, ap, ◌∙◌}
use mathlib.Core.Bool.{Bool, true, false, not, ◌&&◌}
use mathlib.Core.List.{List, [], ◌∷◌}
use Rattle.std.specs.Prelude.{Option, None, Some}
use Prim.Native.Nat.{ℕ, zero, suc, ◌*◌, ◌/◌, ◌%◌, ◌^◌, ◌≤◌, ◌<◌}
use native.Mathlib.Nat.{mul-le-mul_right}
use native.Mathlib.Omega.{arith}
use borrow.Author.Tests.{eq-eqb, ne_eqb, not-true, not-false}
use lib.Dec.{eqb}
use Rattle.std.specs.Prelude.{if◌then◌else◌}
use Rattle.spec.specs.Words.{bits_from, bits_of}
use Rattle.spec.specs.Kinds.{is_mask}
use Rattle.spec.specs.Grammar.{Enumerant, Grammar, listed, both_listed, bits_listed, parameters_for}
use Rattle.grammar.specs.Find.{parameters_found, is_listed, bit_listed}

-- ONE VALUE

-- is a place found
abbrev pub is_found : Option ℕ → Bool
is_found (Some p) = true
is_found None = false

-- what is found is listed
pub found_listed : (g : List ℕ) (f : Option ℕ) (x : Option (List ℕ)) → parameters_found g f ≡ x → is_found f ≡ is_listed x
unfolding parameters_found is_listed
found_listed g (Some p) x e = ap is_listed e
found_listed g None x e = ap is_listed e

-- a bit that is set
pub bit_set : (es : List Enumerant) (k set bit : ℕ) (t : Bool) → set ≡ 1 → t ≡ is_listed (listed k bit es) → t ≡ bit_listed es k set bit
unfolding bit_listed
bit_set es k set bit t e h = simp (eq-eqb set 1 e) h

-- a bit that is not set
pub bit_clear : (es : List Enumerant) (k set bit : ℕ) → (set ≡ 1 → ⊥) → true ≡ bit_listed es k set bit
unfolding bit_listed
bit_clear es k set bit e = simp (ne_eqb set 1 e)

-- a value of a mask
pub known_mask : (g : Grammar) (k v : ℕ) (t : Bool) → is_mask k ≡ true → t ≡ is_listed (bits_listed k (bits_of v) g.enumerants) → t ≡ is_listed (parameters_for k v g)
unfolding parameters_for
known_mask g k v t e h = rw e h

-- another value
pub known_value : (g : Grammar) (k v : ℕ) (t : Bool) → is_mask k ≡ false → t ≡ is_listed (listed k v g.enumerants) → t ≡ is_listed (parameters_for k v g)
unfolding parameters_for
known_value g k v t e h = rw e h

-- BIT BY BIT

-- both are listed where each is
both_listed_lem : (a b : Option (List ℕ)) → is_listed (both_listed a b) ≡ is_listed a && is_listed b
unfolding is_listed
both_listed_lem None b = refl
both_listed_lem (Some a) None = refl
both_listed_lem (Some a) (Some b) = refl

-- 0 has no bits
no_bits : (n b : ℕ) → bits_from n b 0 ≡ []
unfolding bits_from
no_bits zero b = refl
no_bits (suc n) b = no_bits n (2 * b)

-- half a number and twice another
half_twice : (q r b m : ℕ) → 2 * q ≤ r → r * b ≤ m → q * (2 * b) ≤ m
half_twice q r b m h l = omega (arith, mul-le-mul_right b h)

module _ (es : List Enumerant) (k : ℕ) where
  -- the next bit, by whether it is set, and those after it
  bit_by : (t : Bool) (b : ℕ) (more : List ℕ) → is_listed (bits_listed k (if t then b ∷ more else more) es) ≡ (if t then is_listed (listed k b es) else true) && is_listed (bits_listed k more es)
  unfolding bits_listed
  bit_by true b more = both_listed_lem (listed k b es) (bits_listed k more es)
  bit_by false b more = refl

  -- the bits of a number that is not 0: its lowest, and those of its half
  bit_first : (n rest bit : ℕ) → rest < 2 ^ n → (rest ≡ 0 → ⊥)
      → (m : ℕ) × (rest / 2 < 2 ^ m) × (is_listed (bits_listed k (bits_from n bit rest) es) ≡ bit_listed es k (rest % 2) bit && is_listed (bits_listed k (bits_from m (2 * bit) (rest / 2)) es))
  unfolding bits_from bit_listed
  bit_first zero rest bit h z = absurd (z (omega arith))
  bit_first (suc n) rest bit h z = (n, omega arith, bit_by (eqb (rest % 2) 1) bit (bits_from n (2 * bit) (rest / 2)))

  module _ (mask : ℕ) where
    -- a mask of which the bits below one are listed: the rest of it, that bit, and how many bits there may still be
    pub record Bits (rest bit : ℕ) : Type 0 where
      pub count : ℕ
      pub left : rest < 2 ^ count
      pub small : rest * bit ≤ mask
      pub whole : is_listed (bits_listed k (bits_of mask) es) ≡ is_listed (bits_listed k (bits_from count bit rest) es)

    -- at the lowest bit
    pub bits_start : mask < 2 ^ 32 → Bits mask 1
    unfolding bits_of
    bits_start h = record { count = 32; left = h; small = omega arith; whole = refl }

    module _ (rest bit : ℕ) (s : Bits rest bit) where
      -- no bit is left
      pub bits_end : rest ≡ 0 → true ≡ is_listed (bits_listed k (bits_of mask) es)
      unfolding is_listed bits_listed
      bits_end e = sym (s.whole ∙ rw (e, no_bits))

      module _ (z : rest ≡ 0 → ⊥) where
        -- the bit is one of a word
        pub bits_near : bit ≤ mask
        bits_near =
            let h : 1 ≤ rest = omega (arith, z) in
            omega (arith, mul-le-mul_right bit h, s.small)

        module _ (t : Bool) (e : t ≡ bit_listed es k (rest % 2) bit) where
          -- a bit is not listed
          pub bits_bad : not t ≡ true → false ≡ is_listed (bits_listed k (bits_of mask) es)
          bits_bad n =
              let f = bit_first s.count rest bit s.left z in
              sym (s.whole ∙ f.2 ∙ rw (← e, not-true t n))

          -- the bit is listed
          pub bits_turn : not t ≡ false → Bits (rest / 2) (2 * bit)
          bits_turn n =
              let f = bit_first s.count rest bit s.left z in
              record {
                count = f.0;
                left = f.1;
                small = half_twice (rest / 2) rest bit mask (omega arith) s.small;
                whole = s.whole ∙ f.2 ∙ rw (← e, not-false t n);
              }
