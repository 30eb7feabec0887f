-- Laws of marks: the bits of a word, and what setting one that is not set comes to.
use Prim.Native.Nat.{ℕ, zero, suc, ◌+◌, ◌*◌, ◌/◌, ◌%◌, ◌^◌, ◌<◌}
use mathlib.Core.Path.{◌≡◌, refl, ap, sym, ◌∙◌}
use mathlib.Core.Bool.{Bool, true, false}
use mathlib.Core.List.{List}
use native.Mathlib.Omega.{arith}
use native.Mathlib.Nat.{pow-succ', div-div-eq-div-mul, add-div_right, one-mul}
use lib.Pow.{pow_pos, shl_exact}
use lib.Dec.{eqb}
use lib.ListN.{length, get_or, set, length-set}
use lib.Seq.{get_or-set_same, get_or-set_other}
use borrow.Author.Tests.{eq-eqb, eqb-true, eqb-false}
use Rattle.tracker.specs.Hints.{is_marked, with_mark}

-- A BIT OF A WORD

-- a bit of a word is the next lower bit of its half
bit_half : (b w : ℕ) → w / 2 ^ suc b % 2 ≡ w / 2 / 2 ^ b % 2
bit_half b w = ap (λ (m : ℕ). w / m % 2) (pow-succ' 2 b) ∙ ap (λ (m : ℕ). m % 2) (sym (div-div-eq-div-mul w 2 (2 ^ b)))

-- the half of a word with a bit more is its half with the next lower bit more
half_more : (b w : ℕ) → (w + 2 ^ suc b) / 2 ≡ w / 2 + 2 ^ b
half_more b w = let e = pow-succ' 2 b in omega (arith, e)

-- a bit that is set, which was not
bit_own : (b w : ℕ) → w / 2 ^ b % 2 ≡ 0 → (w + 2 ^ b) / 2 ^ b % 2 ≡ 1
bit_own b w e = let q = add-div_right w (pow_pos b) in omega (arith, q)

-- another bit stays
bit_other : (b c w : ℕ) → (b ≡ c → ⊥) → w / 2 ^ b % 2 ≡ 0 → (w + 2 ^ b) / 2 ^ c % 2 ≡ w / 2 ^ c % 2
bit_other zero zero w d e = absurd (d refl)
bit_other zero (suc c) w d e =
    let h : (w + 1) / 2 ≡ w / 2 = omega (arith, e) in
    bit_half c (w + 1) ∙ ap (λ (m : ℕ). m / 2 ^ c % 2) h ∙ sym (bit_half c w)
bit_other (suc b) zero w d e = let q = pow-succ' 2 b in omega (arith, q)
bit_other (suc b) (suc c) w d e =
    bit_half c (w + 2 ^ suc b)
    ∙ ap (λ (m : ℕ). m / 2 ^ c % 2) (half_more b w)
    ∙ bit_other b c (w / 2) (λ q. d (ap suc q)) (sym (bit_half b w) ∙ e)
    ∙ sym (bit_half c w)

-- a word of so many bits has room for a bit that is not set
bit_fits : (n b w : ℕ) → b < n → w < 2 ^ n → w / 2 ^ b % 2 ≡ 0 → w + 2 ^ b < 2 ^ n
bit_fits zero b w h f e = absurd (omega arith)
bit_fits (suc n) zero w h f e = let q = pow-succ' 2 n in omega (arith, q)
bit_fits (suc n) (suc b) w h f e =
    let q = pow-succ' 2 n in
    let p = pow-succ' 2 b in
    let r = bit_fits n b (w / 2) (omega arith) (omega (arith, q)) (sym (bit_half b w) ∙ e) in
    omega (arith, q, p, r)

-- a bit of a word of 16 bits, as it is made
one_bit : (b : ℕ) → b < 16 → 1 * 2 ^ b % 65536 ≡ 2 ^ b
one_bit b h = shl_exact {a = 1} 1 b 16 (omega arith) (omega arith) ∙ one-mul (2 ^ b)

-- A MARK

module _ (hs : List ℕ) (id : ℕ) where
  -- the bit of a mark that is not set
  mark_clear : is_marked hs id ≡ false → get_or hs (id / 16) 0 / 2 ^ (id % 16) % 2 ≡ 0
  unfolding is_marked
  mark_clear e = let n = eqb-false (get_or hs (id / 16) 0 / 2 ^ (id % 16) % 2) 1 e in omega (arith, n)

  module _ (e : is_marked hs id ≡ false) where
    -- there is room for it
    pub mark_fits : get_or hs (id / 16) 0 < 65536 → get_or hs (id / 16) 0 + 1 * 2 ^ (id % 16) % 65536 < 65536
    mark_fits h =
        let b : id % 16 < 16 = omega arith in
        omega (arith, one_bit (id % 16) b, bit_fits 16 (id % 16) (get_or hs (id / 16) 0) b h (mark_clear e))

    -- it is set
    pub mark_own : id / 16 < length hs → is_marked (with_mark hs id) id ≡ true
    unfolding is_marked with_mark
    mark_own h =
        ap (λ (w : ℕ). eqb (w / 2 ^ (id % 16) % 2) 1) (get_or-set_same hs (id / 16) (get_or hs (id / 16) 0 + 2 ^ (id % 16)) 0 h)
        ∙ eq-eqb _ 1 (bit_own (id % 16) (get_or hs (id / 16) 0) (mark_clear e))

    -- another stays, by whether it stands in the same word
    mark_other_by : (j : ℕ) → (id ≡ j → ⊥) → id / 16 < length hs → (t : Bool) → eqb (id / 16) (j / 16) ≡ t
        → is_marked (with_mark hs id) j ≡ is_marked hs j
    unfolding is_marked with_mark
    mark_other_by j d h true q =
        let same = eqb-true (id / 16) (j / 16) q in
        let apart : id % 16 ≡ j % 16 → ⊥ = λ f. d (omega (arith, same, f)) in
        ap (λ (w : ℕ). eqb (w / 2 ^ (j % 16) % 2) 1)
        (ap (λ (k : ℕ). get_or (set hs (id / 16) (get_or hs (id / 16) 0 + 2 ^ (id % 16))) k 0) (sym same)
        ∙ get_or-set_same hs (id / 16) (get_or hs (id / 16) 0 + 2 ^ (id % 16)) 0 h)
        ∙ ap (λ (m : ℕ). eqb m 1) (bit_other (id % 16) (j % 16) (get_or hs (id / 16) 0) apart (mark_clear e))
        ∙ ap (λ (k : ℕ). eqb (get_or hs k 0 / 2 ^ (j % 16) % 2) 1) same
    mark_other_by j d h false q =
        ap (λ (w : ℕ). eqb (w / 2 ^ (j % 16) % 2) 1)
        (get_or-set_other hs (id / 16) (j / 16) (get_or hs (id / 16) 0 + 2 ^ (id % 16)) 0 (λ f. eqb-false (id / 16) (j / 16) q (sym f)))

    -- another stays
    pub mark_other : (j : ℕ) → (id ≡ j → ⊥) → id / 16 < length hs → is_marked (with_mark hs id) j ≡ is_marked hs j
    mark_other j d h = mark_other_by j d h (eqb (id / 16) (j / 16)) refl

  -- the word with it, as it is made
  pub mark_made : set hs (id / 16) (get_or hs (id / 16) 0 + 1 * 2 ^ (id % 16) % 65536) ≡ with_mark hs id
  unfolding with_mark
  mark_made =
      let b : id % 16 < 16 = omega arith in
      ap (λ (x : ℕ). set hs (id / 16) (get_or hs (id / 16) 0 + x)) (one_bit (id % 16) b)

  -- there are as many hints
  pub length_marked : length (with_mark hs id) ≡ length hs
  unfolding with_mark
  length_marked = length-set hs (id / 16) (get_or hs (id / 16) 0 + 2 ^ (id % 16))

  -- what stands behind stays
  pub marked_behind : (k : ℕ) → id / 16 < k → get_or (with_mark hs id) k 0 ≡ get_or hs k 0
  unfolding with_mark
  marked_behind k h = get_or-set_other hs (id / 16) k (get_or hs (id / 16) 0 + 2 ^ (id % 16)) 0 (λ q. omega arith)
