-- The first word of the bytes from a position on: it is there, or there are too few bytes.
use Prim.Native.Nat.{ℕ, suc, ◌+◌, ◌<◌, ◌≤◌}
use mathlib.Core.Path.{◌≡◌, refl, ap, ◌∙◌}
use mathlib.Core.Bool.{Bool, true, false}
use mathlib.Core.List.{List, [], ◌∷◌}
use native.Mathlib.Omega.{arith}
use native.Mathlib.Numerals.{towards_suc}
use borrow.Author.Tests.{leb-true, leb-false}
use lib.Dec.{leb}
use lib.ListN.{length, get_or, drop, length-drop}
use lib.Seq.{drop-cons}
use Rattle.spec.specs.Words.{Front, short, front, front_of, four_at}

-- the four bytes of a word, and the bytes after it
pub drop_four : (s : List ℕ) (at : ℕ) → at + 4 ≤ length s
    → drop at s ≡ get_or s at 0 ∷ get_or s (at + 1) 0 ∷ get_or s (at + 2) 0 ∷ get_or s (at + 3) 0 ∷ drop (at + 4) s
drop_four s at h =
    let h0 : at < length s = omega arith in
    let h1 : suc at < length s = omega arith in
    let h2 : suc (suc at) < length s = omega arith in
    let h3 : suc (suc (suc at)) < length s = omega arith in
    simp towards_suc
    (drop-cons s at 0 h0 ∙ ap (λ (r : List ℕ). get_or s at 0 ∷ r) (drop-cons s (suc at) 0 h1
    ∙ ap (λ (r : List ℕ). get_or s (suc at) 0 ∷ r) (drop-cons s (suc (suc at)) 0 h2
    ∙ ap (λ (r : List ℕ). get_or s (suc (suc at)) 0 ∷ r) (drop-cons s (suc (suc (suc at))) 0 h3))))

-- a word is there
pub front_got : (s : List ℕ) (at : ℕ) → at + 4 ≤ length s → front_of (drop at s) ≡ front (four_at at s) (drop (at + 4) s)
unfolding front_of
front_got s at h = ap front_of (drop_four s at h)

-- under four bytes hold no word
few_short : (l : List ℕ) → length l < 4 → front_of l ≡ short
unfolding front_of
few_short [] h = refl
few_short (a ∷ []) h = refl
few_short (a ∷ b ∷ []) h = refl
few_short (a ∷ b ∷ c ∷ []) h = refl
few_short (a ∷ b ∷ c ∷ d ∷ r) h = absurd (omega arith)

-- too few bytes from a position on
pub front_short : (s : List ℕ) (at : ℕ) → length s < at + 4 → front_of (drop at s) ≡ short
front_short s at h = few_short (drop at s) (simp length-drop (omega arith))

-- What holds of a word that is there, and of too few bytes, holds of the first word of the rest.
module _ (s : List ℕ) (at : ℕ) (P : Front → Type 0)
    (there : at + 4 ≤ length s → P (front (four_at at s) (drop (at + 4) s))) (few : length s < at + 4 → P short) where
  -- by the test for four bytes
  by_test : (t : Bool) → leb (at + 4) (length s) ≡ t → P (front_of (drop at s))
  by_test true e = let h : at + 4 ≤ length s = leb-true (at + 4) (length s) e in rw front_got (there h)
  by_test false e = let h : length s < at + 4 = leb-false (at + 4) (length s) e in rw front_short (few h)

  -- so of the first word
  pub by_front : P (front_of (drop at s))
  by_front = by_test (leb (at + 4) (length s)) refl
