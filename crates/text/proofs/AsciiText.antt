-- Laws of ASCII text: how the fold over it goes, that no byte is zero, and that it is UTF-8.
use Prim.Native.Nat.{ℕ, zero, suc, ◌<◌, ◌≤◌}
use mathlib.Core.Path.{◌≡◌, refl, ap, sym, subst, ◌∙◌}
use mathlib.Core.Bool.{Bool, true, not, ◌&&◌, and_assoc, and-true}
use mathlib.Core.List.{List, [], ◌∷◌, ◌++◌}
use Rattle.std.specs.Prelude.{Option, Some}
use native.Mathlib.Omega.{arith}
use borrow.Author.Tests.{le-leb, ne_eqb}
use lib.Dec.{T, leb, ltb, leb→le, ltb→lt, eqb}
use lib.ListN.{take, drop}
use lib.Ieee.Fits.{and_i}
use mir.Facts.{and_yes}
use Rattle.std.specs.Prelude.{if◌then◌else◌}
use Rattle.spec.specs.Base.{every}
use Rattle.spec.specs.Text.{Due, due, utf8_table, lead_of, due_after, on_due, utf8_from, is_utf8}
use Rattle.text.specs.AsciiText.{is_ascii_text}

-- THE FOLD

-- one byte more
pub ascii_more : (s : List ℕ) (b : ℕ) → is_ascii_text (s ++ (b ∷ [])) ≡ ((is_ascii_text s && leb 1 b) && ltb b 128)
unfolding is_ascii_text
ascii_more [] b = and-true _
ascii_more (x ∷ s) b = ap (λ (t : Bool). (leb 1 x && ltb x 128) && t) (ascii_more s b) ∙ simp and_assoc

-- WHAT THEY ARE

-- the first is one of ASCII but zero, and the others are ASCII text
ascii_cons : (b : ℕ) (s : List ℕ) → T (is_ascii_text (b ∷ s)) → (1 ≤ b) × (b < 128) × T (is_ascii_text s)
unfolding is_ascii_text
ascii_cons b s h =
    let u = and_yes (leb 1 b && ltb b 128) (is_ascii_text s) h in
    let v = and_yes (leb 1 b) (ltb b 128) u.0 in
    (leb→le 1 b v.0, ltb→lt b 128 v.1, u.1)

-- none is zero
pub no_zero_lem : (s : List ℕ) → T (is_ascii_text s) → every (λ b. not (eqb b 0)) s ≡ true
no_zero_lem [] h = refl
no_zero_lem (b ∷ s) h =
    let u = ascii_cons b s h in
    ap (λ (t : Bool). not t && every (λ x. not (eqb x 0)) s) (ne_eqb b 0 (λ e. omega (arith, u.0))) ∙ no_zero_lem s u.2

-- a byte of ASCII is a whole character
pub whole_byte : (b : ℕ) → b < 128 → due_after (due 0 128 191) b ≡ Some (due 0 128 191)
unfolding due_after lead_of
whole_byte b h =
    ap (λ (t : Bool). if t then Some (due 0 128 191) else lead_of b (drop 1 utf8_table))
    (ap (λ (t : Bool). t && leb b 127) (le-leb 0 b (omega arith)) ∙ le-leb b 127 (omega arith))

-- they are well-formed
pub well_formed_lem : (s : List ℕ) → T (is_ascii_text s) → is_utf8 s ≡ true
unfolding is_utf8 utf8_from
well_formed_lem [] h = refl
well_formed_lem (b ∷ s) h =
    let u = ascii_cons b s h in
    ap (λ (o : Option Due). on_due o (λ d. utf8_from d s)) (whole_byte b u.1) ∙ well_formed_lem s u.2

-- those from a place on
ascii_drop : (n : ℕ) (s : List ℕ) → T (is_ascii_text s) → T (is_ascii_text (drop n s))
ascii_drop zero s h = h
ascii_drop (suc n) [] h = h
ascii_drop (suc n) (b ∷ s) h = ascii_drop n s (ascii_cons b s h).2

-- so many of them
ascii_take : (n : ℕ) (s : List ℕ) → T (is_ascii_text s) → T (is_ascii_text (take n s))
unfolding is_ascii_text
ascii_take zero s h = tt
ascii_take (suc n) [] h = h
ascii_take (suc n) (b ∷ s) h =
    and_i (leb 1 b && ltb b 128) (is_ascii_text (take n s)) (and_yes (leb 1 b && ltb b 128) (is_ascii_text s) h).0 (ascii_take n s (ascii_cons b s h).2)

-- a part of it is ASCII text
pub ascii_part : (n k : ℕ) (s : List ℕ) → T (is_ascii_text s) → T (is_ascii_text (take n (drop k s)))
ascii_part n k s h = ascii_take n (drop k s) (ascii_drop k s h)

-- bytes that are told to be ASCII text are
pub told_ascii : (s : List ℕ) (t : Bool) → t ≡ is_ascii_text s → t ≡ true → T (is_ascii_text s)
told_ascii s t e q = subst T (sym q ∙ e) tt
