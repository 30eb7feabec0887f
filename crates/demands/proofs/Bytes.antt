-- Bytes: lists of them, and the bytes of words.
use Prim.Native.Nat.{ℕ, zero, suc, ◌+◌, ◌*◌, ◌/◌, ◌%◌, ◌<◌}
use mathlib.Core.Path.{◌≡◌, refl, ap, sym, ◌∙◌}
use mathlib.Core.List.{List, [], ◌∷◌, ◌++◌}
use native.Mathlib.Omega.{arith}
use native.Mathlib.Nat.{div-add-mod', div-div-eq-div-mul}
use mir.Syntax.{w8}
use mir.Val.{Fits}
use lib.ListN.{length, get_or, take, drop, replicate, take-append-drop}
use Rattle.spec.specs.Base.{joined}
use Rattle.spec.specs.Words.{AllBytes, four, bytes_of, words_of}

-- LISTS OF BYTES

-- the elements of a slice of bytes, as the prover knows them
abbrev pub SliceOfBytes : List ℕ → Type 0
SliceOfBytes s = (i : ℕ) → Fits w8 (get_or s i 0)

-- are bytes
pub slice_bytes : (s : List ℕ) → SliceOfBytes s → AllBytes s
slice_bytes [] h = tt
slice_bytes (b ∷ s) h = ((h 0).fits, slice_bytes s (λ i. h (suc i)))

-- bytes before bytes are bytes
pub all_append : (x y : List ℕ) → AllBytes x → AllBytes y → AllBytes (x ++ y)
all_append [] y a b = b
all_append (c ∷ x) y a b = (a.0, all_append x y a.1 b)

-- the first part of bytes is bytes
pub all_left : (x y : List ℕ) → AllBytes (x ++ y) → AllBytes x
all_left [] y a = tt
all_left (c ∷ x) y a = (a.0, all_left x y a.1)

-- and so is the last
pub all_right : (x y : List ℕ) → AllBytes (x ++ y) → AllBytes y
all_right [] y a = a
all_right (c ∷ x) y a = all_right x y a.1

-- the first bytes of some are bytes
pub all_take : (n : ℕ) (l : List ℕ) → AllBytes l → AllBytes (take n l)
all_take n l a = all_left (take n l) (drop n l) (rw take-append-drop a)

-- and so are the others
pub all_drop : (n : ℕ) (l : List ℕ) → AllBytes l → AllBytes (drop n l)
all_drop n l a = all_right (take n l) (drop n l) (rw take-append-drop a)

-- zeros are bytes
pub all_zeros : (n : ℕ) → AllBytes (replicate n 0)
all_zeros zero = tt
all_zeros (suc n) = (omega arith, all_zeros n)

-- WORDS

-- a word's bytes are bytes
pub word_bytes : (w : ℕ) → AllBytes (bytes_of w)
unfolding bytes_of
word_bytes w = (omega arith, (omega arith, (omega arith, (omega arith, tt))))

-- a number by four digits of 256
digits : (w q1 q2 q3 r0 r1 r2 : ℕ) → q1 * 256 + r0 ≡ w → q2 * 256 + r1 ≡ q1 → q3 * 256 + r2 ≡ q2 → four r0 r1 r2 q3 ≡ w
digits w q1 q2 q3 r0 r1 r2 e1 e2 e3 = omega arith

-- the word of the four bytes of a word is the word
pub four_bytes : (w : ℕ) → w < 4294967296 → four (w % 256) (w / 256 % 256) (w / 65536 % 256) (w / 16777216 % 256) ≡ w
four_bytes w h =
    let e2 : w / 65536 ≡ w / 256 / 256 = sym (div-div-eq-div-mul w 256 256) in
    let e3 : w / 16777216 ≡ w / 256 / 256 / 256 =
    sym (ap (λ (x : ℕ). x / 256) (div-div-eq-div-mul w 256 256) ∙ div-div-eq-div-mul w 65536 256) in
    let e4 : w / 16777216 % 256 ≡ w / 16777216 = omega arith in
    rw (e4, e2, e3)
    (digits w (w / 256) (w / 256 / 256) (w / 256 / 256 / 256) (w % 256) (w / 256 % 256) (w / 256 / 256 % 256)
    (div-add-mod' w 256) (div-add-mod' (w / 256) 256) (div-add-mod' (w / 256 / 256) 256))

-- four bytes make a word, whose bytes they are
pub four_word : (a b c d : ℕ) → AllBytes (a ∷ b ∷ c ∷ d ∷ [])
    → (four a b c d < 4294967296) × (bytes_of (four a b c d) ≡ a ∷ b ∷ c ∷ d ∷ [])
unfolding bytes_of
four_word a b c d by =
    let q1 : four a b c d / 256 ≡ b + 256 * c + 65536 * d = omega arith in
    let q2 : four a b c d / 65536 ≡ c + 256 * d = omega arith in
    let q3 : four a b c d / 16777216 ≡ d = omega arith in
    let e0 : four a b c d % 256 ≡ a = omega arith in
    let e1 : (b + 256 * c + 65536 * d) % 256 ≡ b = omega arith in
    let e2 : (c + 256 * d) % 256 ≡ c = omega arith in
    let e3 : d % 256 ≡ d = omega arith in
    (omega arith, (cc))

-- the bytes of the words of whole words are those bytes
pub bytes_words : (l : List ℕ) (k : ℕ) → AllBytes l → length l ≡ 4 * k → joined bytes_of (words_of l) ≡ l
unfolding words_of
bytes_words [] k by e = refl
bytes_words (a ∷ []) k by e = absurd (omega arith)
bytes_words (a ∷ b ∷ []) k by e = absurd (omega arith)
bytes_words (a ∷ b ∷ c ∷ []) k by e = absurd (omega arith)
bytes_words (a ∷ b ∷ c ∷ d ∷ r) zero by e = absurd (omega arith)
bytes_words (a ∷ b ∷ c ∷ d ∷ r) (suc k) by e =
    cc ((four_word a b c d (all_left (a ∷ b ∷ c ∷ d ∷ []) r by)).1, bytes_words r k by.1.1.1.1 (omega arith))
