-- From the header's code to its definition.
use Prim.Native.Nat.{ℕ, suc, ◌+◌, ◌*◌, ◌/◌, ◌<◌, ◌≤◌}
use mathlib.Core.Path.{◌≡◌, ap, sym, ◌∙◌}
use mathlib.Core.List.{List, [], ◌∷◌}
use native.Mathlib.Omega.{arith}
use borrow.Author.Tests.{lt-ltb, le-ltb, ne_eqb}
use lib.ListN.{length, take, drop}
use Rattle.spec.specs.declared.HeaderRead.{HeaderRead}
use Rattle.spec.specs.Words.{four_at, words_of}
use Rattle.spec.specs.Reader.{refusal}
use Rattle.spec.specs.Header.{magic_fault, no_header, header_by, header_from}
use Rattle.words.proofs.Front.{drop_four}

-- a word more of a run
words_more : (s : List ℕ) (n at : ℕ) → at + 4 ≤ length s
    → words_of (take (suc (suc (suc (suc n)))) (drop at s)) ≡ four_at at s ∷ words_of (take n (drop (at + 4) s))
unfolding words_of
words_more s n at h = ap (λ (l : List ℕ). words_of (take (suc (suc (suc (suc n)))) l)) (drop_four s at h)

-- the five words of a header
abbrev five : List ℕ → List ℕ
five s = four_at 0 s ∷ four_at 4 s ∷ four_at 8 s ∷ four_at 12 s ∷ four_at 16 s ∷ []

-- are the whole words of its bytes
five_words : (s : List ℕ) → 20 ≤ length s → words_of (take 20 s) ≡ five s
unfolding words_of
five_words s h =
    words_more s 16 0 (omega arith)
    ∙ ap (λ (l : List ℕ). four_at 0 s ∷ l) (words_more s 12 4 (omega arith)
    ∙ ap (λ (l : List ℕ). four_at 4 s ∷ l) (words_more s 8 8 (omega arith)
    ∙ ap (λ (l : List ℕ). four_at 8 s ∷ l) (words_more s 4 12 (omega arith)
    ∙ ap (λ (l : List ℕ). four_at 12 s ∷ l) (words_more s 0 16 (omega arith)))))

-- under twenty bytes: 1 at the missing word
pub header_short : (s : List ℕ) (x : HeaderRead) → x ≡ no_header 1 (4 * (length s / 4)) → length s < 20 → x ≡ header_from s
unfolding header_from
header_short s x e h = simp (lt-ltb (length s) 20 h) e

module _ (s : List ℕ) (h : 20 ≤ length s) where
  -- twenty bytes or more: the header goes by those words
  header_is : header_from s ≡ header_by (five s)
  unfolding header_from
  header_is = simp (le-ltb (length s) 20 h) (ap header_by (five_words s h))

  -- a magic number that is not the right one
  pub header_faulty : (w f : ℕ) (x : HeaderRead) → w ≡ four_at 0 s → f ≡ magic_fault (w ∷ []) → (f ≡ 0 → ⊥) → x ≡ no_header f 0 → x ≡ header_from s
  header_faulty w f x p e z g =
      let q : magic_fault (four_at 0 s ∷ []) ≡ f = ap (λ (v : ℕ). magic_fault (v ∷ [])) (sym p) ∙ sym e in
      g ∙ sym (header_is ∙ simp (q, ne_eqb f 0 z))

  -- a right one
  pub header_got : (w f a b c d : ℕ) → w ≡ four_at 0 s → f ≡ magic_fault (w ∷ []) → f ≡ 0
      → a ≡ four_at 4 s → b ≡ four_at 8 s → c ≡ four_at 12 s → d ≡ four_at 16 s
      → record { refusal = refusal 0 0 0; words = w ∷ a ∷ b ∷ c ∷ d ∷ [] } ≡ header_from s
  header_got w f a b c d p e z ea eb ec ed =
      let q : magic_fault (four_at 0 s ∷ []) ≡ 0 = ap (λ (v : ℕ). magic_fault (v ∷ [])) (sym p) ∙ sym e ∙ z in
      rw (p, ea, eb, ec, ed) (sym (header_is ∙ simp q))
