-- Laws of an operand's record in the log, and of what is kept in a store.
use Prim.Native.Nat.{ℕ, ◌+◌, ◌*◌, ◌/◌, ◌%◌, ◌<◌, ◌≤◌}
use mathlib.Core.Path.{◌≡◌, refl, ap, sym, ◌∙◌}
use mathlib.Core.Bool.{Bool, true, false}
use mathlib.Core.List.{List, [], ◌∷◌, ◌++◌}
use native.Mathlib.Omega.{arith}
use native.Mathlib.Numerals.{add-one}
use borrow.Author.Tests.{le-leb, lt-leb}
use lib.Dec.{leb}
use lib.ListN.{length, length-append, set}
use lib.Seq.{sets, length-sets}
use Rattle.spec.specs.Words.{bytes_of}
use Rattle.spec.proofs.Store.{sets_append}
use Rattle.operand.specs.declared.Parts.{Parts}
use Rattle.operand.specs.Parts.{is_two}
use Rattle.operand.specs.Log.{record_by, record_of, length_by, record_length, kept, Laid}

-- THE RECORD'S LENGTH

-- a record of two words
pub length_two : (p : Parts) → is_two p.kind ≡ true → 9 ≡ record_length p
unfolding record_length length_by
length_two p e = simp e

-- a record of one word
pub length_one : (p : Parts) → is_two p.kind ≡ false → 5 ≡ record_length p
unfolding record_length length_by
length_one p e = simp e

-- one word or two
length_cases : (b : Bool) → (5 ≤ length_by b) × (length_by b ≤ 9)
unfolding length_by
length_cases true = (omega arith, omega arith)
length_cases false = (omega arith, omega arith)

-- a record has five bytes at least and nine at most
pub length_range : (p : Parts) → (5 ≤ record_length p) × (record_length p ≤ 9)
unfolding record_length
length_range p = length_cases (is_two p.kind)

length_by_lem : (b : Bool) (k v : ℕ) → length (record_by b k v) ≡ length_by b
unfolding record_by length_by bytes_of
length_by_lem true k v = refl
length_by_lem false k v = refl

-- so long is the record
pub length_record : (p : Parts) → length (record_of p) ≡ record_length p
unfolding record_of record_length
length_record p = length_by_lem (is_two p.kind) p.kind p.value

-- THE RECORD STORED

-- a multiple of 256 more changes no byte
more_of : (q x : ℕ) → (256 * q + x) % 256 ≡ x % 256
more_of q x = omega arith

-- a word's bytes are those of its low 32 bits
bytes_low : (v : ℕ) → bytes_of (v % 4294967296) ≡ bytes_of v
unfolding bytes_of
bytes_low v =
    let a : v % 4294967296 % 256 ≡ v % 256 = omega arith in
    let b : v / 256 ≡ 256 * (65536 * (v / 4294967296)) + v % 4294967296 / 256 = omega arith in
    let c : v / 65536 ≡ 256 * (256 * (v / 4294967296)) + v % 4294967296 / 65536 = omega arith in
    let d : v / 16777216 ≡ 256 * (v / 4294967296) + v % 4294967296 / 16777216 = omega arith in
    simp (a, b, c, d, more_of)

module _ (l l₁ : List ℕ) (at : ℕ) (p : Parts) (e : l₁ ≡ sets (set l at p.kind) (at + 1) (bytes_of (p.value % 4294967296))) where
  -- the kind and the first word
  first : l₁ ≡ sets l at (p.kind ∷ bytes_of (p.value % 4294967296))
  first = e ∙ ap (λ (k : ℕ). sets (set l at p.kind) k (bytes_of (p.value % 4294967296))) (add-one at)

  -- no byte more or less
  first_length : length l₁ ≡ length l
  first_length = ap length first ∙ length-sets l at (p.kind ∷ bytes_of (p.value % 4294967296))

  -- there is room for the second word
  pub second_room : at + record_length p ≤ length l → is_two p.kind ≡ true → at + 5 + 4 ≤ length l₁
  second_room h f = omega (arith, first_length, length_two p f)

  -- that is all for one word
  pub stored_one : is_two p.kind ≡ false → l₁ ≡ sets l at (record_of p)
  unfolding record_of record_by
  stored_one f = first ∙ ap (λ (bs : List ℕ). sets l at (p.kind ∷ bs)) (bytes_low p.value) ∙ simp f

  -- the second word follows
  pub stored_two : (l₂ : List ℕ) → l₂ ≡ sets l₁ (at + 5) (bytes_of (p.value / 4294967296)) → is_two p.kind ≡ true → l₂ ≡ sets l at (record_of p)
  unfolding record_of record_by bytes_of
  stored_two l₂ g f =
      g ∙ ap (λ (z : List ℕ). sets z (at + 5) (bytes_of (p.value / 4294967296))) first
      ∙ sets_append (p.kind ∷ bytes_of (p.value % 4294967296)) (bytes_of (p.value / 4294967296)) l at
      ∙ simp f

-- WHAT IS KEPT

-- bytes that are kept
pub kept_yes : (k : Bool) (l : List ℕ) (at : ℕ) (bs x : List ℕ) → k ≡ true → x ≡ sets l at bs → x ≡ kept k l at bs
unfolding kept
kept_yes k l at bs x e h = rw e h

-- bytes that are not
pub kept_no : (k : Bool) (l : List ℕ) (at : ℕ) (bs : List ℕ) → k ≡ false → l ≡ kept k l at bs
unfolding kept
kept_no k l at bs e = rw e

-- no bytes
pub kept_nil : (k : Bool) (l : List ℕ) (at : ℕ) → l ≡ kept k l at []
unfolding kept
kept_nil true l at = refl
kept_nil false l at = refl

-- the store keeps its length
pub length_kept : (k : Bool) (l : List ℕ) (at : ℕ) (bs : List ℕ) → length (kept k l at bs) ≡ length l
unfolding kept
length_kept true l at bs = length-sets l at bs
length_kept false l at bs = refl

-- bytes that fit are kept
pub kept_fits : (l x : List ℕ) (at n : ℕ) (bs : List ℕ) → at + n ≤ length l → x ≡ sets l at bs → x ≡ kept (leb (at + n) (length l)) l at bs
kept_fits l x at n bs h e = kept_yes (leb (at + n) (length l)) l at bs x (le-leb (at + n) (length l) h) e

-- others are not
pub kept_full : (l : List ℕ) (at n : ℕ) (bs : List ℕ) → length l < at + n → l ≡ kept (leb (at + n) (length l)) l at bs
kept_full l at n bs h = kept_no (leb (at + n) (length l)) l at bs (lt-leb (at + n) (length l) h)

-- bytes that were kept where they fit went in
pub laid_kept : (l x : List ℕ) (at n : ℕ) (bs : List ℕ) → length bs ≡ n → x ≡ kept (leb (at + n) (length l)) l at bs → Laid l at bs x
laid_kept l x at n bs q e =
    record {
      same = ap length e ∙ length_kept (leb (at + n) (length l)) l at bs;
      there = λ h. e ∙ sym (kept_fits l (sets l at bs) at n bs (omega (arith, q, h)) refl);
    }

-- no bytes
pub laid_nil : (l : List ℕ) (at : ℕ) → Laid l at [] l
laid_nil l at = record { same = refl; there = λ h. refl }

-- bytes after bytes
pub laid_append : {l₀ l m : List ℕ} {at : ℕ} {a b : List ℕ} → Laid l₀ at a l → Laid l (at + length a) b m → Laid l₀ at (a ++ b) m
laid_append {l₀} {l} {m} {at} {a} {b} p q =
    record {
      same = q.same ∙ p.same;
      there = λ h.
          let e = length-append a b in
          q.there (omega (arith, h, e, p.same))
          ∙ ap (λ (x : List ℕ). sets x (at + length a) b) (p.there (omega (arith, h, e)))
          ∙ sets_append a b l₀ at;
    }
