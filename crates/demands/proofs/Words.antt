-- What is read from one word: a word, an enumerant, an embedded opcode.
use Prim.Native.Nat.{ℕ, zero, suc, ◌+◌, ◌%◌, ◌<◌}
use mathlib.Core.Path.{◌≡◌, refl, ap}
use mathlib.Core.List.{List, [], ◌∷◌, ◌++◌}
use Rattle.std.specs.Prelude.{Option, None, Some}
use native.Mathlib.Omega.{arith}
use lib.Dec.{eqb-suc-zero}
use lib.ListN.{length}
use Rattle.spec.specs.Words.{four, bytes_of, front, front_of, AllBytes}
use Rattle.spec.specs.Reader.{reader, got, Parse, ◌into◌, word_at, read_word}
use Rattle.spec.specs.Grammar.{Grammar, parameters_for}
use Rattle.spec.specs.Match.{Known, known, known_or, read_enumerant}
use Rattle.demands.proofs.Bytes.{four_bytes, four_word}
use Rattle.demands.proofs.Reading.{Relation, Taken, Comes, Reads}

-- the word in front of a word's bytes is the word
front_bytes : (w : ℕ) (t : List ℕ) → w < 4294967296 → front_of (bytes_of w ++ t) ≡ front w t
unfolding front_of bytes_of
front_bytes w t h = ap (λ (x : ℕ). front x t) (four_bytes w h)

-- what was read from a word in front, and is read again from the bytes of a word
word_taken : {A : Type 0} {R : Relation A} (m : Parse A) (at n a b c d : ℕ) (r : List ℕ) (v : A) (w : ℕ)
    → ((at : ℕ) (t : List ℕ) → m (reader at (Some (suc n)) (a ∷ b ∷ c ∷ d ∷ t)) ≡ got v (reader (at + 4) (Some n) t))
    → (AllBytes (a ∷ b ∷ c ∷ d ∷ []) → (at : ℕ) (t : List ℕ)
    → m (reader at (Some (suc n)) (bytes_of w ++ t)) ≡ got v (reader (at + 4) (Some n) t))
    → R v (a ∷ b ∷ c ∷ d ∷ []) (bytes_of w) → Taken R m at (suc n) (a ∷ b ∷ c ∷ d ∷ r) v (reader (at + 4) (Some n) r)
unfolding bytes_of
word_taken m at n a b c d r v w again back fact =
    record {
      from = a ∷ b ∷ c ∷ d ∷ [];
      left = n;
      behind = r;
      takes = refl;
      to = refl;
      spends = omega arith;
      again = λ at t h. again at t;
      bytes = bytes_of w;
      long = refl;
      back = λ by at t h. back by at t;
      fact = fact;
    }

-- WORDS

-- a word, the four bytes that it was read from, and its own bytes, which are those where they are bytes
pub record Word (w : ℕ) (x y : List ℕ) : Type 0 where
  pub long : length x ≡ 4
  pub are : y ≡ bytes_of w
  pub exact : AllBytes x → (w < 4294967296) × (bytes_of w ≡ x)

-- a word is read from its bytes where a word is left
word_again : (w : ℕ) → w < 4294967296 → (at n : ℕ) (t : List ℕ)
    → read_word (reader at (Some (suc n)) (bytes_of w ++ t)) ≡ got w (reader (at + 4) (Some n) t)
unfolding word_at
word_again w h at n t = rw front_bytes

-- a word
pub word_reads : Reads Word read_word
unfolding word_at front_of
word_reads = record { comes = by }
  where
    by : (at n : ℕ) (rest : List ℕ) → Comes Word read_word at n rest (read_word (reader at (Some n) rest))
    by at zero rest = omega arith
    by at (suc n) [] = omega arith
    by at (suc n) (a ∷ []) = omega arith
    by at (suc n) (a ∷ b ∷ []) = omega arith
    by at (suc n) (a ∷ b ∷ c ∷ []) = omega arith
    by at (suc n) (a ∷ b ∷ c ∷ d ∷ r) =
        word_taken {R = Word} read_word at n a b c d r (four a b c d) (four a b c d) (λ at t. refl)
        (λ by at t. word_again (four a b c d) (four_word a b c d by).0 at n t)
        (record { long = refl; are = refl; exact = four_word a b c d })

-- ENUMERANTS

-- an enumerant and its value's word: it is known, with its parameters
abbrev pub KnownWord : Grammar → ℕ → Relation Known
KnownWord g k (known v ps) x y = Word v x y × (parameters_for k v g ≡ Some ps)

-- an enumerant
pub enumerant_reads : (g : Grammar) (k : ℕ) → Reads (KnownWord g k) (read_enumerant g k)
unfolding read_enumerant word_at front_of
enumerant_reads g k = record { comes = by }
  where
    listed : (at n a b c d : ℕ) (r : List ℕ) (o : Option (List ℕ)) → parameters_for k (four a b c d) g ≡ o
        → Comes (KnownWord g k) (read_enumerant g k) at (suc n) (a ∷ b ∷ c ∷ d ∷ r)
        (known_or at (four a b c d) o (reader (at + 4) (Some n) r))
    listed at n a b c d r None e = omega arith
    listed at n a b c d r (Some ps) e =
        word_taken {R = KnownWord g k} (read_enumerant g k) at n a b c d r (known (four a b c d) ps) (four a b c d)
        (λ at t. rw (eqb-suc-zero n, e))
        (λ by at t. rw (eqb-suc-zero n, word_again (four a b c d) (four_word a b c d by).0 at n t, e))
        (record { long = refl; are = refl; exact = four_word a b c d }, e)

    by : (at n : ℕ) (rest : List ℕ)
        → Comes (KnownWord g k) (read_enumerant g k) at n rest (read_enumerant g k (reader at (Some n) rest))
    by at zero rest = omega arith
    by at (suc n) [] = rw eqb-suc-zero (omega arith)
    by at (suc n) (a ∷ []) = rw eqb-suc-zero (omega arith)
    by at (suc n) (a ∷ b ∷ []) = rw eqb-suc-zero (omega arith)
    by at (suc n) (a ∷ b ∷ c ∷ []) = rw eqb-suc-zero (omega arith)
    by at (suc n) (a ∷ b ∷ c ∷ d ∷ r) = rw eqb-suc-zero (listed at n a b c d r (parameters_for k (four a b c d) g) refl)

-- EMBEDDED OPCODES

-- the low sixteen bits of a word
abbrev pub read_opcode : Parse ℕ
read_opcode = read_word into (λ w. w % 65536)

-- an opcode, the four bytes of a word whose low sixteen bits it is, and its own bytes
pub record Opcode (op : ℕ) (x y : List ℕ) : Type 0 where
  pub word : ℕ
  pub low : op ≡ word % 65536
  pub long : length x ≡ 4
  pub are : y ≡ bytes_of op
  pub exact : AllBytes x → (word < 4294967296) × (bytes_of word ≡ x)

-- an embedded opcode
pub opcode_reads : Reads Opcode read_opcode
unfolding word_at front_of
opcode_reads = record { comes = by }
  where
    by : (at n : ℕ) (rest : List ℕ) → Comes Opcode read_opcode at n rest (read_opcode (reader at (Some n) rest))
    by at zero rest = omega arith
    by at (suc n) [] = omega arith
    by at (suc n) (a ∷ []) = omega arith
    by at (suc n) (a ∷ b ∷ []) = omega arith
    by at (suc n) (a ∷ b ∷ c ∷ []) = omega arith
    by at (suc n) (a ∷ b ∷ c ∷ d ∷ r) =
        let w : ℕ = four a b c d in
        let low : w % 65536 % 65536 ≡ w % 65536 = omega arith in
        word_taken {R = Opcode} read_opcode at n a b c d r (w % 65536) (w % 65536) (λ at t. refl)
        (λ by at t. rw (word_again (w % 65536) (omega arith) at n t, low))
        (record { word = w; low = refl; long = refl; are = refl; exact = four_word a b c d })
