-- Laws of one instruction's bytes: a string with its zeros, an operand, some operands, first word and result words.
use Prim.Native.Nat.{ℕ, zero, suc, ◌+◌, ◌*◌, ◌-◌, ◌/◌, ◌%◌, ◌<◌, ◌≤◌}
use mathlib.Core.Path.{◌≡◌, refl, ap, sym, subst, ◌∙◌}
use mathlib.Core.Bool.{Bool, true, false, ◌||◌}
use mathlib.Core.List.{List, [], ◌∷◌, ◌++◌, append_assoc, append-nil}
use native.Mathlib.Nat.{zero-add}
use native.Mathlib.Omega.{arith}
use borrow.Author.Tests.{ne_eqb}
use borrow.Rule.Slice.PartMut.{mid_of, put_mid}
use lib.Dec.{leb, eqb}
use lib.ListN.{length, take, drop, get_or, replicate, length-append, length-drop, length-replicate}
use lib.Seq.{sets, length-sets, sets-eq, drop-append-add, length-take-le}
use Rattle.spec.specs.declared.Fields.{Fields}
use Rattle.spec.specs.Base.{joined}
use Rattle.spec.specs.Words.{bytes_of, four_at, long}
use Rattle.spec.specs.Text.{padded}
use Rattle.spec.specs.Kinds.{is_long, is_text}
use Rattle.spec.specs.Records.{Operand, operand_bytes, long_bytes, id_bytes, instr_bytes}
use Rattle.spec.specs.Check.{bits_in, field_in, placed_of}
use Rattle.spec.proofs.Store.{sets_append, rest_is, rest_back}
use Rattle.operand.specs.Parts.{is_two}
use Rattle.records.specs.Good.{operand_by, operand_at}
use Rattle.records.specs.Steps.{word_if, result_words}
use Rattle.records.proofs.Good.{operand_is}
use Rattle.records.proofs.Bytes.{operands_bytes, record_bytes}
use Rattle.spelled.specs.Spelled.{Readable, operand_after, operands_from, AllReadable, head_bytes, said_by, Sound}

-- A STRING

-- a string and its zeros end where its last word does
pub length_padded : (s : List ℕ) → length s - length s % 4 + 4 ≡ length (padded s)
unfolding padded
length_padded s = omega (arith, length-append s (replicate (4 - length s % 4) 0), length-replicate {A = ℕ} (4 - length s % 4) 0)

-- what is left of a zero word after some of its bytes
zero_rest : (k : ℕ) (d : List ℕ) → k < 4 → drop k (bytes_of 0 ++ d) ≡ replicate (4 - k) 0 ++ d
unfolding bytes_of
zero_rest zero d h = refl
zero_rest (suc zero) d h = refl
zero_rest (suc (suc zero)) d h = refl
zero_rest (suc (suc (suc zero))) d h = refl
zero_rest (suc (suc (suc (suc k)))) d h = absurd (omega arith)

-- bytes stored at the start
front : (l b : List ℕ) → length b ≤ length l → sets l 0 b ≡ b ++ drop (length b) l
front l b h = simp zero-add at (sets-eq b l 0 (simp zero-add h))

module _ (l l₁ s : List ℕ) (e : l₁ ≡ sets l (length s - length s % 4) (bytes_of 0)) where
  -- the zero word leaves the length
  pub zeroed_length : length l₁ ≡ length l
  zeroed_length = ap length e ∙ length-sets l (length s - length s % 4) (bytes_of 0)

  -- what is behind the string: the rest of the zero word, and what was there
  behind : length (padded s) ≤ length l → drop (length s) l₁ ≡ replicate (4 - length s % 4) 0 ++ drop (length (padded s)) l
  unfolding bytes_of
  behind h =
      let m = length s - length s % 4 in
      let p : length s - length s % 4 + 4 ≡ length (padded s) = length_padded s in
      let q : length (take m l) ≡ m = length-take-le m l (omega arith) in
      let r : length s ≡ length (take m l) + length s % 4 = omega arith in
      ap (drop (length s)) (e ∙ sets-eq (bytes_of 0) l m (omega arith) ∙ append_assoc (take m l) (bytes_of 0) (drop (m + 4) l))
      ∙ ap (λ (n : ℕ). drop n (take m l ++ (bytes_of 0 ++ drop (m + 4) l))) r
      ∙ drop-append-add (take m l) (bytes_of 0 ++ drop (m + 4) l) (length s % 4)
      ∙ zero_rest (length s % 4) (drop (m + 4) l) (omega arith)
      ∙ ap (λ (n : ℕ). replicate (4 - length s % 4) 0 ++ drop n l) p

  -- the string's bytes go over the zero word
  pub text_put : length (padded s) ≤ length l → (l₂ : List ℕ) → l₂ ≡ sets l₁ 0 s → l₂ ≡ sets l 0 (padded s)
  unfolding padded
  text_put h l₂ g =
      let p : length s - length s % 4 + 4 ≡ length (padded s) = length_padded s in
      g
      ∙ front l₁ s (omega (arith, zeroed_length))
      ∙ ap (λ (z : List ℕ). s ++ z) (behind h)
      ∙ sym (append_assoc s (replicate (4 - length s % 4) 0) (drop (length (padded s)) l))
      ∙ sym (front l (padded s) h)

-- AN OPERAND

-- a kind of two words that is no string is a literal
or_left : (t u : Bool) → (t || u) ≡ true → u ≡ false → t ≡ true
or_left true u e f = refl
or_left false u e f = let z : ◌≡◌ {A = ℕ} 0 1 = cc in absurd (omega arith)

module _ (log strings : List ℕ) (a : ℕ) where
  -- one word
  pub one_bytes : is_two (get_or log a 0) ≡ false → (w : ℕ) → w ≡ four_at (a + 1) log → bytes_of w ≡ operand_bytes (operand_at log strings a)
  unfolding operand_bytes operand_by
  one_bytes t w e = ap bytes_of e ∙ ap operand_bytes (operand_is log strings a false (is_long (get_or log a 0)) t refl)

  -- two words
  pub two_bytes : is_two (get_or log a 0) ≡ true → (get_or log a 0 ≡ 40 → ⊥) → (low high : ℕ) → low ≡ four_at (a + 1) log → high ≡ four_at (a + 5) log
      → low < 4294967296 → bytes_of low ++ bytes_of high ≡ operand_bytes (operand_at log strings a)
  unfolding operand_bytes operand_by
  two_bytes t n low high e f h =
      let x : (low + 4294967296 * high) % 4294967296 ≡ low = omega arith in
      let y : (low + 4294967296 * high) / 4294967296 ≡ high = omega arith in
      ap (λ (v : ℕ). bytes_of v ++ bytes_of high) (sym x)
      ∙ ap (λ (v : ℕ). bytes_of ((low + 4294967296 * high) % 4294967296) ++ bytes_of v) (sym y)
      ∙ ap (λ (v : ℕ). long_bytes (long v high)) e
      ∙ ap (λ (v : ℕ). long_bytes (long (four_at (a + 1) log) v)) f
      ∙ ap operand_bytes (operand_is log strings a true true t (or_left (is_long (get_or log a 0)) (is_text (get_or log a 0)) t (ne_eqb (get_or log a 0) 40 n)))

  -- a string
  pub text_bytes : get_or log a 0 ≡ 40 → (low high : ℕ) → low ≡ four_at (a + 1) log → high ≡ four_at (a + 5) log
      → padded (take (low + high - low) (drop low strings)) ≡ operand_bytes (operand_at log strings a)
  unfolding operand_bytes operand_by
  text_bytes k low high e f =
      let q : low + high - low ≡ high = omega arith in
      ap (λ (n : ℕ). padded (take n (drop low strings))) (q ∙ f)
      ∙ ap (λ (n : ℕ). padded (take (four_at (a + 5) log) (drop n strings))) e
      ∙ ap operand_bytes (operand_is log strings a true false (ap is_two k) (ap is_long k))

  -- a string lies in the strings
  pub text_inside : Readable log strings a → get_or log a 0 ≡ 40 → (low high : ℕ) → low ≡ four_at (a + 1) log → high ≡ four_at (a + 5) log → low + high ≤ length strings
  text_inside r k low high e f = omega (arith, r.string (ap is_text k), e, f)

-- two words one after the other
pub two_put : (l l₁ l₂ : List ℕ) (low high : ℕ) → l₁ ≡ sets l 0 (bytes_of low) → l₂ ≡ sets l₁ 4 (bytes_of high) → l₂ ≡ sets l 0 (bytes_of low ++ bytes_of high)
unfolding bytes_of
two_put l l₁ l₂ low high e f = f ∙ ap (λ (z : List ℕ). sets z 4 (bytes_of high)) e ∙ sets_append (bytes_of low) (bytes_of high) l 0

-- the answer and the output for bytes that are known
pub put_by : (l l₁ bs cs : List ℕ) (n : ℕ) → bs ≡ cs → n ≡ length bs → l₁ ≡ sets l 0 bs → (n ≡ length cs) × (l₁ ≡ sets l 0 cs)
put_by l l₁ bs cs n e h g = (h ∙ ap length e, g ∙ ap (λ (z : List ℕ). sets l 0 z) e)

-- the place after an operand of two words
pub after_two : (log : List ℕ) (a : ℕ) → is_two (get_or log a 0) ≡ true → a + 9 ≡ operand_after log a
unfolding operand_after
after_two log a e = rw e

-- of one
pub after_one : (log : List ℕ) (a : ℕ) → is_two (get_or log a 0) ≡ false → a + 5 ≡ operand_after log a
unfolding operand_after
after_one log a e = rw e

-- SOME OPERANDS

-- the bytes of operands after others
pub joined_append : {A B : Type 0} (f : A → List B) (xs ys : List A) → joined f (xs ++ ys) ≡ joined f xs ++ joined f ys
joined_append f [] ys = refl
joined_append f (x ∷ xs) ys = ap (λ (z : List _). f x ++ z) (joined_append f xs ys) ∙ sym (append_assoc (f x) (joined f xs) (joined f ys))

-- what a loop has done: the bytes of some operands, and those that are left can be read
pub record Putting (log strings : List ℕ) (n start : ℕ) (l₀ l : List ℕ) (from left a at : ℕ) : Type 0 where
  pub acc : List Operand
  pub split : operands_from n log strings start ≡ acc ++ operands_from left log strings a
  pub readable : AllReadable left log strings a
  pub place : at ≡ from + length (joined operand_bytes acc)
  pub stored : l ≡ sets l₀ from (joined operand_bytes acc)
  pub room : from + length (joined operand_bytes (operands_from n log strings start)) ≤ length l₀

-- none at first
pub putting_starts : (log strings : List ℕ) (n start : ℕ) (l : List ℕ) (from : ℕ) → AllReadable n log strings start
    → from + length (joined operand_bytes (operands_from n log strings start)) ≤ length l → Putting log strings n start l l from n start from
putting_starts log strings n start l from r h =
    record { acc = []; split = refl; readable = r; place = omega arith; stored = refl; room = h }

-- what one turn needs and gives
record Turned (log strings : List ℕ) (n start : ℕ) (acc : List Operand) (left a : ℕ) : Type 0 where
  pub here : Readable log strings a
  pub others : AllReadable (left - 1) log strings (operand_after log a)
  pub split : operands_from n log strings start ≡ (acc ++ (operand_at log strings a ∷ [])) ++ operands_from (left - 1) log strings (operand_after log a)

-- the next operand
turned : (log strings : List ℕ) (n start : ℕ) (acc : List Operand) (left a : ℕ) → 0 < left → AllReadable left log strings a
    → operands_from n log strings start ≡ acc ++ operands_from left log strings a → Turned log strings n start acc left a
unfolding operands_from AllReadable
turned log strings n start acc zero a h r e = absurd (omega arith)
turned log strings n start acc (suc m) a h r e =
    let q : m ≡ suc m - 1 = omega arith in
    record {
      here = r.0;
      others = subst (λ (k : ℕ). AllReadable k log strings (operand_after log a)) q r.1;
      split =
          e
          ∙ sym (append_assoc acc (operand_at log strings a ∷ []) (operands_from m log strings (operand_after log a)))
          ∙ ap (λ (k : ℕ). (acc ++ (operand_at log strings a ∷ [])) ++ operands_from k log strings (operand_after log a)) q;
    }

module _ {log strings : List ℕ} {n start : ℕ} {l₀ l : List ℕ} {from left a at : ℕ} (r : Putting log strings n start l₀ l from left a at) where
  -- no byte more or less
  pub putting_length : length l ≡ length l₀
  putting_length = ap length r.stored ∙ length-sets l₀ from (joined operand_bytes r.acc)

  -- all are put
  pub putting_ends : left ≤ 0 → l ≡ sets l₀ from (joined operand_bytes (operands_from n log strings start))
  unfolding operands_from
  putting_ends h =
      let z : left ≡ 0 = omega arith in
      r.stored
      ∙ ap (λ (os : List Operand). sets l₀ from (joined operand_bytes os))
      (sym (r.split ∙ ap (λ (k : ℕ). r.acc ++ operands_from k log strings a) z ∙ append-nil r.acc))

  module _ (h : 0 < left) where
    next : Turned log strings n start r.acc left a
    next = turned log strings n start r.acc left a h r.readable r.split

    -- the next can be read
    pub putting_here : Readable log strings a
    putting_here = next.here

    -- the bytes up to it
    more_bytes : joined operand_bytes (r.acc ++ (operand_at log strings a ∷ [])) ≡ joined operand_bytes r.acc ++ operand_bytes (operand_at log strings a)
    more_bytes =
        joined_append operand_bytes r.acc (operand_at log strings a ∷ [])
        ∙ ap (λ (z : List ℕ). joined operand_bytes r.acc ++ z) (append-nil (operand_bytes (operand_at log strings a)))

    -- how many they are
    length_more : from + length (joined operand_bytes (r.acc ++ (operand_at log strings a ∷ []))) ≡ at + length (operand_bytes (operand_at log strings a))
    length_more =
        omega (arith, r.place, ap length more_bytes ∙ length-append (joined operand_bytes r.acc) (operand_bytes (operand_at log strings a)))

    -- there is room for it
    pub putting_room : at + length (operand_bytes (operand_at log strings a)) ≤ length l
    putting_room =
        omega (
          arith,
          r.room,
          putting_length,
          length_more,
          ap (λ (os : List Operand). length (joined operand_bytes os)) next.split
              ∙ ap length (joined_append operand_bytes (r.acc ++ (operand_at log strings a ∷ [])) (operands_from (left - 1) log strings (operand_after log a)))
              ∙ length-append (joined operand_bytes (r.acc ++ (operand_at log strings a ∷ []))) (joined operand_bytes (operands_from (left - 1) log strings (operand_after log a))),
        )

    -- it is put into the rest
    pub putting_goes_on : (a' k : ℕ) (ys : List ℕ) → a' ≡ operand_after log a → k ≡ length (operand_bytes (operand_at log strings a))
        → ys ≡ sets (mid_of at (length l - at) l) 0 (operand_bytes (operand_at log strings a))
        → (m : ℕ) → m ≡ left - 1 → Putting log strings n start l₀ (put_mid at (length l - at) l ys) from m a' (at + k)
    putting_goes_on a' k ys f e g m q = rw q (record {
      acc = r.acc ++ (operand_at log strings a ∷ []);
      split = next.split ∙ ap (λ (j : ℕ). (r.acc ++ (operand_at log strings a ∷ [])) ++ operands_from (left - 1) log strings j) (sym f);
      readable = subst (λ (j : ℕ). AllReadable (left - 1) log strings j) (sym f) next.others;
      place = ap (λ (j : ℕ). at + j) e ∙ sym length_more;
      stored =
          rest_back l (operand_bytes (operand_at log strings a)) ys at g
          ∙ ap (λ (z : List ℕ). sets z at (operand_bytes (operand_at log strings a))) r.stored
          ∙ ap (λ (j : ℕ). sets (sets l₀ from (joined operand_bytes r.acc)) j (operand_bytes (operand_at log strings a))) r.place
          ∙ sets_append (joined operand_bytes r.acc) (operand_bytes (operand_at log strings a)) l₀ from
          ∙ ap (λ (z : List ℕ). sets l₀ from z) (sym more_bytes);
      room = r.room;
    })

-- what is lent of the rest has room
pub lent_room : (l : List ℕ) (at n : ℕ) → at + n ≤ length l → n ≤ length (mid_of at (length l - at) l)
lent_room l at n h = rw rest_is (simp length-drop (omega arith))

-- FIRST WORD AND RESULT WORDS

-- a result word that is there
pub result_there : (l l₁ : List ℕ) (at w : ℕ) (t : Bool) → t ≡ true → l₁ ≡ sets l at (bytes_of w) → (at + 4 ≡ at + 4 * word_if t) × (l₁ ≡ sets l at (id_bytes (field_in t w)))
unfolding word_if
result_there l l₁ at w t e g = (rw e, rw e g)

-- one that is not
pub result_none : (l : List ℕ) (at w : ℕ) (t : Bool) → t ≡ false → (at ≡ at + 4 * word_if t) × (l ≡ sets l at (id_bytes (field_in t w)))
unfolding word_if
result_none l at w t e = (rw e (omega arith), rw e)

-- room for one that is there
pub result_room : (at n : ℕ) (t : Bool) → t ≡ true → at + 4 * word_if t ≤ n → at + 4 ≤ n
unfolding word_if
result_room at n t e h = rw e at h

-- how long a result word is
length_result : (t : Bool) (w : ℕ) → length (id_bytes (field_in t w)) ≡ 4 * word_if t
unfolding word_if bytes_of
length_result true w = refl
length_result false w = refl

-- first word, result type and result id
pub head_put : (l l₁ l₂ l₃ : List ℕ) (f : Fields) → l₁ ≡ sets l 0 (bytes_of (f.head % 65536 + 65536 * f.words))
    → l₂ ≡ sets l₁ 4 (id_bytes (field_in (eqb (bits_in f % 2) 1) f.rtype)) → (at : ℕ) → at ≡ 4 + 4 * word_if (eqb (bits_in f % 2) 1)
    → l₃ ≡ sets l₂ at (id_bytes (field_in (leb 2 (bits_in f)) f.rid)) → l₃ ≡ sets l 0 (head_bytes f)
unfolding head_bytes bytes_of
head_put l l₁ l₂ l₃ f e₁ e₂ at p e₃ =
    let first = bytes_of (f.head % 65536 + 65536 * f.words) in
    let ty = id_bytes (field_in (eqb (bits_in f % 2) 1) f.rtype) in
    let id = id_bytes (field_in (leb 2 (bits_in f)) f.rid) in
    let q : at ≡ 0 + length (first ++ ty) = omega (arith, p, length-append first ty, length_result (eqb (bits_in f % 2) 1) f.rtype) in
    e₃
    ∙ ap (λ (z : List ℕ). sets z at id) (e₂ ∙ ap (λ (z : List ℕ). sets z 4 ty) e₁ ∙ sets_append first ty l 0)
    ∙ ap (λ (k : ℕ). sets (sets l 0 (first ++ ty)) k id) q
    ∙ sets_append (first ++ ty) id l 0

-- how many result words
pub result_words_lem : (f : Fields) → word_if (eqb (bits_in f % 2) 1) + word_if (leb 2 (bits_in f)) ≡ result_words f
unfolding result_words
result_words_lem f = refl

-- how long first word and result words are
length_head : (f : Fields) → length (head_bytes f) ≡ 4 + 4 * result_words f
unfolding head_bytes result_words bytes_of
length_head f =
    let a = field_in (eqb (bits_in f % 2) 1) f.rtype in
    let b = field_in (leb 2 (bits_in f)) f.rid in
    omega (arith, length-append (id_bytes a) (id_bytes b), length_result (eqb (bits_in f % 2) 1) f.rtype, length_result (leb 2 (bits_in f)) f.rid)

-- THE INSTRUCTION

-- its bytes are those of its head and of its operands
said_bytes : (log strings : List ℕ) (f : Fields)
    → head_bytes f ++ joined operand_bytes (operands_from f.count log strings f.start) ≡ instr_bytes (said_by log strings f).instr
unfolding said_by placed_of instr_bytes head_bytes
said_bytes log strings f = refl

-- four for each word
pub length_said : (log strings : List ℕ) (f : Fields) → Sound log strings f → length (instr_bytes (said_by log strings f).instr) ≡ 4 * f.words
unfolding said_by
length_said log strings f s = record_bytes f (operands_from f.count log strings f.start) s.words

module _ (log strings l l₁ : List ℕ) (f : Fields) (s : Sound log strings f) (at : ℕ) (e : l₁ ≡ sets l 0 (head_bytes f)) (p : at ≡ 4 + 4 * result_words f) where
  -- the head leaves the length
  said_length : length l₁ ≡ length l
  said_length = ap length e ∙ length-sets l 0 (head_bytes f)

  -- there is room for the operands
  pub said_room : 4 * f.words ≤ length l → at + length (joined operand_bytes (operands_from f.count log strings f.start)) ≤ length l₁
  said_room h = omega (arith, said_length, operands_bytes (operands_from f.count log strings f.start), s.words)

  -- head and operands are put
  pub said_put : (l₂ : List ℕ) → l₂ ≡ sets l₁ at (joined operand_bytes (operands_from f.count log strings f.start))
      → l₂ ≡ sets l 0 (instr_bytes (said_by log strings f).instr)
  said_put l₂ g =
      let os = joined operand_bytes (operands_from f.count log strings f.start) in
      g
      ∙ ap (λ (z : List ℕ). sets z at os) e
      ∙ ap (λ (k : ℕ). sets (sets l 0 (head_bytes f)) k os) (p ∙ sym (length_head f) ∙ sym (zero-add (length (head_bytes f))))
      ∙ sets_append (head_bytes f) os l 0
      ∙ ap (λ (z : List ℕ). sets l 0 z) (said_bytes log strings f)
