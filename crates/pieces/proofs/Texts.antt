-- Laws of operands' texts: what each way through the code writes.
use Prim.Native.Nat.{ℕ, zero, suc, ◌+◌, ◌*◌, ◌-◌, ◌/◌, ◌%◌, ◌^◌, ◌<◌, ◌≤◌}
use mathlib.Core.Path.{◌≡◌, refl, ap, sym, subst, ◌∙◌}
use mathlib.Core.Bool.{Bool, true, false, not, ◌&&◌, ◌||◌}
use mathlib.Core.List.{List, [], ◌∷◌, ◌++◌, append-nil, append_assoc}
use native.Mathlib.Omega.{arith}
use native.Mathlib.Nat.{mul-le-mul_right}
use native.Mathlib.Numerals.{add-one}
use borrow.Author.Tests.{eqb-true, eq-eqb, ne_eqb}
use lib.Dec.{leb, eqb}
use lib.ListN.{length, take, drop, get_or, drop_of_length-le}
use lib.Seq.{drop-cons}
use Rattle.std.specs.Prelude.{if◌then◌else◌}
use Rattle.spec.specs.Base.{joined, ascii}
use Rattle.spec.specs.Words.{four_at, bits_from, bits_of}
use Rattle.spec.specs.Digits.{decimal, hex_digits}
use Rattle.spec.specs.Kinds.{is_mask, is_long, is_text}
use Rattle.spec.specs.Names.{name_of}
use Rattle.spec.specs.Records.{wide}
use Rattle.spec.specs.Disassembly.{id_text, hex_text, byte_text, string_text, or_nothing, name_text, names_in, set_of_kind, barred, narrow_text, operand_text, spaced}
use Rattle.spec.proofs.Choice.{left, right}
use Rattle.lookup.specs.Find.{text_found, Inside}
use Rattle.operand.specs.Parts.{is_two}
use Rattle.records.specs.Good.{operand_by, operand_at}
use Rattle.records.proofs.Good.{operand_is}
use Rattle.spelled.specs.Spelled.{Readable, AllReadable, operand_after, operands_from}
use Rattle.pieces.specs.Putting.{barred_from, bit_text, has_bits}
use Rattle.std.specs.Prelude.{None, Option, Some}

-- A STRING

-- a byte that is escaped by a `\`
pub byte_marked : (b : ℕ) → (eqb b 34 || eqb b 92) ≡ true → byte_text b ≡ (92 ∷ []) ++ (b ∷ [])
unfolding byte_text
byte_marked b e = by (eqb b 34) (eqb b 92) e
  where
    by : (s t : Bool) → (s || t) ≡ true → (if s || (t || false) then 92 ∷ b ∷ [] else if leb 0x20 b && leb b 0x7E then b ∷ [] else ascii "\\x" ++ hex_digits 2 b) ≡ 92 ∷ b ∷ []
    by true t e = refl
    by false true e = refl
    by false false e = let z : ◌≡◌ {A = ℕ} 0 1 = cc in absurd (omega arith)

-- one that is not
byte_other : (b : ℕ) → (eqb b 34 || eqb b 92) ≡ false → byte_text b ≡ (if leb 0x20 b && leb b 0x7E then b ∷ [] else ascii "\\x" ++ hex_digits 2 b)
unfolding byte_text
byte_other b e = by (eqb b 34) (eqb b 92) e
  where
    by : (s t : Bool) → (s || t) ≡ false → (if s || (t || false) then 92 ∷ b ∷ [] else if leb 0x20 b && leb b 0x7E then b ∷ [] else ascii "\\x" ++ hex_digits 2 b) ≡ (if leb 0x20 b && leb b 0x7E then b ∷ [] else ascii "\\x" ++ hex_digits 2 b)
    by true t e = let z : ◌≡◌ {A = ℕ} 0 1 = cc in absurd (omega arith)
    by false true e = let z : ◌≡◌ {A = ℕ} 0 1 = cc in absurd (omega arith)
    by false false e = refl

-- a byte as it is
pub byte_plain : (b : ℕ) → (eqb b 34 || eqb b 92) ≡ false → (leb 0x20 b && leb b 0x7E) ≡ true → byte_text b ≡ b ∷ []
byte_plain b e f = byte_other b e ∙ rw f

-- any other in two digits
pub byte_hex : (b : ℕ) → (eqb b 34 || eqb b 92) ≡ false → (leb 0x20 b && leb b 0x7E) ≡ false → byte_text b ≡ ascii "\\x" ++ hex_digits 2 b
byte_hex b e f = byte_other b e ∙ rw f

-- what is left of a string from a byte on, with its last quote
unfoldable pub string_from : List ℕ → List ℕ
string_from s = joined byte_text s ++ ascii "\""

-- the first quote, and the rest
pub string_starts : (s : List ℕ) → string_text s ≡ (34 ∷ []) ++ string_from (drop 0 s)
unfolding string_text string_from
string_starts s = refl

-- a byte, and the rest
pub string_more : (s : List ℕ) (i : ℕ) → i < length s → string_from (drop i s) ≡ byte_text (get_or s i 0) ++ string_from (drop (i + 1) s)
unfolding string_from
string_more s i h =
    ap (λ (z : List ℕ). joined byte_text z ++ ascii "\"") (drop-cons s i 0 h ∙ ap (λ (k : ℕ). get_or s i 0 ∷ drop k s) (sym (add-one i)))
    ∙ append_assoc (byte_text (get_or s i 0)) (joined byte_text (drop (i + 1) s)) (ascii "\"")

-- the last quote
pub string_ends : (s : List ℕ) (i : ℕ) → length s ≤ i → string_from (drop i s) ≡ (34 ∷ []) ++ []
unfolding string_from
string_ends s i h = ap (λ (z : List ℕ). joined byte_text z ++ ascii "\"") (drop_of_length-le s {i = i} h)

-- NAMES

-- a name that is found
pub name_found : (run : List ℕ) (set n start end : ℕ) (r : Option (ℕ × ℕ)) → text_found run r ≡ name_of set n → r ≡ Some (start, end) → take (end - start) (drop start run) ≡ name_text set n
unfolding name_text text_found
name_found run set n start end r e q = ap or_nothing (sym (ap (text_found run) q) ∙ e)

-- one that is not
pub name_none : (run : List ℕ) (set n : ℕ) (r : Option (ℕ × ℕ)) → text_found run r ≡ name_of set n → r ≡ None → [] ≡ name_text set n
unfolding name_text text_found
name_none run set n r e q = ap or_nothing (sym (ap (text_found run) q) ∙ e)

-- where it was found, it lies in the run
pub name_inside : (n start end : ℕ) (r : Option (ℕ × ℕ)) → Inside r n → r ≡ Some (start, end) → (start ≤ end) × (end ≤ n)
unfolding Inside
name_inside n start end r h q = subst (λ (x : Option (ℕ × ℕ)). Inside x n) q h

-- MASKS

-- a bit that is not set
pub bit_none : (set digit bit : ℕ) (bar : Bool) → (digit ≡ 1 → ⊥) → [] ≡ bit_text set digit bit bar
unfolding bit_text
bit_none set digit bit bar n = rw (ne_eqb digit 1 n)

-- a bit after others
pub bit_bar : (set digit bit : ℕ) (bar : Bool) → digit ≡ 1 → bar ≡ true → bit_text set digit bit bar ≡ (124 ∷ []) ++ name_text set bit
unfolding bit_text
bit_bar set digit bit bar e f = rw (eq-eqb digit 1 e, f)

-- the first
pub bit_first : (set digit bit : ℕ) (bar : Bool) → digit ≡ 1 → bar ≡ false → bit_text set digit bit bar ≡ name_text set bit
unfolding bit_text
bit_first set digit bit bar e f = rw (eq-eqb digit 1 e, f)

-- 0 has no bits
pub no_bits : (n b : ℕ) → bits_from n b 0 ≡ []
unfolding bits_from
no_bits zero b = refl
no_bits (suc n) b = no_bits n (2 * b)

-- half a number and twice another
pub half_twice : (q r b m : ℕ) → 2 * q ≤ r → r * b ≤ m → q * (2 * b) ≤ m
half_twice q r b m h l = omega (arith, mul-le-mul_right b h)

-- no names of none
barred_none : (bar : Bool) (set : ℕ) → barred_from bar set [] ≡ []
unfolding barred_from barred
barred_none true set = refl
barred_none false set = refl

-- the next bit, by whether it is set, and those after it
bit_by : (bar t : Bool) (set b : ℕ) (more : List ℕ)
    → barred_from bar set (if t then b ∷ more else more)
    ≡ (if t then (if bar then ascii "|" else []) ++ name_text set b else []) ++ barred_from (bar || t) set more
unfolding barred_from barred
bit_by true true set b more = append_assoc (ascii "|") (name_text set b) (joined (λ n. ascii "|" ++ name_text set n) more)
bit_by true false set b more = refl
bit_by false true set b more = refl
bit_by false false set b more = refl

-- a mask of which the bits below one are written: what is left of it, that bit, and how many bits there may still be
pub record Bits (set mask rest bit : ℕ) (bar : Bool) (left : List ℕ) : Type 0 where
  pub count : ℕ
  pub few : rest < 2 ^ count
  pub small : rest * bit ≤ mask
  pub is : left ≡ barred_from bar set (bits_from count bit rest)

-- at the lowest
pub bits_start : (set mask : ℕ) → mask < 2 ^ 32 → Bits set mask mask 1 false (barred set (bits_of mask))
unfolding bits_of barred_from
bits_start set mask h = record { count = 32; few = h; small = omega arith; is = refl }

module _ {set mask rest bit : ℕ} {bar : Bool} {left : List ℕ} (s : Bits set mask rest bit bar left) where
  -- no bit is left
  pub bits_end : rest ≡ 0 → left ≡ []
  bits_end e = s.is ∙ ap (λ (v : ℕ). barred_from bar set (bits_from s.count bit v)) e ∙ ap (barred_from bar set) (no_bits s.count bit) ∙ barred_none bar set

  module _ (z : rest ≡ 0 → ⊥) where
    -- the bit is one of a word
    pub bits_near : bit ≤ mask
    bits_near =
        let h : 1 ≤ rest = omega (arith, z) in
        omega (arith, mul-le-mul_right bit h, s.small)

    -- the next, and those after it
    pub next_bit : (n : ℕ) → rest < 2 ^ n
        → (m : ℕ) × (rest / 2 < 2 ^ m) × (barred_from bar set (bits_from n bit rest) ≡ bit_text set (rest % 2) bit bar ++ barred_from (bar || eqb (rest % 2) 1) set (bits_from m (2 * bit) (rest / 2)))
    unfolding bits_from bit_text
    next_bit zero h = absurd (z (omega arith))
    next_bit (suc n) h = (n, omega arith, bit_by bar (eqb (rest % 2) 1) set bit (bits_from n (2 * bit) (rest / 2)))

    -- what is left after the bit
    unfoldable pub bits_left : List ℕ
    bits_left = barred_from (bar || eqb (rest % 2) 1) set (bits_from (next_bit s.count s.few).0 (2 * bit) (rest / 2))

    -- the bit, and what is left after it
    pub bits_more : left ≡ bit_text set (rest % 2) bit bar ++ bits_left
    unfolding bits_left
    bits_more = s.is ∙ (next_bit s.count s.few).2

    -- one bit on
    pub bits_turn : (bar' : Bool) → bar' ≡ (bar || eqb (rest % 2) 1) → Bits set mask (rest / 2) (2 * bit) bar' bits_left
    unfolding bits_left
    bits_turn bar' e =
        let f = next_bit s.count s.few in
        record {
          count = f.0;
          few = f.1;
          small = half_twice (rest / 2) rest bit mask (omega arith) s.small;
          is = ap (λ (b : Bool). barred_from b set (bits_from f.0 (2 * bit) (rest / 2))) (sym e);
        }

-- AN OPERAND OF ONE WORD

-- a mask's names are those of its own kind
pub own_set : (k : ℕ) → is_mask k ≡ true → set_of_kind k ≡ k
unfolding set_of_kind
own_set k m = by (eqb k 39) refl
  where
    by : (t : Bool) → eqb k 39 ≡ t → (if t then 0 else k) ≡ k
    by true e = let z : ◌≡◌ {A = Bool} false true = sym (ap is_mask (eqb-true k 39 e)) ∙ m in let y : ◌≡◌ {A = ℕ} 0 1 = cc in absurd (omega arith)
    by false e = refl

-- not true
not_told : (t : Bool) → not t ≡ true → t ≡ false
not_told true e = let z : ◌≡◌ {A = ℕ} 0 1 = cc in absurd (omega arith)
not_told false e = refl

-- a mask that is not 0: its bits
pub bits_in_lem : (k v : ℕ) → has_bits k v ≡ true → (is_mask k ≡ true) × (names_in k v ≡ bits_of v)
unfolding has_bits names_in
bits_in_lem k v e =
    let m = left (is_mask k) (not (eqb v 0)) e in
    let z = not_told (eqb v 0) (right (is_mask k) (not (eqb v 0)) e) in
    (m, rw (m, z))

-- any other value: itself
pub value_in_lem : (k v : ℕ) → has_bits k v ≡ false → names_in k v ≡ v ∷ []
unfolding has_bits names_in
value_in_lem k v e = by (is_mask k) (eqb v 0) refl e
  where
    by : (m z : Bool) → eqb v 0 ≡ z → (m && not z) ≡ false → (if m then if z then 0 ∷ [] else bits_of v else v ∷ []) ≡ v ∷ []
    by true true q e = ap (λ (n : ℕ). n ∷ []) (sym (eqb-true v 0 q))
    by true false q e = let y : ◌≡◌ {A = ℕ} 0 1 = cc in absurd (omega arith)
    by false z q e = refl

-- by its bits
pub named_bits : (k v : ℕ) → has_bits k v ≡ true → barred k (bits_of v) ≡ barred (set_of_kind k) (names_in k v)
named_bits k v e =
    let b = bits_in_lem k v e in
    ap (λ (s : ℕ). barred s (bits_of v)) (sym (own_set k b.0)) ∙ ap (barred (set_of_kind k)) (sym b.1)

-- by its value
pub named_value : (k v : ℕ) → has_bits k v ≡ false → name_text (set_of_kind k) v ≡ barred (set_of_kind k) (names_in k v)
unfolding barred
named_value k v e = sym (append-nil (name_text (set_of_kind k) v)) ∙ ap (barred (set_of_kind k)) (sym (value_in_lem k v e))

-- by its value in its set
pub value_text : (k v s : ℕ) → s ≡ set_of_kind k → has_bits k v ≡ false → name_text s v ≡ barred (set_of_kind k) (names_in k v)
value_text k v s e h = ap (λ (z : ℕ). name_text z v) e ∙ named_value k v h

-- the kind's set
pub embedded_set : (k : ℕ) → k ≡ 39 → 0 ≡ set_of_kind k
unfolding set_of_kind
embedded_set k e = rw (eq-eqb k 39 e)

-- any other's
pub other_set : (k : ℕ) → (k ≡ 39 → ⊥) → k ≡ set_of_kind k
unfolding set_of_kind
other_set k n = rw (ne_eqb k 39 n)

module _ (k v : ℕ) where
  -- an id
  pub narrow_id : (leb 31 k && leb k 33) ≡ true → id_text v ≡ narrow_text k v
  unfolding narrow_text
  narrow_id a = rw a

  module _ (a : (leb 31 k && leb k 33) ≡ false) where
    -- a number
    pub narrow_number : (leb 34 k && leb k 35) ≡ true → decimal v ≡ narrow_text k v
    unfolding narrow_text
    narrow_number b = rw (a, b)

    module _ (b : (leb 34 k && leb k 35) ≡ false) where
      -- a float
      pub narrow_float : k ≡ 37 → ascii "0x" ++ hex_digits 8 v ≡ narrow_text k v
      unfolding narrow_text hex_text
      narrow_float e = rw (a, b, eq-eqb k 37 e)

      -- by name
      pub narrow_name : (k ≡ 37 → ⊥) → barred (set_of_kind k) (names_in k v) ≡ narrow_text k v
      unfolding narrow_text
      narrow_name n = rw (a, b, ne_eqb k 37 n)

-- AN OPERAND AT A PLACE OF THE LOG

-- a kind of two words that is no string is a literal
or_left : (t u : Bool) → (t || u) ≡ true → u ≡ false → t ≡ true
or_left true u e f = refl
or_left false u e f = let z : ◌≡◌ {A = ℕ} 0 1 = cc in absurd (omega arith)

module _ (log strings : List ℕ) (a : ℕ) where
  -- of one word
  pub one_text : is_two (get_or log a 0) ≡ false → (w : ℕ) → w ≡ four_at (a + 1) log → narrow_text (get_or log a 0) w ≡ operand_text (operand_at log strings a)
  unfolding operand_text operand_by
  one_text t w e = ap (narrow_text (get_or log a 0)) e ∙ ap operand_text (operand_is log strings a false (is_long (get_or log a 0)) t refl)

  -- a string
  pub string_text_lem : get_or log a 0 ≡ 40 → (low high : ℕ) → low ≡ four_at (a + 1) log → high ≡ four_at (a + 5) log
      → string_text (take (low + high - low) (drop low strings)) ≡ operand_text (operand_at log strings a)
  unfolding operand_text operand_by
  string_text_lem k low high e f =
      let q : low + high - low ≡ high = omega arith in
      ap (λ (n : ℕ). string_text (take n (drop low strings))) (q ∙ f)
      ∙ ap (λ (n : ℕ). string_text (take (four_at (a + 5) log) (drop n strings))) e
      ∙ ap operand_text (operand_is log strings a true false (ap is_two k) (ap is_long k))

  -- a literal of two words
  wide_is : is_two (get_or log a 0) ≡ true → (get_or log a 0 ≡ 40 → ⊥) → (v low high : ℕ) → v ≡ low + 4294967296 * high → low ≡ four_at (a + 1) log → high ≡ four_at (a + 5) log
      → wide (get_or log a 0) v ≡ operand_at log strings a
  unfolding operand_by
  wide_is t n v low high q e f =
      ap (wide (get_or log a 0)) (q ∙ ap (λ (x : ℕ). x + 4294967296 * high) e ∙ ap (λ (x : ℕ). four_at (a + 1) log + 4294967296 * x) f)
      ∙ operand_is log strings a true true t (or_left (is_long (get_or log a 0)) (is_text (get_or log a 0)) t (ne_eqb (get_or log a 0) 40 n))

  module _ (t : is_two (get_or log a 0) ≡ true) (n : get_or log a 0 ≡ 40 → ⊥) (low high : ℕ) (e : low ≡ four_at (a + 1) log) (f : high ≡ four_at (a + 5) log) where
    -- a whole number
    pub long_text : get_or log a 0 ≡ 36 → decimal (low + 4294967296 * high) ≡ operand_text (operand_at log strings a)
    unfolding operand_text
    long_text k =
        ap (λ (b : Bool). if b then decimal (low + 4294967296 * high) else hex_text 16 (low + 4294967296 * high)) (sym (eq-eqb (get_or log a 0) 36 k))
        ∙ ap operand_text (wide_is t n (low + 4294967296 * high) low high refl e f)

    -- a float
    pub double_text : (get_or log a 0 ≡ 36 → ⊥) → ascii "0x" ++ hex_digits 16 (low + 4294967296 * high) ≡ operand_text (operand_at log strings a)
    unfolding operand_text hex_text
    double_text k =
        ap (λ (b : Bool). if b then decimal (low + 4294967296 * high) else hex_text 16 (low + 4294967296 * high)) (sym (ne_eqb (get_or log a 0) 36 k))
        ∙ ap operand_text (wide_is t n (low + 4294967296 * high) low high refl e f)

  -- a string lies in the strings
  pub text_inside : Readable log strings a → get_or log a 0 ≡ 40 → (low high : ℕ) → low ≡ four_at (a + 1) log → high ≡ four_at (a + 5) log → low + high ≤ length strings
  text_inside r k low high e f = omega (arith, r.string (ap is_text k), e, f)

-- OPERANDS

-- none
pub spaced_none : (n : ℕ) (log strings : List ℕ) (a : ℕ) → n ≤ 0 → spaced (operands_from n log strings a) ≡ []
unfolding spaced operands_from
spaced_none zero log strings a h = refl
spaced_none (suc n) log strings a h = absurd (omega arith)

-- a blank and an operand, and those after it
pub spaced_more : (n : ℕ) (log strings : List ℕ) (a : ℕ) → 0 < n
    → spaced (operands_from n log strings a) ≡ ((32 ∷ []) ++ operand_text (operand_at log strings a)) ++ spaced (operands_from (n - 1) log strings (operand_after log a))
unfolding spaced operands_from
spaced_more zero log strings a h = absurd (omega arith)
spaced_more (suc n) log strings a h =
    let q : n ≡ suc n - 1 = omega arith in
    ap (λ (k : ℕ). (32 ∷ operand_text (operand_at log strings a)) ++ joined (λ o. ascii " " ++ operand_text o) (operands_from k log strings (operand_after log a))) q

-- the first can be read, and those after it
pub readable_more : (n : ℕ) (log strings : List ℕ) (a : ℕ) → 0 < n → AllReadable n log strings a → Readable log strings a × AllReadable (n - 1) log strings (operand_after log a)
unfolding AllReadable
readable_more zero log strings a h r = absurd (omega arith)
readable_more (suc n) log strings a h r =
    let q : n ≡ suc n - 1 = omega arith in
    (r.0, subst (λ (k : ℕ). AllReadable k log strings (operand_after log a)) q r.1)
