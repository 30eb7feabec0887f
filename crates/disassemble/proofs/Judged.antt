-- Laws of names that are there or lack.
use Prim.Native.Nat.{ℕ, zero, suc, ◌+◌, ◌*◌, ◌-◌, ◌/◌, ◌%◌, ◌^◌, ◌<◌, ◌≤◌}
use mathlib.Core.Path.{◌≡◌, refl, ap, sym, subst, ◌∙◌}
use mathlib.Core.Bool.{Bool, true, false, not, ◌&&◌}
use mathlib.Core.List.{List, ◌∷◌}
use native.Mathlib.Omega.{arith}
use native.Mathlib.Nat.{mul-le-mul_right, zero-add}
use borrow.Author.Tests.{eq-eqb, ne_eqb}
use lib.Dec.{leb, eqb}
use lib.ListN.{length, drop, get_or, length-drop}
use lib.Seq.{drop-drop}
use Rattle.spec.specs.declared.Fields.{Fields}
use Rattle.std.specs.Prelude.{if◌then◌else◌}
use Rattle.spec.specs.Base.{every}
use Rattle.spec.specs.Words.{four_at, bits_from, bits_of}
use Rattle.spec.specs.Kinds.{is_long}
use Rattle.spec.specs.Names.{name_of}
use Rattle.spec.specs.Records.{narrow, record_size, fields_at}
use Rattle.spec.specs.Check.{placed_of}
use Rattle.spec.specs.Disassembly.{is_there, set_of_kind, operand_named, is_named}
use Rattle.lookup.specs.Find.{text_found}
use Rattle.operand.specs.Parts.{is_two}
use Rattle.records.specs.Good.{operand_by, operand_at}
use Rattle.records.proofs.Good.{operand_is}
use Rattle.spelled.specs.Spelled.{AllReadable, operand_after, operands_from, said_by}
use Rattle.pieces.specs.Putting.{bit_named, has_bits}
use Rattle.pieces.proofs.Texts.{readable_more}
use Rattle.disassemble.specs.Listed.{said_from, Told, named_count}
use Rattle.pieces.proofs.Texts.{no_bits, half_twice, own_set, bits_in_lem, value_in_lem}
use Rattle.std.specs.Prelude.{None, Option, Some, is_some}

-- A NAME

-- it is there where its text was found
pub name_there : (run : List ℕ) (set n : ℕ) (r : Option (ℕ × ℕ)) → text_found run r ≡ name_of set n → is_some r ≡ is_there (name_of set n)
unfolding text_found
name_there run set n (Some (start, end)) e = ap is_there e
name_there run set n None e = ap is_there e

-- MASKS

-- a bit that is set
pub bit_set : (set digit bit : ℕ) (t : Bool) → digit ≡ 1 → t ≡ is_there (name_of set bit) → t ≡ bit_named set digit bit
unfolding bit_named
bit_set set digit bit t e h = rw (eq-eqb digit 1 e) h

-- one that is not
pub bit_clear : (set digit bit : ℕ) → (digit ≡ 1 → ⊥) → true ≡ bit_named set digit bit
unfolding bit_named
bit_clear set digit bit n = rw (ne_eqb digit 1 n)

-- has each of some bits a name
abbrev pub all_named : ℕ → List ℕ → Bool
all_named set ns = every (λ n. is_there (name_of set n)) ns

-- the next bit, by whether it is set, and those after it
bit_by : (t : Bool) (set b : ℕ) (more : List ℕ) → all_named set (if t then b ∷ more else more) ≡ (if t then is_there (name_of set b) else true) && all_named set more
bit_by true set b more = refl
bit_by false set b more = refl

-- a mask of which the bits below one have names
pub record Judging (set mask rest bit : ℕ) : Type 0 where
  pub count : ℕ
  pub few : rest < 2 ^ count
  pub small : rest * bit ≤ mask
  pub whole : all_named set (bits_of mask) ≡ all_named set (bits_from count bit rest)

-- at the lowest
pub judging_starts : (set mask : ℕ) → mask < 2 ^ 32 → Judging set mask mask 1
unfolding bits_of
judging_starts set mask h = record { count = 32; few = h; small = omega arith; whole = refl }

-- not true, not false
not_true : (t : Bool) → not t ≡ true → t ≡ false
not_true true e = let z : ◌≡◌ {A = ℕ} 0 1 = cc in absurd (omega arith)
not_true false e = refl

not_false : (t : Bool) → not t ≡ false → t ≡ true
not_false true e = refl
not_false false e = let z : ◌≡◌ {A = ℕ} 0 1 = cc in absurd (omega arith)

module _ {set mask rest bit : ℕ} (s : Judging set mask rest bit) where
  -- no bit is left
  pub judging_ends : rest ≡ 0 → true ≡ all_named set (bits_of mask)
  judging_ends e = sym (s.whole ∙ ap (λ (v : ℕ). all_named set (bits_from s.count bit v)) e ∙ ap (all_named set) (no_bits s.count bit))

  module _ (z : rest ≡ 0 → ⊥) where
    -- the bit is one of a word
    pub judging_near : bit ≤ mask
    judging_near =
        let h : 1 ≤ rest = omega (arith, z) in
        omega (arith, mul-le-mul_right bit h, s.small)

    -- the next, and those after it
    next_bit : (n : ℕ) → rest < 2 ^ n
        → (m : ℕ) × (rest / 2 < 2 ^ m) × (all_named set (bits_from n bit rest) ≡ bit_named set (rest % 2) bit && all_named set (bits_from m (2 * bit) (rest / 2)))
    unfolding bits_from bit_named
    next_bit zero h = absurd (z (omega arith))
    next_bit (suc n) h = (n, omega arith, bit_by (eqb (rest % 2) 1) set bit (bits_from n (2 * bit) (rest / 2)))

    module _ (t : Bool) (e : t ≡ bit_named set (rest % 2) bit) where
      -- a bit lacks a name
      pub judging_bad : not t ≡ true → false ≡ all_named set (bits_of mask)
      judging_bad n = sym (s.whole ∙ (next_bit s.count s.few).2 ∙ rw (← e, not_true t n))

      -- it has one
      pub judging_turn : not t ≡ false → Judging set mask (rest / 2) (2 * bit)
      judging_turn n =
          let f = next_bit s.count s.few in
          record {
            count = f.0;
            few = f.1;
            small = half_twice (rest / 2) rest bit mask (omega arith) s.small;
            whole = s.whole ∙ f.2 ∙ rw (← e, not_false t n);
          }

-- OPERANDS

module _ (k v : ℕ) (t : Bool) where
  -- an id or a literal
  pub narrow_nameless : (leb 31 k && leb k 38) ≡ true → true ≡ operand_named (narrow k v)
  unfolding operand_named
  narrow_nameless e = rw e

  -- a mask
  pub narrow_bits : (leb 31 k && leb k 38) ≡ false → has_bits k v ≡ true → t ≡ all_named k (bits_of v) → t ≡ operand_named (narrow k v)
  unfolding operand_named
  narrow_bits e h g =
      let b = bits_in_lem k v h in
      rw (e, own_set k b.0, b.1) g

  -- a value
  pub narrow_value : (leb 31 k && leb k 38) ≡ false → has_bits k v ≡ false → t ≡ is_there (name_of (set_of_kind k) v) → t ≡ operand_named (narrow k v)
  unfolding operand_named
  narrow_value e h g = rw (e, value_in_lem k v h) (g ∙ and_true (is_there (name_of (set_of_kind k) v)))
    where
      and_true : (b : Bool) → b ≡ b && true
      and_true true = refl
      and_true false = refl

module _ (log strings : List ℕ) (a : ℕ) where
  -- of two words
  pub two_named : is_two (get_or log a 0) ≡ true → true ≡ operand_named (operand_at log strings a)
  unfolding operand_named operand_by
  two_named t = by (is_long (get_or log a 0)) ∙ ap operand_named (operand_is log strings a true (is_long (get_or log a 0)) t refl)
    where
      by : (u : Bool) → true ≡ operand_named (operand_by true u log strings a)
      by true = refl
      by false = refl

  -- of one
  pub one_named : is_two (get_or log a 0) ≡ false → (t : Bool) (w : ℕ) → w ≡ four_at (a + 1) log → t ≡ operand_named (narrow (get_or log a 0) w) → t ≡ operand_named (operand_at log strings a)
  unfolding operand_by
  one_named n t w e h = h ∙ ap (λ (x : ℕ). operand_named (narrow (get_or log a 0) x)) e ∙ ap operand_named (operand_is log strings a false (is_long (get_or log a 0)) n refl)

-- operands of which those before a place have their names
pub record Passing (log strings : List ℕ) (n start left a : ℕ) : Type 0 where
  pub readable : AllReadable left log strings a
  pub whole : every operand_named (operands_from n log strings start) ≡ every operand_named (operands_from left log strings a)

-- the first and those after it
each_named : (n : ℕ) (log strings : List ℕ) (a : ℕ) → 0 < n
    → every operand_named (operands_from n log strings a) ≡ operand_named (operand_at log strings a) && every operand_named (operands_from (n - 1) log strings (operand_after log a))
unfolding operands_from
each_named zero log strings a h = absurd (omega arith)
each_named (suc n) log strings a h =
    let q : n ≡ suc n - 1 = omega arith in
    ap (λ (k : ℕ). operand_named (operand_at log strings a) && every operand_named (operands_from k log strings (operand_after log a))) q

-- none is left
none_named : (n : ℕ) (log strings : List ℕ) (a : ℕ) → n ≤ 0 → every operand_named (operands_from n log strings a) ≡ true
unfolding operands_from
none_named zero log strings a h = refl
none_named (suc n) log strings a h = absurd (omega arith)

module _ {log strings : List ℕ} {n start left a : ℕ} (p : Passing log strings n start left a) where
  -- all have their names
  pub passing_ends : left ≤ 0 → true ≡ every operand_named (operands_from n log strings start)
  passing_ends h = sym (p.whole ∙ none_named left log strings a h)

  module _ (h : 0 < left) (t : Bool) (e : t ≡ operand_named (operand_at log strings a)) where
    -- one lacks a name
    pub passing_bad : not t ≡ true → false ≡ every operand_named (operands_from n log strings start)
    passing_bad f = sym (p.whole ∙ each_named left log strings a h ∙ rw (← e, not_true t f))

    -- it has its names
    pub passing_on : not t ≡ false → (a' left' : ℕ) → a' ≡ operand_after log a → left' ≡ left - 1 → Passing log strings n start left' a'
    passing_on f a' left' q d =
        rw d record {
          readable = subst (AllReadable (left - 1) log strings) (sym q) (readable_more left log strings a h p.readable).1;
          whole = p.whole ∙ each_named left log strings a h ∙ rw (← e, not_false t f) (ap (λ (k : ℕ). every operand_named (operands_from (left - 1) log strings k)) (sym q));
        }

-- INSTRUCTIONS

-- the opcode has a name: by the operands
pub said_named : (log strings : List ℕ) (f : Fields) (o t : Bool) → o ≡ is_there (name_of 0 (f.head % 65536)) → o ≡ true
    → t ≡ every operand_named (operands_from f.count log strings f.start) → t ≡ is_named (said_by log strings f)
unfolding is_named said_by placed_of
said_named log strings f o t e h g = g ∙ rw (← e, h)

-- it has none
pub said_unnamed : (log strings : List ℕ) (f : Fields) (o : Bool) → o ≡ is_there (name_of 0 (f.head % 65536)) → o ≡ false → false ≡ is_named (said_by log strings f)
unfolding is_named said_by placed_of
said_unnamed log strings f o e h = rw (← e, h)

-- records of which the first i have their names
pub record Counting (ws log strings : List ℕ) (count i : ℕ) : Type 0 where
  pub left : ℕ
  pub few : i + left ≡ count
  pub told : Told left (drop (record_size * i) ws) log strings
  pub whole : named_count (said_from count ws log strings) ≡ i + named_count (said_from left (drop (record_size * i) ws) log strings)

-- none at first
pub count_starts : (ws log strings : List ℕ) (count : ℕ) → Told count ws log strings → Counting ws log strings count 0
count_starts ws log strings count t = record { left = count; few = omega arith; told = t; whole = sym (zero-add _) }

-- what the next record tells
record Here (ws log strings : List ℕ) (left : ℕ) : Type 0 where
  pub inside : record_size ≤ length ws
  pub readable : AllReadable (fields_at ws).count log strings (fields_at ws).start
  pub told : Told (left - 1) (drop record_size ws) log strings
  pub counted : named_count (said_from left ws log strings) ≡ (if is_named (said_by log strings (fields_at ws)) then suc (named_count (said_from (left - 1) (drop record_size ws) log strings)) else 0)

here : (left : ℕ) (ws log strings : List ℕ) → 0 < left → Told left ws log strings → Here ws log strings left
unfolding Told said_from named_count
here zero ws log strings h t = absurd (omega arith)
here (suc n) ws log strings h t =
    let q : n ≡ suc n - 1 = omega arith in
    record {
      inside = t.0;
      readable = t.1;
      told = subst (λ (k : ℕ). Told k (drop record_size ws) log strings) q t.2;
      counted = ap (λ (k : ℕ). if is_named (said_by log strings (fields_at ws)) then suc (named_count (said_from k (drop record_size ws) log strings)) else 0) q;
    }

-- no record, none with names
none_counted : (left : ℕ) (ws log strings : List ℕ) → left ≡ 0 → named_count (said_from left ws log strings) ≡ 0
unfolding said_from named_count
none_counted zero ws log strings e = refl
none_counted (suc n) ws log strings e = absurd (omega arith)

module _ {ws log strings : List ℕ} {count i : ℕ} (c : Counting ws log strings count i) where
  -- all have their names
  pub count_ends : count ≤ i → count ≡ named_count (said_from count ws log strings)
  count_ends h =
      omega (arith, c.few, c.whole, none_counted c.left (drop (record_size * i) ws) log strings (omega (arith, c.few)))

  module _ (h : i < count) where
    at_here : Here (drop (record_size * i) ws) log strings c.left
    at_here = here c.left (drop (record_size * i) ws) log strings (omega (arith, c.few)) c.told

    -- the record lies in the store
    pub count_inside : record_size * i + record_size ≤ length ws
    count_inside = omega (arith, at_here.inside, length-drop (record_size * i) ws)

    module _ (f : Fields) (q : f ≡ fields_at (drop (record_size * i) ws)) where
      -- its operands can be read
      pub count_readable : AllReadable f.count log strings f.start
      count_readable = subst (λ (x : Fields). AllReadable x.count log strings x.start) (sym q) at_here.readable

      module _ (t : Bool) (e : t ≡ is_named (said_by log strings f)) where
        -- by whether it has its names
        counted_by : (b : Bool) → t ≡ b → named_count (said_from c.left (drop (record_size * i) ws) log strings) ≡ (if b then suc (named_count (said_from (c.left - 1) (drop record_size (drop (record_size * i) ws)) log strings)) else 0)
        counted_by b g =
            at_here.counted
            ∙ ap (λ (x : Bool). if x then suc (named_count (said_from (c.left - 1) (drop record_size (drop (record_size * i) ws)) log strings)) else 0)
            (sym (ap (λ (x : Fields). is_named (said_by log strings x)) q) ∙ sym e ∙ g)

        -- it lacks one
        pub count_bad : not t ≡ true → i ≡ named_count (said_from count ws log strings)
        count_bad n = omega (arith, c.whole, counted_by false (not_true t n))

        -- it has its names
        pub count_on : not t ≡ false → Counting ws log strings count (i + 1)
        count_on n =
            let k : record_size * i + record_size ≡ record_size * (i + 1) = omega arith in
            let d : drop record_size (drop (record_size * i) ws) ≡ drop (record_size * (i + 1)) ws = drop-drop record_size (record_size * i) ws ∙ ap (λ (j : ℕ). drop j ws) k in
            record {
              left = c.left - 1;
              few = omega (arith, c.few);
              told = subst (λ (l : List ℕ). Told (c.left - 1) l log strings) d at_here.told;
              whole = omega (arith, c.whole, counted_by true (not_false t n), ap (λ (l : List ℕ). named_count (said_from (c.left - 1) l log strings)) d);
            }
