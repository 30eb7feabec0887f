-- Laws of a record's words, and of the steps of the check over fields and tags.
use Prim.Native.Nat.{ℕ, suc, min, ◌+◌, ◌*◌, ◌%◌, ◌<◌, ◌≤◌}
use mathlib.Core.Path.{◌≡◌, refl, ap, sym, subst, ◌∙◌}
use mathlib.Core.Bool.{Bool, true, false, not, ◌&&◌}
use mathlib.Core.List.{List, [], ◌∷◌}
use Rattle.std.specs.Prelude.{is_some, option_map, Option, None, Some}
use native.Mathlib.Nat.{add-zero, le_of_lt}
use native.Mathlib.Omega.{arith}
use borrow.Author.Tests.{leb-true, leb-false, le-leb, lt-leb, eq-eqb, ne_eqb}
use lib.Dec.{T, leb, eqb}
use lib.ListN.{length, take, drop, get_or, set}
use lib.Seq.{sets, get_or-drop, take_all, take-length, length-take-le}
use Rattle.spec.specs.declared.State.{State}
use Rattle.spec.specs.declared.State.TheVariants.{Outside, Function, Block}
use Rattle.spec.specs.declared.Fields.{Fields}
use Rattle.spec.specs.declared.Numbers.{Numbers}
use Rattle.std.specs.Prelude.{if◌then◌else◌}
use Rattle.spec.specs.Base.{every}
use Rattle.spec.specs.Text.{until_zero, is_utf8}
use Rattle.spec.specs.Records.{field_words, fields_at, record_words}
use Rattle.spec.specs.Layout.{layout_of}
use Rattle.spec.specs.Check.{fields_good}
use Rattle.spec.proofs.Store.{sets_append}
use Rattle.text.specs.Zero.{zero_in}
use Rattle.records.specs.Good.{numbers_at}
use Rattle.records.specs.Steps.{fields_hold, offset_after, is_string, tag_by, tag_after, is_outside, word_if, at_most}
use Rattle.spec.specs.Layout.{Cell}
use Rattle.std.specs.Prelude.{Err, Ok}

-- the words of the record at a place
pub fields_drop : (ws : List ℕ) (at : ℕ)
    → record {
      head = get_or ws at 0;
      tag = get_or ws (at + 1) 0;
      offset = get_or ws (at + 2) 0;
      rtype = get_or ws (at + 3) 0;
      rid = get_or ws (at + 4) 0;
      start = get_or ws (at + 5) 0;
      count = get_or ws (at + 6) 0;
      words = get_or ws (at + 7) 0;
    }
    ≡ fields_at (drop at ws)
unfolding fields_at
fields_drop ws at = sym (simp (get_or-drop, add-zero))

-- the numbers after them
pub numbers_drop : (ws : List ℕ) (at : ℕ) → record { function = get_or ws (at + 8) 0; block = get_or ws (at + 9) 0 } ≡ numbers_at (drop at ws)
unfolding numbers_at
numbers_drop ws at = sym (simp get_or-drop)

-- a record's words, stored one after the other
pub record_put : (l l₁ : List ℕ) (at : ℕ) (f : Fields) (n : Numbers) → l₁ ≡ sets l at (field_words f)
    → set (set l₁ (at + 8) n.function) (at + 9) n.block ≡ sets l at (record_words f n)
unfolding field_words record_words
record_put l l₁ at f n e =
    let k : at + 9 ≡ suc (at + 8) = omega arith in
    ap (λ (z : List ℕ). set (set z (at + 8) n.function) (at + 9) n.block) e
    ∙ ap (λ (i : ℕ). set (set (sets l at (field_words f)) (at + 8) n.function) i n.block) k
    ∙ sets_append (field_words f) (n.function ∷ n.block ∷ []) l at

-- OFFSETS

module _ (at : ℕ) (f : Fields) where
  -- the three tests decide
  offset_by : (t u v : Bool) → fields_hold f ≡ t → eqb f.offset at ≡ u → leb f.words 65535 ≡ v
      → (if t && u && v then Some (at + 4 * f.words) else None) ≡ offset_after at f
  unfolding offset_after fields_good fields_hold
  offset_by t u v d e g =
      ap (λ (x : Bool). if x && u && v then Some (at + 4 * f.words) else None) (sym d)
      ∙ ap (λ (x : Bool). if fields_hold f && x && v then Some (at + 4 * f.words) else None) (sym e)
      ∙ ap (λ (x : Bool). if fields_hold f && eqb f.offset at && x then Some (at + 4 * f.words) else None) (sym g)

  -- unknown presence bits, or a result field without its bit
  pub offset_fields : fields_hold f ≡ false → None ≡ offset_after at f
  offset_fields d = offset_by false (eqb f.offset at) (leb f.words 65535) d refl refl

  -- an offset that does not follow on
  pub offset_other : fields_hold f ≡ true → (f.offset ≡ at → ⊥) → None ≡ offset_after at f
  offset_other d n = offset_by true false (leb f.words 65535) d (ne_eqb f.offset at n) refl

  -- a word count over 65,535
  pub offset_long : fields_hold f ≡ true → f.offset ≡ at → 65535 < f.words → None ≡ offset_after at f
  offset_long d e h = offset_by true true false d (eq-eqb f.offset at e) (lt-leb f.words 65535 h)

  -- the offset after the record
  pub offset_next : fields_hold f ≡ true → f.offset ≡ at → f.words ≤ 65535 → Some (at + 4 * f.words) ≡ offset_after at f
  offset_next d e h = offset_by true true true d (eq-eqb f.offset at e) (le-leb f.words 65535 h)

-- TAGS

module _ (s : State) (f : Fields) (cell : Cell) (p : cell ≡ layout_of (f.head % 65536) s) where
  -- a cell that refuses
  pub tag_refused : (n : ℕ) → cell ≡ Err n → None ≡ tag_after s f
  unfolding tag_after tag_by
  tag_refused n q = ap (tag_by f.tag) (sym q ∙ p)

  -- another tag than the cell's
  pub tag_other : (t : ℕ) (x : State) → cell ≡ Ok (t, x) → (f.tag ≡ t → ⊥) → None ≡ tag_after s f
  unfolding tag_after tag_by
  tag_other t x q n =
      ap (λ (b : Bool). if b then Some x else None) (sym (ne_eqb f.tag t n)) ∙ ap (tag_by f.tag) (sym q ∙ p)

  -- the cell's tag
  pub tag_right : (t : ℕ) (x : State) → cell ≡ Ok (t, x) → f.tag ≡ t → Some x ≡ tag_after s f
  unfolding tag_after tag_by
  tag_right t x q e =
      ap (λ (b : Bool). if b then Some x else None) (sym (eq-eqb f.tag t e)) ∙ ap (tag_by f.tag) (sym q ∙ p)

-- a state of a function is not outside functions
pub not_outside : (s : State) → (s ≡ Outside → ⊥) → false ≡ is_outside s
unfolding is_outside
not_outside Outside n = absurd (n refl)
not_outside Function n = refl
not_outside Block n = refl

-- STRINGS

-- is there none
unfoldable is_none : Option (List ℕ) → Bool
is_none None = true
is_none (Some bs) = false

-- a byte before others, by whether it is zero and what string they hold
free_cons : (b : ℕ) (s : List ℕ) (z : Bool) (o : Option (List ℕ)) → eqb b 0 ≡ z → until_zero s ≡ o → every (λ x. not (eqb x 0)) s ≡ is_none o
    → every (λ x. not (eqb x 0)) (b ∷ s) ≡ is_none (until_zero (b ∷ s))
unfolding until_zero is_none
free_cons b s true o e f h = simp e
free_cons b s false None e f h = simp (e, f, h)
free_cons b s false (Some bs) e f h = simp (e, f, h)

-- no byte is zero where no string ends
zero_free : (s : List ℕ) → every (λ x. not (eqb x 0)) s ≡ is_none (until_zero s)
unfolding until_zero is_none
zero_free [] = refl
zero_free (b ∷ s) = free_cons b s (eqb b 0) (until_zero s) refl refl (zero_free s)

-- the answer of the search decides
free_by : (o : Option (List ℕ)) (n : Bool) → is_some (option_map length o) ≡ not n → is_none o ≡ n
unfolding is_none
free_by None true e = refl
free_by None false e = absurd (subst T (sym e) tt)
free_by (Some bs) true e = absurd (subst T e tt)
free_by (Some bs) false e = refl

module _ (s : List ℕ) (x : Option ℕ) (e : x ≡ zero_in s) (n : Bool) (f : is_some x ≡ not n) where
  zeroless : every (λ x. not (eqb x 0)) s ≡ n
  unfolding zero_in
  zeroless = zero_free s ∙ free_by (until_zero s) n (ap is_some (sym e) ∙ f)

  -- a zero byte
  pub string_zero : n ≡ false → n ≡ is_string s
  unfolding is_string
  string_zero q = q ∙ ap (λ (t : Bool). t && is_utf8 s) (sym (zeroless ∙ q))

  -- none
  pub string_utf8 : n ≡ true → (t : Bool) → t ≡ is_utf8 s → t ≡ is_string s
  unfolding is_string
  string_utf8 q t g = g ∙ ap (λ (t : Bool). t && is_utf8 s) (sym (zeroless ∙ q))

-- NUMBERS

-- one word at most
pub word_few : (t : Bool) → word_if t ≤ 1
unfolding word_if
word_few true = omega arith
word_few false = omega arith

-- the lower of two numbers, by whether it is the first
lower_by : (a b : ℕ) (t : Bool) → leb a b ≡ t → min a b ≡ (if t then a else b)
lower_by a b true e = omega (arith, leb-true a b e)
lower_by a b false e = omega (arith, leb-false a b e)

-- it is that of the definition
pub min_is : (a b : ℕ) → min a b ≡ at_most a b
unfolding at_most
min_is a b = lower_by a b (leb a b) refl

-- by whether the front is shorter
most_by : (n : ℕ) (l : List ℕ) (t : Bool) → leb n (length l) ≡ t → take (if t then n else length l) l ≡ take n l
most_by n l true e = refl
most_by n l false e = take-length l ∙ sym (take_all n l (le_of_lt (leb-false n (length l) e)))

-- a front that is no longer than the list
pub take_most : (n : ℕ) (l : List ℕ) → take (at_most n (length l)) l ≡ take n l
unfolding at_most
take_most n l = most_by n l (leb n (length l)) refl

-- the lower of two numbers is at most the second
few_by : (n m : ℕ) (t : Bool) → leb n m ≡ t → (if t then n else m) ≤ m
few_by n m true e = leb-true n m e
few_by n m false e = omega arith

-- it is so long
pub most_length : (k n : ℕ) (l : List ℕ) → k ≡ at_most n (length l) → k ≡ length (take k l)
unfolding at_most
most_length k n l e = let h : at_most n (length l) ≤ length l = few_by n (length l) (leb n (length l)) refl in sym (length-take-le k l (omega (arith, e, h)))
