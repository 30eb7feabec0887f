-- Laws of the orders: what each index adds to what is written.
use Prim.Native.Nat.{ℕ, zero, suc, ◌+◌, ◌*◌, ◌-◌, ◌<◌, ◌≤◌}
use mathlib.Core.Path.{◌≡◌, refl, ap, sym, ◌∙◌}
use mathlib.Core.Bool.{Bool, true, false}
use mathlib.Core.List.{List, [], ◌∷◌, ◌++◌, append-nil}
use native.Mathlib.Omega.{arith}
use native.Mathlib.Numerals.{add-one}
use borrow.Author.Tests.{eq-eqb, ne_eqb, le-leb, lt-leb}
use borrow.Rule.Slice.PartMut.{mid_of, put_mid}
use lib.Dec.{leb, eqb}
use lib.ListN.{length, take, drop, take-append-drop, drop_of_length-le}
use lib.Seq.{sets, drop-drop, take-add}
use Rattle.spec.specs.declared.Fields.{Fields}
use Rattle.std.specs.Prelude.{if◌then◌else◌}
use Rattle.spec.specs.Base.{only}
use Rattle.spec.specs.Records.{Placed, instr_bytes}
use Rattle.spec.specs.Check.{placed_of}
use Rattle.spec.specs.Write.{bytes_of_all, has_tag, section_of, sections, parameters_in, functions, module_order}
use Rattle.spec.proofs.Store.{rest_back}
use Rattle.spelled.specs.Spelled.{said_by}
use Rattle.spelled.specs.Placing.{GoodStores, instrs_of, one_at, tagged, function_part, Room, Wrote}
use Rattle.spelled.proofs.Spell.{length_said}
use Rattle.spelled.proofs.Stores.{At, one_is, stores_length}
use Rattle.spelled.proofs.Place.{wrote_both}

-- ONE INSTRUCTION

module _ {ws log strings : List ℕ} {count i : ℕ} {f : Fields} (a : At ws log strings count i f) where
  -- its bytes
  pub at_bytes : instr_bytes (said_by log strings f).instr ≡ bytes_of_all (one_at (instrs_of ws log strings count) i)
  unfolding bytes_of_all
  at_bytes = sym (ap bytes_of_all (one_is a) ∙ append-nil (instr_bytes (said_by log strings f).instr))

  -- how many they are
  pub at_length : length (bytes_of_all (one_at (instrs_of ws log strings count) i)) ≡ 4 * f.words
  at_length = ap length (sym at_bytes) ∙ length_said log strings f a.sound

  -- there is room for it
  pub one_room : {out : List ℕ} {at : ℕ} → Room out at (one_at (instrs_of ws log strings count) i) → at + 4 * f.words ≤ length out
  one_room r = omega (arith, r.room, at_length)

  -- it is written
  pub one_wrote : (out ys : List ℕ) (at : ℕ) → ys ≡ sets (mid_of at (length out - at) out) 0 (instr_bytes (said_by log strings f).instr)
      → Wrote out at (one_at (instrs_of ws log strings count) i) (at + 4 * f.words) (put_mid at (length out - at) out ys)
  one_wrote out ys at e = record {
    place = ap (λ (n : ℕ). at + n) (sym at_length);
    stored = rest_back out (instr_bytes (said_by log strings f).instr) ys at e ∙ ap (sets out at) at_bytes;
  }

-- ALL

-- the instruction at an index, and those after it
all_more : (is : List Placed) (i : ℕ) → drop i is ≡ one_at is i ++ drop (i + 1) is
unfolding one_at
all_more is i = sym (take-append-drop 1 (drop i is)) ∙ ap (λ (z : List Placed). take 1 (drop i is) ++ z) (drop-drop 1 i is)

-- none after the last
pub all_end : (ws log strings : List ℕ) (count : ℕ) → GoodStores ws log strings count → (i : ℕ) → count ≤ i → drop i (instrs_of ws log strings count) ≡ []
all_end ws log strings count g i h = drop_of_length-le (instrs_of ws log strings count) {i = i} (omega (arith, stores_length ws log strings count g))

-- A TAG

-- those that pass of two lists
only_append : {A : Type 0} (f : A → Bool) (xs ys : List A) → only f (xs ++ ys) ≡ only f xs ++ only f ys
only_append f [] ys = refl
only_append f (x ∷ xs) ys = only_first (f x) x (only f xs) (only f ys) (only f (xs ++ ys)) (only_append f xs ys)
  where
    -- by whether the first passes
    only_first : {A : Type 0} (t : Bool) (x : A) (l m n : List A) → n ≡ l ++ m → (if t then x ∷ n else n) ≡ (if t then x ∷ l else l) ++ m
    only_first true x l m n e = ap (λ (z : List _). x ∷ z) e
    only_first false x l m n e = e

-- those with a tag of two lists
pub tagged_append : (t : ℕ) (is js : List Placed) → tagged t (is ++ js) ≡ tagged t is ++ tagged t js
unfolding tagged
tagged_append t is js = only_append (has_tag t) is js

-- those with a tag at an index, and those after it
pub tagged_more : (t : ℕ) (is : List Placed) (i : ℕ) → tagged t (drop i is) ≡ tagged t (one_at is i) ++ tagged t (drop (i + 1) is)
tagged_more t is i = ap (tagged t) (all_more is i) ∙ tagged_append t (one_at is i) (drop (i + 1) is)

module _ {ws log strings : List ℕ} {count i : ℕ} {f : Fields} (a : At ws log strings count i f) (t : ℕ) where
  -- the instruction has the tag or has not
  tagged_by : (b : Bool) → eqb f.tag t ≡ b → tagged t (one_at (instrs_of ws log strings count) i) ≡ (if b then one_at (instrs_of ws log strings count) i else [])
  unfolding tagged said_by placed_of
  tagged_by true e = ap (only (has_tag t)) (one_is a) ∙ rw e (sym (one_is a))
  tagged_by false e = ap (only (has_tag t)) (one_is a) ∙ rw e

  -- it has
  pub tagged_yes : f.tag ≡ t → tagged t (one_at (instrs_of ws log strings count) i) ≡ one_at (instrs_of ws log strings count) i
  tagged_yes e = tagged_by true (eq-eqb f.tag t e)

  -- it has not
  pub tagged_no : (f.tag ≡ t → ⊥) → tagged t (one_at (instrs_of ws log strings count) i) ≡ []
  tagged_no n = tagged_by false (ne_eqb f.tag t n)

  -- how many bytes it is, where it has
  pub tagged_size : length (bytes_of_all (tagged t (one_at (instrs_of ws log strings count) i))) ≡ (if eqb f.tag t then 4 * f.words else 0)
  unfolding bytes_of_all
  tagged_size = sized (eqb f.tag t) refl
    where
      -- by whether it has
      sized : (b : Bool) → eqb f.tag t ≡ b → length (bytes_of_all (tagged t (one_at (instrs_of ws log strings count) i))) ≡ (if b then 4 * f.words else 0)
      sized true e = ap (λ (l : List Placed). length (bytes_of_all l)) (tagged_by true e) ∙ at_length a
      sized false e = ap (λ (l : List Placed). length (bytes_of_all l)) (tagged_by false e)

-- those with a tag up to an index
pub tagged_up : (t : ℕ) (is : List Placed) (i : ℕ) → tagged t (take (i + 1) is) ≡ tagged t (take i is) ++ tagged t (one_at is i)
unfolding one_at
tagged_up t is i = ap (tagged t) (take-add i 1 is) ∙ tagged_append t (take i is) (take 1 (drop i is))

-- THE SECTIONS

-- so many sections from a tag on
unfoldable pub sections_from : ℕ → ℕ → List Placed → List Placed
sections_from zero t is = []
sections_from (suc n) t is = section_of t is ++ sections_from n (suc t) is

-- all of them
pub sections_all : (is : List Placed) → sections is ≡ sections_from (12 - 1) 1 is
unfolding sections sections_from
sections_all is = refl

-- the first, and those after it
pub sections_more_lem : (t : ℕ) (is : List Placed) → t < 12 → sections_from (12 - t) t is ≡ section_of t is ++ sections_from (12 - (t + 1)) (t + 1) is
unfolding sections_from
sections_more_lem t is h =
    let q : 12 - t ≡ suc (12 - (t + 1)) = omega arith in
    ap (λ (n : ℕ). sections_from n t is) q ∙ ap (λ (k : ℕ). section_of t is ++ sections_from (12 - (t + 1)) k is) (sym (add-one t))

-- none after the last
pub sections_end : (t : ℕ) (is : List Placed) → 12 ≤ t → sections_from (12 - t) t is ≡ []
unfolding sections_from
sections_end t is h =
    let q : 12 - t ≡ 0 = omega arith in
    ap (λ (n : ℕ). sections_from n t is) q

-- THE FUNCTIONS

-- no parameters of none
pub parameters_end : (is : List Placed) → is ≡ [] → parameters_in is ≡ []
unfolding parameters_in
parameters_end is e = ap parameters_in e

-- what the functions have first, and after it
part_pick : (b c : Bool) (p : Placed) (ps more : List Placed)
    → (if b then p ∷ ps ++ more else if c then p ∷ more else more) ≡ (if b then p ∷ ps else if c then p ∷ [] else []) ++ more
part_pick true c p ps more = refl
part_pick false true p ps more = refl
part_pick false false p ps more = refl

-- none of none
pub functions_end : (is : List Placed) → is ≡ [] → functions is ≡ []
unfolding functions
functions_end is e = ap functions e

-- parameters, by the tests of the first instruction
parameters_pick : (b c : Bool) (p : Placed) (more : List Placed) → b ≡ false
    → (if b then [] else if c then p ∷ more else more) ≡ (if c then p ∷ [] else []) ++ more
parameters_pick true c p more e = let z : ◌≡◌ {A = ℕ} 0 1 = cc in absurd (omega arith)
parameters_pick false true p more e = refl
parameters_pick false false p more e = refl

module _ {ws log strings : List ℕ} {count i : ℕ} {f : Fields} (a : At ws log strings count i f) where
  -- an end: no parameters
  pub parameters_none : f.tag ≡ 16 → parameters_in (drop i (instrs_of ws log strings count)) ≡ []
  unfolding parameters_in said_by placed_of
  parameters_none e = ap parameters_in a.next ∙ rw (eq-eqb f.tag 16 e)

  -- no end: a parameter or not, and those after it
  pub parameters_more : (f.tag ≡ 16 → ⊥)
      → parameters_in (drop i (instrs_of ws log strings count))
      ≡ tagged 13 (one_at (instrs_of ws log strings count) i) ++ parameters_in (drop (i + 1) (instrs_of ws log strings count))
  unfolding parameters_in tagged said_by placed_of
  parameters_more n =
      ap parameters_in a.next
      ∙ parameters_pick (eqb f.tag 16) (eqb f.tag 13) (said_by log strings f) (parameters_in (drop (i + 1) (instrs_of ws log strings count))) (ne_eqb f.tag 16 n)
      ∙ ap (λ (z : List Placed). tagged 13 z ++ parameters_in (drop (i + 1) (instrs_of ws log strings count))) (sym (one_is a))

  -- what the functions have at an index, and after it
  pub functions_more : functions (drop i (instrs_of ws log strings count))
      ≡ function_part (drop i (instrs_of ws log strings count)) ++ functions (drop (i + 1) (instrs_of ws log strings count))
  unfolding functions function_part
  functions_more =
      ap functions a.next
      ∙ part_pick (has_tag 12 (said_by log strings f)) (leb 14 (said_by log strings f).tag) (said_by log strings f) (parameters_in (drop (i + 1) (instrs_of ws log strings count))) (functions (drop (i + 1) (instrs_of ws log strings count)))
      ∙ ap (λ (z : List Placed). function_part z ++ functions (drop (i + 1) (instrs_of ws log strings count))) (sym a.next)

  -- a definition
  pub part_definition : f.tag ≡ 12 → function_part (drop i (instrs_of ws log strings count))
      ≡ one_at (instrs_of ws log strings count) i ++ parameters_in (drop (i + 1) (instrs_of ws log strings count))
  unfolding function_part said_by placed_of
  part_definition e =
      ap function_part a.next ∙ simp (eq-eqb f.tag 12 e)
      (ap (λ (z : List Placed). z ++ parameters_in (drop (i + 1) (instrs_of ws log strings count))) (sym (one_is a)))

  -- what comes as it is
  pub part_one : (f.tag ≡ 12 → ⊥) → 14 ≤ f.tag → function_part (drop i (instrs_of ws log strings count)) ≡ one_at (instrs_of ws log strings count) i
  unfolding function_part said_by placed_of
  part_one n h = ap function_part a.next ∙ simp (ne_eqb f.tag 12 n, le-leb 14 f.tag h) (sym (one_is a))

  -- nothing
  pub part_none : (f.tag ≡ 12 → ⊥) → f.tag < 14 → function_part (drop i (instrs_of ws log strings count)) ≡ []
  unfolding function_part said_by placed_of
  part_none n h = ap function_part a.next ∙ simp (ne_eqb f.tag 12 n, lt-leb 14 f.tag h)

-- THE ORDER

-- sections and functions
pub module_is : (is : List Placed) → module_order is ≡ sections is ++ functions is
unfolding module_order
module_is is = refl

-- there is room for both
pub module_room : (is : List Placed) (out : List ℕ) → 20 + length (bytes_of_all (module_order is)) ≤ length out → Room out 20 (sections is ++ functions is)
module_room is out h = record { room = omega (arith, h, ap (λ (l : List Placed). length (bytes_of_all l)) (module_is is)) }

-- one after the other
pub module_put : (is : List Placed) (out out' out'' : List ℕ) (r r' : ℕ) → Wrote out 20 (sections is) r out' → Wrote out' r (functions is) r' out''
    → out'' ≡ sets out 20 (bytes_of_all (module_order is))
module_put is out out' out'' r r' w v =
    (wrote_both (sections is) (functions is) w v).stored ∙ ap (λ (l : List Placed). sets out 20 (bytes_of_all l)) (sym (module_is is))
