-- Laws of the type of a result, one for each way through the code.
use Prim.Native.Nat.{ℕ, ◌*◌, ◌<◌, ◌≤◌}
use mathlib.Core.Path.{◌≡◌, refl, ap, sym, ◌∙◌}
use mathlib.Core.Bool.{Bool, true, false}
use mathlib.Core.List.{List}
use Rattle.std.specs.Prelude.{Option, None, Some}
use native.Mathlib.Omega.{arith}
use lib.Dec.{eqb}
use lib.ListN.{length}
use borrow.Author.Tests.{le-leb, lt-leb, eq-eqb, ne_eqb}
use Rattle.std.specs.Prelude.{if◌then◌else◌}
use Rattle.spec.specs.Records.{Entry, entry}
use Rattle.spec.specs.Types.{is_type, entry_of, define, inherit, track_value}
use Rattle.tracker.specs.declared.Scalar.{Scalar}
use Rattle.tracker.specs.Entries.{entries_of, stored, type_at, resolved_by, known_of}
use Rattle.tracker.specs.declared.Told.{Told}
use Rattle.tracker.specs.Track.{literal_of, int_of, float_of, type_of, track_of, told_with, told_of, defined}
use Rattle.tracker.proofs.Laws.{holds, length_entries, stored_own, Sits, Misses, entry_found, entry_missed}

-- AN INTEGER TYPE

module _ (count : ℕ) (a b : Option ℕ) where
  -- fewer than two operands
  pub int_few : count < 2 → (i : ℕ) (es : List Entry) → defined i None es ≡ int_of i count a b es
  unfolding defined int_of
  int_few h i es = simp (lt-leb 2 count h)

  module _ (h : 2 ≤ count) where
    -- "an operand record that is no LiteralInt32 sets no width"
    pub int_no_width : None ≡ a → (i : ℕ) (es : List Entry) → defined i None es ≡ int_of i count a b es
    unfolding defined int_of
    int_no_width e i es = simp (le-leb 2 count h, sym e)

    module _ (w : ℕ) (e : Some w ≡ a) where
      -- nor does a sign that is none
      pub int_no_sign : None ≡ b → (i : ℕ) (es : List Entry) → defined i None es ≡ int_of i count a b es
      unfolding defined int_of
      int_no_sign f i es = simp (le-leb 2 count h, sym e, sym f)

      module _ (sign : ℕ) (f : Some sign ≡ b) where
        -- a width and a sign
        int_defined : (i : ℕ) (es : List Entry) → defined i (Some (record { width = w; sort = (if eqb sign 1 then 2 else 1) })) es ≡ int_of i count a b es
        unfolding defined int_of
        int_defined i es = simp (le-leb 2 count h, sym e, sym f)

        -- sign 1: signed
        pub int_signed : sign ≡ 1 → (i : ℕ) (es : List Entry) → defined i (Some (record { width = w; sort = 2 })) es ≡ int_of i count a b es
        int_signed g i es = simp (eq-eqb sign 1 g) at (int_defined i es)

        -- any other sign: unsigned
        pub int_unsigned : (sign ≡ 1 → ⊥) → (i : ℕ) (es : List Entry) → defined i (Some (record { width = w; sort = 1 })) es ≡ int_of i count a b es
        int_unsigned g i es = simp (ne_eqb sign 1 g) at (int_defined i es)

-- A FLOAT TYPE

module _ (count : ℕ) (a : Option ℕ) where
  -- no operand
  pub float_few : count < 1 → (i : ℕ) (es : List Entry) → defined i None es ≡ float_of i count a es
  unfolding defined float_of
  float_few h i es = simp (lt-leb 1 count h)

  module _ (h : 1 ≤ count) where
    -- "an operand record that is no LiteralInt32 sets no width"
    pub float_no_width : None ≡ a → (i : ℕ) (es : List Entry) → defined i None es ≡ float_of i count a es
    unfolding defined float_of
    float_no_width e i es = simp (le-leb 1 count h, sym e)

    -- a width
    pub float_defined : (w : ℕ) → Some w ≡ a → (i : ℕ) (es : List Entry) → defined i (Some (record { width = w; sort = 3 })) es ≡ float_of i count a es
    unfolding defined float_of
    float_defined w e i es = simp (le-leb 1 count h, sym e)

-- A TYPE

module _ (op count : ℕ) (a b : Option ℕ) where
  -- 21 is OpTypeInt
  pub type_int : (r : Option Scalar) → op ≡ 21 → ((i : ℕ) (es : List Entry) → defined i r es ≡ int_of i count a b es) → (i : ℕ) (es : List Entry)
      → defined i r es ≡ type_of op i count a b es
  unfolding type_of
  type_int r e f i es = simp (eq-eqb op 21 e) (f i es)

  -- 22 is OpTypeFloat
  pub type_float : (r : Option Scalar) → op ≡ 22 → ((i : ℕ) (es : List Entry) → defined i r es ≡ float_of i count a es) → (i : ℕ) (es : List Entry)
      → defined i r es ≡ type_of op i count a b es
  unfolding type_of
  type_float r e f i es = simp (ne_eqb op 21 (λ h. omega arith), eq-eqb op 22 e) (f i es)

  -- any other is not tracked
  pub type_other : (op ≡ 21 → ⊥) → (op ≡ 22 → ⊥) → (i : ℕ) (es : List Entry) → defined i None es ≡ type_of op i count a b es
  unfolding defined type_of
  type_other e f i es = simp (ne_eqb op 21 e, ne_eqb op 22 f)

-- WHAT IS KNOWN OF AN ID

-- no id: nothing
pub known_none : (x : Option ℕ) → x ≡ None → (es : List Entry) → None ≡ known_of x es
unfolding known_of resolved_by
known_none x e es = rw e

module _ (x : Option ℕ) (i : ℕ) (e : x ≡ Some i) {n : ℕ} {l : List ℕ} where
  -- an id that is found: what its entry says
  pub known_found : {k : ℕ} → Sits i n k l → (r : Scalar) → r ≡ type_at l k → Some r ≡ known_of x (entries_of n l)
  unfolding known_of
  known_found m r q = rw e (ap Some q ∙ entry_found m)

  -- one that is not: nothing
  pub known_missed : Misses i n l → None ≡ known_of x (entries_of n l)
  unfolding known_of
  known_missed m = rw e (entry_missed m)

-- A RESULT

-- the type of what is known of an id, where it is there, is what a value inherits
value_known : (t : Option ℕ) (es : List Entry) (i : ℕ) → defined i (known_of t es) es ≡ track_value i t es
unfolding defined known_of resolved_by
value_known None es i = refl
value_known (Some t) es i = by (entry_of t es)
  where
    by : (x : Option Entry) → defined i (resolved_by x) es ≡ inherit i x es
    by None = refl
    by (Some (entry id w s)) = refl

module _ (t : Told) where
  module _ (y : Bool) (p : y ≡ is_type t.opcode) where
    -- a result that is a type
    pub result_type_lem : y ≡ true → (r known : Option Scalar)
        → ((i : ℕ) (es : List Entry) → defined i r es ≡ type_of t.opcode i t.operands (literal_of t.first) (literal_of t.second) es)
        → (es : List Entry) → known ≡ known_of t.rtype es → (i : ℕ) → defined i r es ≡ told_with t (Some i) es
    unfolding told_with track_of
    result_type_lem q r known h es k i = simp (sym p ∙ q) (h i es)

    -- a result that is none
    pub result_value : y ≡ false → (known : Option Scalar) (es : List Entry) → known ≡ known_of t.rtype es → (i : ℕ)
        → defined i known es ≡ told_with t (Some i) es
    unfolding told_with track_of
    result_value q known es k i = rw k (simp (sym p ∙ q) (value_known t.rtype es i))

module _ (t : Told) (es : List Entry) where
  -- no result id: the entries stay
  pub result_absent : t.rid ≡ None → es ≡ told_of t es
  unfolding told_of told_with track_of
  result_absent e = rw e

  -- an id, and the type of the result
  module _ (i : ℕ) (e : t.rid ≡ Some i) (r : Option Scalar) (h : (j : ℕ) → defined j r es ≡ told_with t (Some j) es) where
    -- nothing is known: the entries stay
    pub result_unknown : r ≡ None → es ≡ told_of t es
    unfolding told_of told_with defined
    result_unknown q = rw e (ap (λ (x : Option Scalar). defined i x es) (sym q) ∙ h i)

    -- a type: the id is defined
    pub result_defined : (x : Scalar) → r ≡ Some x → define i x.width x.sort es ≡ told_of t es
    unfolding told_of told_with defined
    result_defined x q = rw e (ap (λ (x : Option Scalar). defined i x es) (sym q) ∙ h i)

-- THE ENTRIES AFTER AN INSTRUCTION

module _ (n : ℕ) (l : List ℕ) (es : List Entry) (e : entries_of n l ≡ es) where
  -- they stay: as many as before
  pub same_count : n ≡ length es
  same_count = sym (length_entries n l) ∙ ap length e

  -- and the store is as it was
  pub same_stored : 3 * n ≤ length l → l ≡ stored l es
  same_stored h = sym (stored_own (holds n l h)) ∙ ap (stored l) e
