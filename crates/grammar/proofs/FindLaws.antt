-- The lookups, and reading on from what they find.
use mathlib.Core.Path.{◌≡◌, refl, sym, ap, ◌∙◌}
use mathlib.Core.Bool.{Bool, true, false}
use mathlib.Core.List.{List, [], ◌∷◌}
use Prim.Native.Nat.{ℕ, ◌+◌, ◌-◌, ◌≤◌, ◌<◌}
use native.Mathlib.Omega.{arith}
use borrow.Author.Tests.{eq-eqb}
use denote.Enum.Declared.{tag_of}
use types.Run.{OneOf, miss}
use lib.ListN.{length, drop}
use Rattle.spec.specs.Grammar.{Item, items, rises, slots_of, parameters_of, row_of, listed, grammar_by, grammar_of}
use Rattle.grammar.specs.declared.items.Item as Code
use Rattle.grammar.specs.declared.items.Item.TheVariants.{Row, Operand, Enumerant, Parameter, Broken}
use Rattle.grammar.specs.declared.index.Mark.{Mark}
use Rattle.grammar.specs.Items.{item_is, item_at, length_at}
use Rattle.grammar.specs.Index.{size_of, marks_of, mark_at, found, Indexed}
use Rattle.grammar.specs.Find.{past, Sure, place_found, row_found, parameters_found, slots_then, slot_bytes, parameters_then, parameter_bytes}
use Rattle.grammar.specs.contracts.items.Item as items_of
use Rattle.grammar.proofs.ItemLaws.{items_read, items_end}
use Rattle.grammar.proofs.SearchLaws.{found_there, Halving, halving_up, halving_down, halving_hit}
use Rattle.grammar.proofs.MarkLaws.{is_fine, fine_there, row_found_lem, enumerant_found, none_listed}
use Rattle.grammar.proofs.IndexLaws.{well_stands, well_rising}
use Rattle.std.specs.Prelude.{None, Option, Some}

-- THE SEARCH

module _ (g index : List ℕ) (k v : ℕ) (ix : Indexed g index) (i : ℕ) (m : Mark) (e : m ≡ mark_at (marks_of g) i) where
  -- a guess that is right
  pub look_hit : i < length (marks_of g) → m.kind ≡ k → m.value ≡ v → Some m.place ≡ found k v (marks_of g)
  look_hit h a b =
      ap (λ (m : Mark). Some m.place) e
      ∙ sym (found_there k v (marks_of g) i h (well_rising g ix.well) (rw (← e) (simp (eq-eqb m.kind k a, eq-eqb m.value v b))))

  module _ (low high : ℕ) (s : Halving k v (marks_of g) low high) (h : i < high) where
    -- the mark comes before what is sought
    pub search_up : (t : Bool) → t ≡ rises m.kind m.value k v → t ≡ true → Halving k v (marks_of g) (i + 1) high
    search_up t p q = halving_up k v (marks_of g) low high (well_rising g ix.well) s i h (rw e at (sym p ∙ q))

    -- the mark comes after it
    pub search_down : (t : Bool) → t ≡ rises k v m.kind m.value → t ≡ true → Halving k v (marks_of g) low i
    search_down t p q = halving_down k v (marks_of g) low high (well_rising g ix.well) s i h (rw e at (sym p ∙ q))

    -- the mark is it
    pub search_hit : (t u : Bool) → t ≡ rises m.kind m.value k v → u ≡ rises k v m.kind m.value → t ≡ false → u ≡ false → Some m.place ≡ found k v (marks_of g)
    search_hit t u p q a b =
        ap (λ (m : Mark). Some m.place) e
        ∙ sym (halving_hit k v (marks_of g) low high (well_rising g ix.well) s i h (rw e at (sym p ∙ a)) (rw e at (sym q ∙ b)))

-- WHAT IS FOUND

-- the row of an opcode, three bytes past its mark's place
pub row_at : (g index : List ℕ) (op : ℕ) (f : Option ℕ) → Indexed g index → f ≡ found 0 op (marks_of g)
    → (row_found g (past 3 f) ≡ row_of op (grammar_of g).rows) × (place_found (past 3 f) ≤ length g)
unfolding marks_of grammar_of grammar_by
row_at g index op f ix e = rw e (row_found_lem op (well_stands g ix.well))

-- that place is one of the grammar, or its end
pub row_near : (g index : List ℕ) (op p : ℕ) → Indexed g index → Some p ≡ found 0 op (marks_of g) → p + 3 ≤ length g
unfolding place_found
row_near g index op p ix e = (row_at g index op (Some p) ix e).1

-- the enumerant of a kind and a value, six bytes past its mark's place
pub enumerant_at : (g index : List ℕ) (k v : ℕ) (f : Option ℕ) → Indexed g index → (k ≡ 0 → ⊥) → f ≡ found k v (marks_of g)
    → (parameters_found g (past 6 f) ≡ listed k v (grammar_of g).enumerants) × (place_found (past 6 f) ≤ length g)
unfolding marks_of grammar_of grammar_by
enumerant_at g index k v f ix h e = rw e (enumerant_found k v (omega (arith, h)) (well_stands g ix.well))

-- that place is one of the grammar, or its end
pub enumerant_near : (g index : List ℕ) (k v p : ℕ) → Indexed g index → (k ≡ 0 → ⊥) → Some p ≡ found k v (marks_of g) → p + 6 ≤ length g
unfolding place_found
enumerant_near g index k v p ix h e = (enumerant_at g index k v (Some p) ix h e).1

-- no enumerant is of kind 0
pub no_enumerant : (g index : List ℕ) (k v : ℕ) → Indexed g index → k ≡ 0 → (parameters_found g None ≡ listed k v (grammar_of g).enumerants) × (place_found None ≤ length g)
unfolding grammar_of grammar_by parameters_found place_found
no_enumerant g index k v ix e = (rw e (sym (none_listed v (items g) (well_stands g ix.well).fine)), omega arith)

-- A GUESS

-- a guess that finds something finds what is there
pub guess_right : (f x : Option ℕ) (p : ℕ) → f ≡ Some p → (Sure f → f ≡ x) → Some p ≡ x
unfolding Sure
guess_right f x p e s = (rw e at s) tt

-- a guess that finds nothing says nothing
pub guess_silent : {A : Type 0} → Sure None → A
unfolding Sure
guess_silent s = absurd s

-- nor is its place past any end
pub guess_far : {n : ℕ} → place_found None ≤ n
unfolding place_found
guess_far = omega arith

-- READING ON

-- no operand follows at another item
other_slots : (x : Code.Item) → OneOf (0 ∷ 2 ∷ 3 ∷ 4 ∷ []) (tag_of items_of.the_type x) → (xs : List Item) → slots_of (item_is x ∷ xs) ≡ []
unfolding slots_of
other_slots (Row o) h xs = refl
other_slots (Operand k q) h xs = absurd (miss (0 ∷ 2 ∷ 3 ∷ 4 ∷ []) 1 tt h)
other_slots (Enumerant k v) h xs = refl
other_slots (Parameter k) h xs = refl
other_slots Broken h xs = refl

-- no parameter follows at another item
other_parameters : (x : Code.Item) → OneOf (0 ∷ 1 ∷ 2 ∷ 4 ∷ []) (tag_of items_of.the_type x) → (xs : List Item) → parameters_of (item_is x ∷ xs) ≡ []
unfolding parameters_of
other_parameters (Row o) h xs = refl
other_parameters (Operand k q) h xs = refl
other_parameters (Enumerant k v) h xs = refl
other_parameters (Parameter k) h xs = absurd (miss (0 ∷ 1 ∷ 2 ∷ 4 ∷ []) 3 tt h)
other_parameters Broken h xs = refl

module _ (g : List ℕ) (at : ℕ) where
  -- past the grammar no operand follows
  pub slot_end : length g ≤ at → (slots_of (items (drop at g)) ≡ slots_then None (slots_of (items (drop (at + 3) g)))) × (slot_bytes None ≤ length g - at)
  unfolding slots_of slots_then slot_bytes
  slot_end h = (ap slots_of (items_end g at h), omega arith)

  -- past the grammar no parameter follows
  pub parameter_end : length g ≤ at → (parameters_of (items (drop at g)) ≡ parameters_then None (parameters_of (items (drop (at + 2) g)))) × (parameter_bytes None ≤ length g - at)
  unfolding parameters_of parameters_then parameter_bytes
  parameter_end h = (ap parameters_of (items_end g at h), omega arith)

  module _ (h : at < length g) (x : Code.Item) (e : x ≡ item_at g at) where
    -- the item there, and the items after it
    some_item : items (drop at g) ≡ item_is x ∷ items (drop (at + length_at g at) g)
    some_item = items_read g at h x e (length_at g at) refl

    -- the item there, where it is fine: how many bytes it has is known
    fine_item : (y : Code.Item) → x ≡ y → is_fine (item_is y) ≡ true → (items (drop at g) ≡ item_is y ∷ items (drop (at + size_of (item_is y)) g)) × (at + size_of (item_is y) ≤ length g)
    fine_item y o fine =
        let sized = fine_there g at (item_is y) h (ap item_is (sym e ∙ o)) fine in
        (rw (o, sized.0) at some_item, sized.1)

    -- an operand
    pub slot_there : (k q : ℕ) → x ≡ Operand k q → (slots_of (items (drop at g)) ≡ slots_then (Some (k, q)) (slots_of (items (drop (at + 3) g)))) × (slot_bytes (Some (k, q)) ≤ length g - at)
    unfolding slots_of slots_then slot_bytes
    slot_there k q o = let t = fine_item (Operand k q) o refl in (ap slots_of t.0, omega (arith, t.1))

    -- another item
    pub slot_none : OneOf (0 ∷ 2 ∷ 3 ∷ 4 ∷ []) (tag_of items_of.the_type x) → (slots_of (items (drop at g)) ≡ slots_then None (slots_of (items (drop (at + 3) g)))) × (slot_bytes None ≤ length g - at)
    unfolding slots_then slot_bytes
    slot_none o = (ap slots_of some_item ∙ other_slots x o (items (drop (at + length_at g at) g)), omega arith)

    -- a parameter
    pub parameter_there : (k : ℕ) → x ≡ Parameter k → (parameters_of (items (drop at g)) ≡ parameters_then (Some k) (parameters_of (items (drop (at + 2) g)))) × (parameter_bytes (Some k) ≤ length g - at)
    unfolding parameters_of parameters_then parameter_bytes
    parameter_there k o = let t = fine_item (Parameter k) o refl in (ap parameters_of t.0, omega (arith, t.1))

    -- another item
    pub parameter_none : OneOf (0 ∷ 1 ∷ 2 ∷ 4 ∷ []) (tag_of items_of.the_type x) → (parameters_of (items (drop at g)) ≡ parameters_then None (parameters_of (items (drop (at + 2) g)))) × (parameter_bytes None ≤ length g - at)
    unfolding parameters_then parameter_bytes
    parameter_none o = (ap parameters_of some_item ∙ other_parameters x o (items (drop (at + length_at g at) g)), omega arith)
