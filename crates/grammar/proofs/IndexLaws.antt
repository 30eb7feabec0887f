-- The index: what it says of a grammar, how it is filled, and the test that is computed.
use mathlib.Core.Path.{◌≡◌, refl, sym, ap, ◌∙◌}
use mathlib.Core.Bool.{true}
use mathlib.Core.List.{List, [], ◌∷◌, ◌++◌}
use Prim.Native.Nat.{ℕ, ◌+◌, ◌≤◌, ◌<◌}
use native.Mathlib.Numerals.{add-one}
use native.Mathlib.Omega.{arith}
use borrow.Author.Tests.{leb-true, eqb-true}
use denote.Enum.Declared.{tag_of}
use types.Run.{OneOf, miss}
use lib.Dec.{leb, eqb}
use lib.ListN.{length, get_or, take, drop, set, length-drop, length-map, get_or-map}
use lib.Seq.{get_or-take, get_or-drop, drop-set-lt, drop-set-add, take-suc-set, drop-drop}
use Rattle.spec.specs.Grammar.{Item, items, start, rules_from, enumerants_of, all_flat, well_formed_items, well_formed}
use Rattle.grammar.specs.declared.items.Item as Code
use Rattle.grammar.specs.declared.items.Item.TheVariants.{Row, Operand, Enumerant, Parameter, Broken}
use Rattle.grammar.specs.declared.index.Mark.{Mark}
use Rattle.grammar.specs.Items.{item_is, item_at}
use Rattle.grammar.specs.Index.{mark, mark_of, marks_from, marks_of, mark_at, places_of, places_in, begins, indexed, Indexed}
use Rattle.grammar.specs.contracts.items.Item as items_of
use Rattle.grammar.proofs.SearchLaws.{and_told, Rising}
use Rattle.grammar.proofs.MarkLaws.{rules_fine, Stands, Told, told, rising}

-- A WELL-FORMED GRAMMAR

-- what being well-formed tells
pub record Well (g : List ℕ) : Type 0 where
  pub few : length g ≤ 65535
  pub rules : rules_from start (items g) ≡ true
  pub flat : all_flat (enumerants_of (items g)) ≡ true

-- the test, taken apart
pub well_told : (g : List ℕ) → well_formed g ≡ true → Well g
unfolding well_formed well_formed_items
well_told g e =
    let t = and_told (leb (length g) 65535) (well_formed_items (items g)) e in
    let u = and_told (rules_from start (items g)) (all_flat (enumerants_of (items g))) t.1 in
    record { few = leb-true (length g) 65535 t.0; rules = u.0; flat = u.1 }

-- all its items are fine
pub well_stands : (g : List ℕ) → well_formed g ≡ true → Stands g 0 (items g)
well_stands g e = record { here = refl; fine = rules_fine start (items g) (well_told g e).rules }

-- its marks rise
pub well_rising : (g : List ℕ) → well_formed g ≡ true → Rising (marks_of g)
unfolding marks_of
well_rising g e = (rising start 0 (items g) (well_told g e).rules).1

-- each mark stands at its item
pub well_marked : (g : List ℕ) → well_formed g ≡ true → (i : ℕ) → i < length (marks_of g) → Told g (mark_at (marks_of g) i)
unfolding marks_of
well_marked g e = told (well_stands g e)

-- READING THE INDEX

module _ (g index : List ℕ) (ix : Indexed g index) (rank : ℕ) (h : rank < length (marks_of g)) where
  -- the place of a rank
  pub place_read : get_or index (1537 + rank) 0 ≡ (mark_at (marks_of g) rank).place
  unfolding places_in places_of mark_at
  place_read =
      sym (get_or-take (length (marks_of g)) (drop 1537 index) rank 0 h ∙ get_or-drop 1537 index rank 0)
      ∙ ap (λ (l : List ℕ). get_or l rank 0) ix.places
      ∙ get_or-map (λ (m : Mark). m.place) (marks_of g) rank (mark 0 0 0)

  -- it is a place of the grammar
  pub place_inside : (p : ℕ) → p ≡ get_or index (1537 + rank) 0 → p < length g
  place_inside p e = omega (arith, e, place_read, (well_marked g ix.well rank h).inside)

  -- the item there has the mark of that rank
  pub mark_read : (p : ℕ) (x : Code.Item) (r : Mark) → p ≡ get_or index (1537 + rank) 0 → x ≡ item_at g p → r ≡ mark_of (item_is x) p → r ≡ mark_at (marks_of g) rank
  mark_read p x r e i m =
      m ∙ ap (λ (x : Code.Item). mark_of (item_is x) p) i ∙ ap (λ (p : ℕ). mark_of (item_is (item_at g p)) p) (e ∙ place_read)
      ∙ (well_marked g ix.well rank h).item

-- FILLING THE INDEX

-- a guess, or the count, changes no place
pub guess_put : (index : List ℕ) (n guess v : ℕ) → guess < 1537 → places_in n (set index guess v) ≡ places_in n index
unfolding places_in
guess_put index n guess v h = rw (drop-set-lt 1537 index guess v h)

-- one place more
place_put : (index : List ℕ) (rank place : ℕ) → 1537 + rank < length index → places_in (rank + 1) (set index (1537 + rank) place) ≡ places_in rank index ++ (place ∷ [])
unfolding places_in
place_put index rank place h = rw (add-one, drop-set-add) (take-suc-set (drop 1537 index) rank place (simp length-drop (omega arith)))

-- one place more, and a guess
pub both_put : (index : List ℕ) (rank place guess : ℕ) → 1537 + rank < length index → guess < 1536
    → places_in (rank + 1) (set (set index (1537 + rank) place) guess rank) ≡ places_in rank index ++ (place ∷ [])
both_put index rank place guess h l = guess_put (set index (1537 + rank) place) (rank + 1) guess rank (omega arith) ∙ place_put index rank place h

-- the mark of an item that is neither a row nor an enumerant says nothing
pub other_mark : (x : Code.Item) (at : ℕ) → OneOf (1 ∷ 3 ∷ 4 ∷ []) (tag_of items_of.the_type x) → mark 0 0 at ≡ mark_of (item_is x) at
other_mark (Row o) at h = absurd (miss (1 ∷ 3 ∷ 4 ∷ []) 0 tt h)
other_mark (Operand k q) at h = refl
other_mark (Enumerant k v) at h = absurd (miss (1 ∷ 3 ∷ 4 ∷ []) 2 tt h)
other_mark (Parameter k) at h = refl
other_mark Broken at h = refl

-- as many places as marks
pub places_length : (ms : List Mark) → length (places_of ms) ≡ length ms
unfolding places_of
places_length ms = length-map ms (λ (m : Mark). m.place)

-- THE TEST THAT IS COMPUTED

-- the numbers that some begin with
begins_told : (xs l : List ℕ) → begins xs l ≡ true → (take (length xs) l ≡ xs) × (length xs ≤ length l)
unfolding begins
begins_told [] l e = (refl, omega arith)
begins_told (x ∷ xs) [] e = let z : ◌≡◌ {A = ℕ} 0 1 = cc in absurd (omega arith)
begins_told (x ∷ xs) (y ∷ ys) e =
    let t = and_told (eqb x y) (begins xs ys) e in
    let u = begins_told xs ys t.1 in
    (rw (eqb-true x y t.0, u.0), omega (arith, u.1))

-- the first of them, and the others
begins_cons : (x : ℕ) (xs l : List ℕ) → begins (x ∷ xs) l ≡ true → (get_or l 0 0 ≡ x) × (take (length xs) (drop 1 l) ≡ xs) × (1 + length xs ≤ length l)
unfolding begins
begins_cons x xs [] e = let z : ◌≡◌ {A = ℕ} 0 1 = cc in absurd (omega arith)
begins_cons x xs (y ∷ ys) e =
    let t = and_told (eqb x y) (begins xs ys) e in
    let u = begins_told xs ys t.1 in
    (sym (eqb-true x y t.0), u.0, omega (arith, u.1))

-- what passes the test is an index
pub indexed_told : (g index : List ℕ) → indexed g index ≡ true → Indexed g index
unfolding indexed places_in
indexed_told g index e =
    let ms = marks_of g in
    let t = and_told (well_formed g) (begins (length ms ∷ places_of ms) (drop 1536 index)) e in
    let u = begins_cons (length ms) (places_of ms) (drop 1536 index) t.1 in
    let n = places_length ms in
    record {
      well = t.0;
      count = sym (get_or-drop 1536 index 0 0) ∙ u.0;
      room = omega (arith, n, simp length-drop at u.2);
      places = rw (← n, ← drop-drop 1 1536 index) u.1;
    }

-- the test, for a grammar that is known to be well-formed and whose items are known
pub indexed_by : (g index : List ℕ) (xs : List Item) → well_formed g ≡ true → items g ≡ xs
    → begins (length (marks_from 0 xs) ∷ places_of (marks_from 0 xs)) (drop 1536 index) ≡ true → indexed g index ≡ true
unfolding indexed marks_of
indexed_by g index xs w e t = rw (w, e) t
