-- The pass that checks a grammar and fills its index: each step of it, and its end.
use mathlib.Core.Path.{◌≡◌, refl, sym, ap, ◌∙◌}
use mathlib.Core.Bool.{Bool, true, false, ◌&&◌, ◌||◌, and-true, and-false, and_assoc, false≢true}
use mathlib.Core.List.{List, [], ◌∷◌, ◌++◌, append_assoc, append-nil}
use Prim.Native.Nat.{ℕ, ◌+◌, ◌≤◌, ◌<◌}
use native.Mathlib.Omega.{arith}
use borrow.Author.Tests.{le-leb, lt-leb, le-ltb, ne_eqb}
use denote.Enum.Declared.{tag_of}
use types.Run.{OneOf, miss}
use lib.Dec.{leb, ltb, eqb}
use lib.ListN.{length, get_or, drop, set, replicate, length-set, length-drop}
use lib.Seq.{get_or-set_same, length-take-le}
use Rattle.std.specs.Prelude.{if◌then◌else◌}
use Rattle.spec.specs.Base.{has, is_in}
use Rattle.spec.specs.Kinds.{is_enum}
use Rattle.spec.specs.Grammar.{Item, row, operand, enumerant, parameter, broken, Slot, slot, items, start, in_row, in_enumerant, operand_rule, row_end, enumerant_rule, parameter_rule, rises, rule, next, rules_from, Enumerant, parameters_of, enumerants_of, well_formed_items, well_formed}
use Rattle.spec.proofs.Choice.{left, right}
use Rattle.grammar.specs.declared.items.Item as Code
use Rattle.grammar.specs.declared.items.Item.TheVariants as of
use Rattle.grammar.specs.declared.index.Mark.{Mark}
use Rattle.rules.specs.declared.rules.Passed.{Passed}
use Rattle.grammar.specs.Items.{item_is, item_at, length_at}
use Rattle.rules.specs.Rules.{count_of, lead_of, passed_of, follows, is_apart}
use Rattle.grammar.specs.Index.{mark, size_of, marks_from, marks_of, places_of, places_in, Indexed}
use Rattle.formed.specs.Check.{opens, Along, ends_where, Operands, NotedBy, is_owner, Parameters, Checking, Entered}
use Rattle.grammar.specs.contracts.items.Item as items_of
use Rattle.grammar.proofs.ItemLaws.{items_read, items_end}
use Rattle.grammar.proofs.SearchLaws.{kind_rises}
use Rattle.grammar.proofs.MarkLaws.{is_fine, enum_least, fine_there}
use Rattle.grammar.proofs.IndexLaws.{guess_put, places_length}
use Rattle.formed.proofs.FlatLaws.{in_both, note, noting_start, noting_row, noting_enumerant, noting_end, noted_flat}
use Rattle.std.specs.Prelude.{None, Option, Some}

-- WHERE A ROW OR AN ENUMERANT MAY OPEN

-- at the start
pub opens_start : (j u : ℕ) (xs : List Item) → rules_from start xs ≡ opens true j u xs
unfolding rules_from rule next opens follows
opens_start j u [] = refl
opens_start j u (row o ∷ xs) = refl
opens_start j u (operand k q ∷ xs) = refl
opens_start j u (enumerant k v ∷ xs) = refl
opens_start j u (parameter k ∷ xs) = refl
opens_start j u (broken ∷ xs) = refl

-- do items begin with another than an operand
unfoldable pub past_slots : List Item → Bool
past_slots [] = true
past_slots (row o ∷ xs) = true
past_slots (operand k q ∷ xs) = false
past_slots (enumerant k v ∷ xs) = true
past_slots (parameter k ∷ xs) = true
past_slots (broken ∷ xs) = true

-- an enumerant after a row: the test on the row's end, the enumerant's rule and the rules after it, each once
after_row : (a t b r : Bool) → (b ≡ true → t ≡ true) → (a && b) && r ≡ a && ((t && b) && r)
after_row a t true r h = rw (h refl) (ap (λ (x : Bool). x && r) (and-true a))
after_row a t false r h = rw (and-false a, and-false t, and-false a)

-- after a row
pub opens_row : (op : ℕ) (before : List Slot) (xs : List Item) → past_slots xs ≡ true → rules_from (in_row op before) xs ≡ row_end op before && opens false 0 op xs
unfolding rules_from rule next opens follows past_slots
opens_row op before [] e = sym (and-true (row_end op before))
opens_row op before (row o ∷ xs) e = and_assoc (row_end op before) (ltb op o) (rules_from (in_row o []) xs)
opens_row op before (operand k q ∷ xs) e = absurd (false≢true e)
opens_row op before (enumerant k v ∷ xs) e =
    after_row (row_end op before) (rises 0 op k v) (enumerant_rule k v) (rules_from (in_enumerant k v) xs)
    (λ r. kind_rises 0 op k v (enum_least k (left (is_enum k) _ r)))
opens_row op before (parameter k ∷ xs) e = sym (and-false (row_end op before))
opens_row op before (broken ∷ xs) e = sym (and-false (row_end op before))

-- do items begin with another than a parameter
unfoldable pub past_parameters : List Item → Bool
past_parameters [] = true
past_parameters (row o ∷ xs) = true
past_parameters (operand k q ∷ xs) = true
past_parameters (enumerant k v ∷ xs) = true
past_parameters (parameter k ∷ xs) = false
past_parameters (broken ∷ xs) = true

-- after an enumerant
pub opens_enumerant : (j u : ℕ) → 1 ≤ j → (xs : List Item) → past_parameters xs ≡ true → rules_from (in_enumerant j u) xs ≡ opens false j u xs
unfolding rules_from rule next opens follows past_parameters
opens_enumerant j u h [] e = refl
opens_enumerant j u h (row o ∷ xs) e = simp (le-ltb j 0 (omega arith), ne_eqb j 0 (λ (z : j ≡ 0). omega arith))
opens_enumerant j u h (operand k q ∷ xs) e = refl
opens_enumerant j u h (enumerant k v ∷ xs) e = refl
opens_enumerant j u h (parameter k ∷ xs) e = absurd (false≢true e)
opens_enumerant j u h (broken ∷ xs) e = refl

-- they have no parameters more
past_none : (xs : List Item) → past_parameters xs ≡ true → parameters_of xs ≡ []
unfolding past_parameters parameters_of
past_none [] e = refl
past_none (row o ∷ xs) e = refl
past_none (operand k q ∷ xs) e = refl
past_none (enumerant k v ∷ xs) e = refl
past_none (parameter k ∷ xs) e = absurd (false≢true e)
past_none (broken ∷ xs) e = refl

-- another item than an operand
other_slot : (x : Code.Item) (xs : List Item) → OneOf (0 ∷ 2 ∷ 3 ∷ 4 ∷ []) (tag_of items_of.the_type x) → past_slots (item_is x ∷ xs) ≡ true
unfolding past_slots
other_slot (of.Row o) xs h = refl
other_slot (of.Operand k q) xs h = absurd (miss (0 ∷ 2 ∷ 3 ∷ 4 ∷ []) 1 tt h)
other_slot (of.Enumerant k v) xs h = refl
other_slot (of.Parameter k) xs h = refl
other_slot of.Broken xs h = refl

-- another item than a parameter
other_parameter : (x : Code.Item) (xs : List Item) → OneOf (0 ∷ 1 ∷ 2 ∷ 4 ∷ []) (tag_of items_of.the_type x) → past_parameters (item_is x ∷ xs) ≡ true
unfolding past_parameters
other_parameter (of.Row o) xs h = refl
other_parameter (of.Operand k q) xs h = refl
other_parameter (of.Enumerant k v) xs h = refl
other_parameter (of.Parameter k) xs h = absurd (miss (0 ∷ 1 ∷ 2 ∷ 4 ∷ []) 3 tt h)
other_parameter of.Broken xs h = refl

module _ (g : List ℕ) (at : ℕ) where
  -- the operands end at another item,
  pub past_slots_lem : at < length g → (x : Code.Item) → x ≡ item_at g at → OneOf (0 ∷ 2 ∷ 3 ∷ 4 ∷ []) (tag_of items_of.the_type x) → past_slots (items (drop at g)) ≡ true
  past_slots_lem h x e o = rw (items_read g at h x e (length_at g at) refl) (other_slot x (items (drop (at + length_at g at) g)) o)

  -- or at the end
  pub past_slots_end : length g ≤ at → past_slots (items (drop at g)) ≡ true
  unfolding past_slots
  past_slots_end h = rw (items_end g at h)

  -- and so do the parameters
  pub past_parameters_lem : at < length g → (x : Code.Item) → x ≡ item_at g at → OneOf (0 ∷ 1 ∷ 2 ∷ 4 ∷ []) (tag_of items_of.the_type x) → past_parameters (items (drop at g)) ≡ true
  past_parameters_lem h x e o = rw (items_read g at h x e (length_at g at) refl) (other_parameter x (items (drop (at + length_at g at) g)) o)

  -- at the end of the grammar
  pub past_parameters_end : length g ≤ at → past_parameters (items (drop at g)) ≡ true
  unfolding past_parameters
  past_parameters_end h = rw (items_end g at h)

-- ITEM BY ITEM

-- an item at a place, whole, and those after it
pub record There (g : List ℕ) (at : ℕ) (x : Item) : Type 0 where
  pub here : items (drop at g) ≡ x ∷ items (drop (at + size_of x) g)
  pub room : at + size_of x ≤ length g

-- a fine item that was read
pub there : (g : List ℕ) (at : ℕ) (x : Code.Item) → at < length g → x ≡ item_at g at → is_fine (item_is x) ≡ true → There g at (item_is x)
there g at x h e f =
    let s = fine_there g at (item_is x) h (ap item_is (sym e)) f in
    record { here = items_read g at h x e (size_of (item_is x)) (sym s.0); room = s.1 }

-- nothing is passed
along_start : (g : List ℕ) (from : ℕ) → from ≤ length g → Along g from from
along_start g from h = record { onward = omega arith; inside = h; marks = refl; enumerants = refl }

-- an item more is passed that has no mark and is no enumerant
along_on : {g : List ℕ} {from at : ℕ} (x : Item) → Along g from at → There g at x
    → marks_from at (x ∷ items (drop (at + size_of x) g)) ≡ marks_from (at + size_of x) (items (drop (at + size_of x) g))
    → enumerants_of (x ∷ items (drop (at + size_of x) g)) ≡ enumerants_of (items (drop (at + size_of x) g))
    → Along g from (at + size_of x)
along_on {g} {from} {at} x a t m e = record {
  onward = omega (arith, a.onward);
  inside = t.room;
  marks = a.marks ∙ ap (marks_from at) t.here ∙ m;
  enumerants = a.enumerants ∙ ap enumerants_of t.here ∙ e;
}

-- THE OPERANDS OF A ROW

-- a place where a test holds
pub ends_at : (t : Bool) (at : ℕ) → t ≡ true → Some at ≡ ends_where t at
unfolding ends_where
ends_at t at e = rw e

-- nothing where it fails
pub ends_nowhere : (t : Bool) (at : ℕ) → t ≡ false → None ≡ ends_where t at
unfolding ends_where
ends_nowhere t at e = rw e

-- in the loop: what is kept of the operands so far, and the rules from here on decide
pub record Rowing (g : List ℕ) (op from : ℕ) (p : Passed) (at : ℕ) : Type 0 where
  pub along : Along g from at
  pub before : List Slot
  pub stands : p ≡ passed_of before
  pub rules : rules_from (in_row op []) (items (drop from g)) ≡ rules_from (in_row op before) (items (drop at g))

-- before the first operand
pub row_start : (g : List ℕ) (op from : ℕ) → from ≤ length g → Rowing g op from (record { count = 0; typed = false; lead = 0 }) from
unfolding passed_of count_of lead_of
row_start g op from h = record { along = along_start g from h; before = []; stands = refl; rules = refl }

module _ {g : List ℕ} {op from : ℕ} {p : Passed} {at : ℕ} (r : Rowing g op from p at) where
  module _ (h : at < length g) (k q : ℕ) (x : Code.Item) (read : x ≡ item_at g at) (is : x ≡ of.Operand k q) (t : Bool)
      (asked : (before : List Slot) → p ≡ passed_of before → t ≡ operand_rule op before k q) where
    -- the operand here, and the items after it
    row_there : There g at (operand k q)
    row_there = there g at (of.Operand k q) h (sym is ∙ read) refl

    -- its rule, and the rules after it
    row_item : rules_from (in_row op []) (items (drop from g)) ≡ t && rules_from (in_row op (r.before ++ (slot k q ∷ []))) (items (drop (at + 3) g))
    unfolding rules_from rule next
    row_item = r.rules ∙ ap (rules_from (in_row op r.before)) row_there.here ∙ rw (← asked r.before r.stands)

    -- it does not hold
    pub row_stop : t ≡ false → Operands g op from None
    unfolding Operands
    row_stop e = row_item ∙ rw e

    -- it holds: on to the next item
    pub row_turn : t ≡ true → (p' : Passed) → ((before : List Slot) → p ≡ passed_of before → p' ≡ passed_of (before ++ (slot k q ∷ []))) → Rowing g op from p' (at + 3)
    unfolding marks_from enumerants_of
    row_turn e p' f = record {
      along = along_on (operand k q) r.along row_there refl refl;
      before = r.before ++ (slot k q ∷ []);
      stands = f r.before r.stands;
      rules = row_item ∙ rw e;
    }

  -- there is no operand more
  pub row_over : past_slots (items (drop at g)) ≡ true → (e : Option ℕ)
      → ((before : List Slot) → p ≡ passed_of before → e ≡ ends_where (row_end op before) at) → Operands g op from e
  unfolding ends_where Operands
  row_over past e f = rw (f r.before r.stands) (by (row_end op r.before) (r.rules ∙ opens_row op r.before (items (drop at g)) past))
    where
      by : (t : Bool) → rules_from (in_row op []) (items (drop from g)) ≡ t && opens false 0 op (items (drop at g)) → Operands g op from (if t then Some at else None)
      by true s = (r.along, s)
      by false s = s

-- THE PARAMETERS OF AN ENUMERANT

-- in the loop: the kinds of the parameters so far are noted, and the rules from here on decide
pub record Owning (g : List ℕ) (j u from : ℕ) (owners used owners' used' : List Bool) (at : ℕ) : Type 0 where
  pub along : Along g from at
  pub done : List ℕ
  pub parameters : parameters_of (items (drop from g)) ≡ done ++ parameters_of (items (drop at g))
  pub rules : rules_from (in_enumerant j u) (items (drop from g)) ≡ rules_from (in_enumerant j u) (items (drop at g))
  pub owned : NotedBy (is_owner j done) owners owners'
  pub taken : NotedBy (λ k. is_in k done) used used'

-- before the first parameter
pub own_start : (g : List ℕ) (j u from : ℕ) (owners used : List Bool) → from ≤ length g → Owning g j u from owners used owners used from
unfolding is_owner
own_start g j u from owners used h = record {
  along = along_start g from h;
  done = [];
  parameters = refl;
  rules = refl;
  owned = record { size = refl; noted = λ k. rw (and-false (eqb k j)) };
  taken = record { size = refl; noted = λ k. refl };
}

-- one parameter at least
one_least : (ps : List ℕ) (k : ℕ) → has 1 (ps ++ (k ∷ [])) ≡ true
one_least [] k = refl
one_least (p ∷ ps) k = refl

-- an owner, noted again
own_again : (s h r : Bool) → s || ((s && h) || r) ≡ (s && true) || r
own_again true h r = refl
own_again false h r = refl

-- a number that was not the last is in a list, or is the last
in_last : (a b r : Bool) → a || (b || r) ≡ (b || (a || false)) || r
in_last true true r = refl
in_last true false r = refl
in_last false true r = refl
in_last false false r = refl

module _ {g : List ℕ} {j u from : ℕ} {owners used owners' used' : List Bool} {at : ℕ} (r : Owning g j u from owners used owners' used' at) where
  module _ (h : at < length g) (k : ℕ) (x : Code.Item) (read : x ≡ item_at g at) (is : x ≡ of.Parameter k) (t : Bool) (asked : t ≡ parameter_rule j u k) where
    -- the parameter here, and the items after it
    own_there : There g at (parameter k)
    own_there = there g at (of.Parameter k) h (sym is ∙ read) refl

    -- its rule, and the rules after it
    own_item : rules_from (in_enumerant j u) (items (drop from g)) ≡ t && rules_from (in_enumerant j u) (items (drop (at + 2) g))
    unfolding rules_from rule next
    own_item = r.rules ∙ ap (rules_from (in_enumerant j u)) own_there.here ∙ rw (← asked)

    -- it does not hold
    pub own_stop : t ≡ false → Parameters g j u from owners owners' used used' None
    unfolding Parameters
    own_stop e = own_item ∙ rw e

    -- it holds: on to the next item
    pub own_turn : t ≡ true → length owners ≡ 256 → length used ≡ 256 → j < 256 → k < 256
        → (owners'' used'' : List Bool) → owners'' ≡ set owners' j true → used'' ≡ set used' k true → Owning g j u from owners used owners'' used'' (at + 2)
    unfolding marks_from enumerants_of parameters_of is_owner
    own_turn e n m a b owners'' used'' o s =
        let owner : NotedBy (λ i. eqb i j) owners' owners'' = rw o (note owners' j (omega (arith, r.owned.size))) in
        let one : NotedBy (λ i. eqb i k) used' used'' = rw s (note used' k (omega (arith, r.taken.size))) in
        record {
          along = along_on (parameter k) r.along own_there refl refl;
          done = r.done ++ (k ∷ []);
          parameters =
              r.parameters ∙ ap (λ (xs : List Item). r.done ++ parameters_of xs) own_there.here
              ∙ sym (append_assoc r.done (k ∷ []) (parameters_of (items (drop (at + 2) g))));
          rules = own_item ∙ rw e;
          owned = record {
            size = owner.size ∙ r.owned.size;
            noted = λ i.
                owner.noted i ∙ ap (λ (b : Bool). eqb i j || b) (r.owned.noted i)
                ∙ own_again (eqb i j) (has 1 r.done) (get_or owners i false) ∙ rw (one_least r.done k);
          };
          taken = record {
            size = one.size ∙ r.taken.size;
            noted = λ i.
                one.noted i ∙ ap (λ (b : Bool). eqb i k || b) (r.taken.noted i) ∙ in_last (eqb i k) (is_in i r.done) (get_or used i false)
                ∙ rw (in_both i r.done (k ∷ []));
          };
        }

  -- there is no parameter more
  pub own_over : 1 ≤ j → past_parameters (items (drop at g)) ≡ true → Parameters g j u from owners owners' used used' (Some at)
  unfolding Parameters
  own_over h past =
      let all : parameters_of (items (drop from g)) ≡ r.done = r.parameters ∙ rw (past_none (items (drop at g)) past) (append-nil r.done) in
      (r.along, r.rules ∙ opens_enumerant j u h (items (drop at g)) past, rw all r.owned, rw all r.taken)

-- ONE ROW OR ENUMERANT MORE

-- before the first
pub check_start : (g index : List ℕ) (owners used : List Bool) → owners ≡ replicate 256 false → used ≡ replicate 256 false
    → Checking g index owners used 0 (mark 0 0 0) 0
unfolding places_in marks_of
check_start g index owners used o u = record {
  rules = opens_start 0 0 (items g);
  places = refl;
  few = omega arith;
  inside = omega arith;
  noting = rw (o, u) (noting_start g);
}

-- an item that is neither a row nor an enumerant may not stand where one may open
other_refused : (first : Bool) (j u : ℕ) (x : Code.Item) (xs : List Item) → OneOf (1 ∷ 3 ∷ 4 ∷ []) (tag_of items_of.the_type x) → opens first j u (item_is x ∷ xs) ≡ false
unfolding opens
other_refused first j u (of.Row o) xs h = absurd (miss (1 ∷ 3 ∷ 4 ∷ []) 0 tt h)
other_refused first j u (of.Operand k q) xs h = refl
other_refused first j u (of.Enumerant k v) xs h = absurd (miss (1 ∷ 3 ∷ 4 ∷ []) 2 tt h)
other_refused first j u (of.Parameter k) xs h = refl
other_refused first j u of.Broken xs h = refl

-- after one more it is not the first
later : (count : ℕ) → eqb (count + 1) 0 ≡ false
later count = ne_eqb (count + 1) 0 (λ (e : count + 1 ≡ 0). omega arith)

module _ {g index : List ℕ} {owners used : List Bool} {count : ℕ} {m : Mark} {at : ℕ} (c : Checking g index owners used count m at)
    (h : at < length g) (x : Code.Item) (read : x ≡ item_at g at) where
  -- the rules from the item here on
  rules_here : rules_from start (items g) ≡ opens (eqb count 0) m.kind m.value (item_is x ∷ items (drop (at + length_at g at) g))
  rules_here = c.rules ∙ ap (opens (eqb count 0) m.kind m.value) (items_read g at h x read (length_at g at) refl)

  -- the places with its own
  enter_places : (index' : List ℕ) (n : ℕ) → places_in (count + 1) index' ≡ places_in count index ++ (at ∷ [])
      → places_of (marks_from at (items (drop at g))) ≡ at ∷ places_of (marks_from n (items (drop n g)))
      → places_of (marks_of g) ≡ places_in (count + 1) index' ++ places_of (marks_from n (items (drop n g)))
  enter_places index' n put own =
      c.places ∙ ap (λ (ps : List ℕ). places_in count index ++ ps) own
      ∙ sym (append_assoc (places_in count index) (at ∷ []) (places_of (marks_from n (items (drop n g))))) ∙ rw (← put)

  -- neither a row nor an enumerant
  pub enter_other : OneOf (1 ∷ 3 ∷ 4 ∷ []) (tag_of items_of.the_type x) → rules_from start (items g) ≡ false
  enter_other o = rules_here ∙ other_refused (eqb count 0) m.kind m.value x (items (drop (at + length_at g at) g)) o

  module _ (o : ℕ) (is : x ≡ of.Row o) (t : Bool) (asked : t ≡ follows (eqb count 0) m.kind m.value 0 o) where
    -- a row that does not follow
    pub row_refused : t ≡ false → rules_from start (items g) ≡ false
    unfolding opens
    row_refused e = rw is at rules_here ∙ rw (← asked, e)

    -- it is whole
    row_whole : There g at (row o)
    row_whole = there g at (of.Row o) h (sym is ∙ read) refl

    -- its operands start within the grammar
    pub row_room : at + 3 ≤ length g
    row_room = row_whole.room

    module _ (e : t ≡ true) (index' : List ℕ) (put : places_in (count + 1) index' ≡ places_in count index ++ (at ∷ [])) where
      -- the rules from its operands on
      row_rules : rules_from start (items g) ≡ rules_from (in_row o []) (items (drop (at + 3) g))
      unfolding opens
      row_rules = c.rules ∙ ap (opens (eqb count 0) m.kind m.value) row_whole.here ∙ rw (← asked, e)

      -- a row is entered
      pub row_entered : (r : Option ℕ) → Operands g o (at + 3) r → Entered g index' owners used count (mark 0 o at) at r
      unfolding Operands Entered marks_from places_of enumerants_of
      row_entered (Some n) (along, rules) = (
        omega (arith, along.onward),
        record {
          rules = row_rules ∙ rules ∙ ap (λ (b : Bool). opens b 0 o (items (drop n g))) (sym (later count));
          places =
              enter_places index' n put
              (ap (λ (xs : List Item). places_of (marks_from at xs)) row_whole.here ∙ ap (λ (ms : List Mark). at ∷ places_of ms) along.marks);
          few = omega (arith, c.few, along.onward);
          inside = along.inside;
          noting = noting_row c.noting n (ap enumerants_of row_whole.here ∙ along.enumerants);
        },
      )
      row_entered None e = row_rules ∙ e

  module _ (k v : ℕ) (is : x ≡ of.Enumerant k v) (t s : Bool) (asked : t ≡ follows (eqb count 0) m.kind m.value k v) (asked' : s ≡ enumerant_rule k v) where
    -- an enumerant that does not follow, or breaks its rule
    pub enumerant_refused : t && s ≡ false → rules_from start (items g) ≡ false
    unfolding opens
    enumerant_refused e = rw is at rules_here ∙ rw (← asked, ← asked', e)

    module _ (e : t && s ≡ true) where
      -- its kind has enumerants
      enumerant_kind : is_enum k ≡ true
      enumerant_kind = left (is_enum k) _ (sym asked' ∙ right t s e)

      -- so it is not 0
      pub enumerant_least : 1 ≤ k
      enumerant_least = enum_least k enumerant_kind

      -- it is whole
      enumerant_whole : There g at (enumerant k v)
      enumerant_whole = there g at (of.Enumerant k v) h (sym is ∙ read) enumerant_kind

      -- its parameters start within the grammar
      pub enumerant_room : at + 6 ≤ length g
      enumerant_room = enumerant_whole.room

      module _ (index' : List ℕ) (put : places_in (count + 1) index' ≡ places_in count index ++ (at ∷ [])) where
        -- the rules from its parameters on
        enumerant_rules : rules_from start (items g) ≡ rules_from (in_enumerant k v) (items (drop (at + 6) g))
        unfolding opens
        enumerant_rules = c.rules ∙ ap (opens (eqb count 0) m.kind m.value) enumerant_whole.here ∙ rw (← asked, ← asked', e)

        -- an enumerant is entered
        pub enumerant_entered : (owners' used' : List Bool) (r : Option ℕ) → Parameters g k v (at + 6) owners owners' used used' r → Entered g index' owners' used' count (mark k v at) at r
        unfolding Parameters Entered marks_from places_of enumerants_of
        enumerant_entered owners' used' (Some n) (along, rules, owned, taken) = (
          omega (arith, along.onward),
          record {
            rules = enumerant_rules ∙ rules ∙ ap (λ (b : Bool). opens b k v (items (drop n g))) (sym (later count));
            places =
                enter_places index' n put
                (ap (λ (xs : List Item). places_of (marks_from at xs)) enumerant_whole.here ∙ ap (λ (ms : List Mark). at ∷ places_of ms) along.marks);
            few = omega (arith, c.few, along.onward);
            inside = along.inside;
            noting =
                let e : Enumerant = record { kind = k; value = v; parameters = parameters_of (items (drop (at + 6) g)) } in
                noting_enumerant c.noting n e
                (ap enumerants_of enumerant_whole.here ∙ ap (λ (es : List Enumerant). e ∷ es) along.enumerants) owners' used' owned taken;
          },
        )
        enumerant_entered owners' used' None e = enumerant_rules ∙ e

-- THE END

-- more bytes than a grammar may have
pub check_long : (g : List ℕ) → 65535 < length g → false ≡ well_formed g
unfolding well_formed
check_long g h = simp (lt-leb (length g) 65535 h)

-- a rule is broken
pub check_broken : (g : List ℕ) → rules_from start (items g) ≡ false → false ≡ well_formed g
unfolding well_formed well_formed_items
check_broken g e = rw e (sym (and-false (leb (length g) 65535)))

-- past the last item
module _ {g index : List ℕ} {owners used : List Bool} {count : ℕ} {m : Mark} {at : ℕ} (c : Checking g index owners used count m at)
    (h : length g ≤ at) (small : length g ≤ 65535) where
  -- the count fits
  pub check_few : count ≤ 21845
  check_few = omega (arith, c.few, c.inside)

  module _ (t : Bool) (asked : t ≡ is_apart owners used) where
    -- where no kind that has parameters is one of parameters, the grammar is well-formed
    pub check_end : t ≡ well_formed g
    unfolding well_formed well_formed_items opens
    check_end =
        let rules : rules_from start (items g) ≡ true = c.rules ∙ rw (items_end g at h) in
        rw (rules, le-leb (length g) 65535 small) (asked ∙ noted_flat (noting_end c.noting h))

    -- and the index, with the count put, is an index of it
    pub check_indexed : 23382 ≤ length index → t ≡ true → Indexed g (set index 1536 count)
    unfolding places_in places_of marks_from
    check_indexed room e =
        let ms = marks_of g in
        let all : places_of ms ≡ places_in count index = c.places ∙ rw (items_end g at h) (append-nil (places_in count index)) in
        let n : length ms ≡ count =
        sym (places_length ms) ∙ ap length all ∙ length-take-le count (drop 1537 index) (simp length-drop (omega (arith, check_few))) in
        record {
          well = sym check_end ∙ e;
          count = get_or-set_same index 1536 count 0 (omega arith) ∙ sym n;
          room = simp length-set (omega (arith, n, check_few));
          places = guess_put index (length ms) 1536 count (omega arith) ∙ ap (λ (k : ℕ). places_in k index) n ∙ sym all;
        }
