-- The marks of a well-formed grammar: they rise, each stands at its item, and the first of a kind and a value is what the definitions look up.
use mathlib.Core.Path.{◌≡◌, refl, sym, ap, ◌∙◌, subst}
use mathlib.Core.Bool.{Bool, true, false, not, ◌&&◌}
use mathlib.Core.List.{List, [], ◌∷◌}
use Rattle.std.specs.Prelude.{Option, None, Some}
use mathlib.Core.Logic.{⊎_elim}
use Prim.Native.Nat.{ℕ, zero, suc, ◌+◌, ◌≤◌, ◌<◌}
use native.Mathlib.Omega.{arith}
use borrow.Author.Tests.{ne_eqb, leb-true, ltb-true, eqb-true}
use lib.Dec.{leb, ltb, eqb}
use lib.ListN.{length, get_or, drop, length-drop}
use Rattle.std.specs.Prelude.{if◌then◌else◌}
use Rattle.spec.specs.Base.{has, every, within, implies}
use Rattle.spec.specs.Words.{bits_of}
use Rattle.spec.specs.Kinds.{is_enum, is_mask}
use Rattle.spec.specs.Grammar.{Item, row, operand, enumerant, parameter, broken, body_length, item_of, items, Before, start, in_row, in_enumerant, row_end, enumerant_rule, rises, rule, next, with_slot, rules_from, slots_of, parameters_of, rows_of, enumerants_of, row_of, listed}
use Rattle.grammar.specs.declared.index.Mark.{Mark}
use Rattle.grammar.specs.Items.{item_is, item_at, length_at}
use Rattle.grammar.specs.Index.{mark, size_of, mark_of, marks_from, mark_at, found}
use Rattle.grammar.specs.Find.{past, place_found, row_found, parameters_found}
use Rattle.grammar.proofs.ItemLaws.{has_leb, item_said, items_at, items_end}
use Rattle.grammar.proofs.SearchLaws.{and_told, below_or_not, kind_rises, value_rises, Above, Rising, above_on}

-- ITEMS THAT ARE FINE: none is broken, and an enumerant's kind has enumerants

-- what the rules ask of an item wherever it stands
abbrev pub is_fine : Item → Bool
is_fine (row o) = true
is_fine (operand k q) = true
is_fine (enumerant k v) = is_enum k
is_fine (parameter k) = true
is_fine broken = false

-- no test both holds and fails
pub never : {t : Bool} {A : Type 0} → t ≡ true → t ≡ false → A
never p q = let z : ◌≡◌ {A = ℕ} 0 1 = cc in absurd (omega arith)

-- an enumerant's rule asks for its kind
enumerant_fine : (a : Bool) (k v : ℕ) → a && enumerant_rule k v ≡ true → is_enum k ≡ true
enumerant_fine a k v e = (and_told (is_enum k) (implies (is_mask k) (leb (length (bits_of v)) 1)) (and_told a (enumerant_rule k v) e).1).0

-- an item that meets its rule is fine
rule_fine : (s : Before) (x : Item) → rule s x ≡ true → is_fine x ≡ true
unfolding rule
rule_fine s (row o) e = refl
rule_fine s (operand k q) e = refl
rule_fine start (enumerant k v) e = enumerant_fine true k v e
rule_fine (in_row op before) (enumerant k v) e = enumerant_fine (row_end op before) k v e
rule_fine (in_enumerant j u) (enumerant k v) e = enumerant_fine (rises j u k v) k v e
rule_fine s (parameter k) e = refl
rule_fine start broken e = e
rule_fine (in_row op before) broken e = e
rule_fine (in_enumerant j u) broken e = e

-- the rule of an item, and the rules after it
pub rules_told : (s : Before) (x : Item) (xs : List Item) → rules_from s (x ∷ xs) ≡ true → (rule s x ≡ true) × (rules_from (next s x) xs ≡ true)
unfolding rules_from
rules_told s x xs e = and_told (rule s x) (rules_from (next s x) xs) e

-- items that meet the rules are fine
pub rules_fine : (s : Before) (xs : List Item) → rules_from s xs ≡ true → every is_fine xs ≡ true
rules_fine s [] e = refl
rules_fine s (x ∷ xs) e =
    let t = rules_told s x xs e in
    rw (rule_fine s x t.0) (rules_fine (next s x) xs t.1)

-- a kind that has enumerants is not 0
pub enum_least : (k : ℕ) → is_enum k ≡ true → 1 ≤ k
enum_least k e = by (within 1 k 30) refl
  where
    by : (t : Bool) → within 1 k 30 ≡ t → 1 ≤ k
    by true p = leb-true 1 k (and_told (leb 1 k) (leb k 30) p).0
    by false p =
        let q : within 41 k 45 ≡ true = rw p at e in
        omega (arith, leb-true 41 k (and_told (leb 41 k) (leb k 45) q).0)

-- HOW MANY BYTES A FINE ITEM HAS

-- an item has the bytes that its byte of kind asks for, and they are there
abbrev Sized : ℕ → List ℕ → Type 0
Sized b l = (1 + body_length b ≡ size_of (item_of b l)) × (body_length b ≤ length l)

-- an item that is fine is not cut short
whole : (t : Bool) (x : Item) → is_fine (if not t then broken else x) ≡ true → t ≡ true
whole true x e = refl
whole false x e = e

-- a byte of kind that names no item is not fine
unknown : (t : Bool) → is_fine (if not t then broken else broken) ≡ false
unknown true = refl
unknown false = refl

-- the bytes are there
enough : (n : ℕ) (l : List ℕ) → has n l ≡ true → n ≤ length l
enough n l e = leb-true n (length l) (sym (has_leb n l) ∙ e)

-- a fine item, by its byte of kind
fine_sized : (b : ℕ) (l : List ℕ) → is_fine (item_of b l) ≡ true → Sized b l
fine_sized b l f = by (eqb b 1) (eqb b 2) (eqb b 3) (eqb b 4) refl refl refl refl
  where
    one : is_fine (item_of 1 l) ≡ true → Sized 1 l
    one f = let w = whole (has 2 l) _ f in (simp w, enough 2 l w)

    two : is_fine (item_of 2 l) ≡ true → Sized 2 l
    two f = let w = whole (has 2 l) _ f in (simp w, enough 2 l w)

    three : is_fine (item_of 3 l) ≡ true → Sized 3 l
    three f = let w = whole (has 5 l) _ f in (simp w, enough 5 l w)

    four : is_fine (item_of 4 l) ≡ true → Sized 4 l
    four f = let w = whole (has 1 l) _ f in (simp w, enough 1 l w)

    at : (n : ℕ) → eqb b n ≡ true → (is_fine (item_of n l) ≡ true → Sized n l) → Sized b l
    at n e s = subst (λ (n : ℕ). is_fine (item_of n l) ≡ true → Sized n l) (sym (eqb-true b n e)) s f

    by : (p q r s : Bool) → eqb b 1 ≡ p → eqb b 2 ≡ q → eqb b 3 ≡ r → eqb b 4 ≡ s → Sized b l
    by true q r s e₁ e₂ e₃ e₄ = at 1 e₁ one
    by false true r s e₁ e₂ e₃ e₄ = at 2 e₂ two
    by false false true s e₁ e₂ e₃ e₄ = at 3 e₃ three
    by false false false true e₁ e₂ e₃ e₄ = at 4 e₄ four
    by false false false false e₁ e₂ e₃ e₄ = never f (simp (e₁, e₂, e₃, e₄) (unknown (has (if leb b 2 then 2 else 1) l)))

-- FINE ITEMS AT THEIR PLACE

-- a fine item at a place: how many bytes it has, and that they are there
pub fine_there : (g : List ℕ) (at : ℕ) (x : Item) → at < length g → item_is (item_at g at) ≡ x → is_fine x ≡ true → (length_at g at ≡ size_of x) × (at + size_of x ≤ length g)
unfolding length_at
fine_there g at x h item fine =
    let b = get_or g at 0 in
    let said : item_of b (drop (at + 1) g) ≡ x = sym (item_said g at) ∙ item in
    let sized = fine_sized b (drop (at + 1) g) (rw said fine) in
    let size : length_at g at ≡ size_of x = sized.0 ∙ ap size_of said in
    (size, omega (arith, size, simp length-drop at sized.1))

-- items from a place of a grammar's bytes on, each fine
pub record Stands (g : List ℕ) (at : ℕ) (xs : List Item) : Type 0 where
  pub here : items (drop at g) ≡ xs
  pub fine : every is_fine xs ≡ true

-- the first item, and those after it
pub record First (g : List ℕ) (at : ℕ) (x : Item) (xs : List Item) : Type 0 where
  pub item : item_is (item_at g at) ≡ x
  pub fine : is_fine x ≡ true
  pub size : length_at g at ≡ size_of x
  pub room : at + size_of x ≤ length g
  pub more : Stands g (at + size_of x) xs

-- what the first of fine items tells
pub first : {g : List ℕ} {at : ℕ} {x : Item} {xs : List Item} → Stands g at (x ∷ xs) → First g at x xs
first {g} {at} {x} {xs} s = ⊎_elim inside outside (below_or_not at (length g))
  where
    outside : length g ≤ at → First g at x xs
    outside h = let z : ◌≡◌ {A = ℕ} 0 1 = cc (items_end g at h, s.here) in absurd (omega arith)

    inside : at < length g → First g at x xs
    inside h =
        let q = sym (items_at g at h) ∙ s.here in
        let item : item_is (item_at g at) ≡ x = cc q in
        let rest : items (drop (at + length_at g at) g) ≡ xs = cc q in
        let fine = and_told (is_fine x) (every is_fine xs) s.fine in
        let sized = fine_there g at x h item fine.0 in
        record {
          item = item;
          fine = fine.0;
          size = sized.0;
          room = sized.1;
          more = record { here = rw (← sized.0) rest; fine = fine.1 };
        }

-- EACH MARK STANDS AT ITS ITEM

-- the item at a mark's place is the mark's
pub record Told (g : List ℕ) (m : Mark) : Type 0 where
  pub inside : m.place < length g
  pub item : mark_of (item_is (item_at g m.place)) m.place ≡ m

-- the marks of fine items, of any rank
pub told : {g : List ℕ} {at : ℕ} {xs : List Item} → Stands g at xs → (i : ℕ) → i < length (marks_from at xs) → Told g (mark_at (marks_from at xs) i)
unfolding marks_from mark_at
told {xs = []} s i h = absurd (omega arith)
told {at = at} {xs = row o ∷ xs} s zero h = let f = first s in record { inside = omega (arith, f.room); item = ap (λ (x : Item). mark_of x at) f.item }
told {at = at} {xs = row o ∷ xs} s (suc i) h = told {at = at + size_of (row o)} {xs = xs} (first s).more i (omega arith)
told {at = at} {xs = operand k q ∷ xs} s i h = told {at = at + size_of (operand k q)} {xs = xs} (first s).more i h
told {at = at} {xs = enumerant k v ∷ xs} s zero h = let f = first s in record { inside = omega (arith, f.room); item = ap (λ (x : Item). mark_of x at) f.item }
told {at = at} {xs = enumerant k v ∷ xs} s (suc i) h = told {at = at + size_of (enumerant k v)} {xs = xs} (first s).more i (omega arith)
told {at = at} {xs = parameter k ∷ xs} s i h = told {at = at + size_of (parameter k)} {xs = xs} (first s).more i h
told {at = at} {xs = broken ∷ xs} s i h = told {at = at + size_of broken} {xs = xs} (first s).more i h

-- THE MARKS RISE

-- marks that come after what went before
abbrev Past : Before → List Mark → Type 0
Past start ms = Unit {0}
Past (in_row op before) ms = Above 0 op ms
Past (in_enumerant j u) ms = Above j u ms

-- none does
past_none : (s : Before) → Past s []
past_none start = tt
past_none (in_row op before) = tt
past_none (in_enumerant j u) = tt

-- a row more
past_row : (s : Before) (o at : ℕ) (ms : List Mark) → rule s (row o) ≡ true → Above 0 o ms → Past s (mark 0 o at ∷ ms)
unfolding rule
past_row start o at ms e a = tt
past_row (in_row op before) o at ms e a =
    let r = value_rises 0 op 0 o refl (ltb-true op o (and_told (row_end op before) (ltb op o) e).1) in
    (r, above_on 0 op 0 o ms r a)
past_row (in_enumerant j u) o at ms e a = never e refl

-- an operand more
past_operand : (s : Before) (k q : ℕ) (ms : List Mark) → Past (with_slot s k q) ms → Past s ms
past_operand start k q ms a = a
past_operand (in_row op before) k q ms a = a
past_operand (in_enumerant j u) k q ms a = a

-- an enumerant more
past_enumerant : (s : Before) (k v at : ℕ) (ms : List Mark) → rule s (enumerant k v) ≡ true → Above k v ms → Past s (mark k v at ∷ ms)
unfolding rule
past_enumerant start k v at ms e a = tt
past_enumerant (in_row op before) k v at ms e a =
    let r = kind_rises 0 op k v (enum_least k (enumerant_fine (row_end op before) k v e)) in
    (r, above_on 0 op k v ms r a)
past_enumerant (in_enumerant j u) k v at ms e a =
    let r = (and_told (rises j u k v) (enumerant_rule k v) e).0 in
    (r, above_on j u k v ms r a)

-- the marks of items that meet the rules
pub rising : (s : Before) (at : ℕ) (xs : List Item) → rules_from s xs ≡ true → Past s (marks_from at xs) × Rising (marks_from at xs)
unfolding marks_from next
rising s at [] e = (past_none s, tt)
rising s at (row o ∷ xs) e =
    let t = rules_told s (row o) xs e in
    let r = rising (in_row o []) (at + 3) xs t.1 in
    (past_row s o at (marks_from (at + 3) xs) t.0 r.0, r)
rising s at (operand k q ∷ xs) e =
    let r = rising (with_slot s k q) (at + 3) xs (rules_told s (operand k q) xs e).1 in
    (past_operand s k q (marks_from (at + 3) xs) r.0, r.1)
rising s at (enumerant k v ∷ xs) e =
    let t = rules_told s (enumerant k v) xs e in
    let r = rising (in_enumerant k v) (at + 6) xs t.1 in
    (past_enumerant s k v at (marks_from (at + 6) xs) t.0 r.0, r)
rising s at (parameter k ∷ xs) e = rising s (at + 2) xs (rules_told s (parameter k) xs e).1
rising s at (broken ∷ xs) e = rising s (at + 0) xs (rules_told s broken xs e).1

-- WHAT IS FOUND

-- what is found n bytes past a mark's place, by whether the mark is the first
pick_by : {A : Type 0} (g : List ℕ) (at n : ℕ) (f : Option ℕ) (look : Option ℕ → Option A) (x : A) (r : Option A) (t : Bool) → look (Some (at + n)) ≡ Some x
    → at + n ≤ length g
    → (look (past n f) ≡ r) × (place_found (past n f) ≤ length g)
    → (look (past n (if t then Some at else f)) ≡ (if t then Some x else r)) × (place_found (past n (if t then Some at else f)) ≤ length g)
unfolding place_found
pick_by g at n f look x r true e h w = (e, h)
pick_by g at n f look x r false e h w = w

-- the first mark of kind 0 and an opcode is that of the opcode's row
pub row_found_lem : {g : List ℕ} {at : ℕ} {xs : List Item} (op : ℕ) → Stands g at xs
    → (row_found g (past 3 (found 0 op (marks_from at xs))) ≡ row_of op (rows_of xs)) × (place_found (past 3 (found 0 op (marks_from at xs))) ≤ length g)
unfolding marks_from found row_of rows_of row_found place_found
row_found_lem {xs = []} op s = (refl, omega arith)
row_found_lem {g} {at} {xs = row o ∷ xs} op s =
    let f = first s in
    pick_by g at 3 (found 0 op (marks_from (at + 3) xs)) (row_found g) (slots_of xs) (row_of op (rows_of xs)) (eqb o op)
    (ap (λ (ys : List Item). Some (slots_of ys)) f.more.here) f.room (row_found_lem {at = at + size_of (row o)} {xs = xs} op f.more)
row_found_lem {at = at} {xs = operand k q ∷ xs} op s = row_found_lem {at = at + size_of (operand k q)} {xs = xs} op (first s).more
row_found_lem {at = at} {xs = enumerant k v ∷ xs} op s =
    let f = first s in
    let h = enum_least k f.fine in
    simp (ne_eqb k 0 (λ (e : k ≡ 0). omega arith)) (row_found_lem {at = at + size_of (enumerant k v)} {xs = xs} op f.more)
row_found_lem {at = at} {xs = parameter k ∷ xs} op s = row_found_lem {at = at + size_of (parameter k)} {xs = xs} op (first s).more
row_found_lem {at = at} {xs = broken ∷ xs} op s = row_found_lem {at = at + size_of broken} {xs = xs} op (first s).more

-- the first mark of a kind that is not 0 and a value is that of the enumerant
pub enumerant_found : {g : List ℕ} {at : ℕ} {xs : List Item} (k v : ℕ) → 1 ≤ k → Stands g at xs
    → (parameters_found g (past 6 (found k v (marks_from at xs))) ≡ listed k v (enumerants_of xs)) × (place_found (past 6 (found k v (marks_from at xs))) ≤ length g)
unfolding marks_from found listed enumerants_of parameters_found place_found
enumerant_found {xs = []} k v h s = (refl, omega arith)
enumerant_found {at = at} {xs = row o ∷ xs} k v h s =
    simp (ne_eqb 0 k (λ (e : 0 ≡ k). omega arith)) (enumerant_found {at = at + size_of (row o)} {xs = xs} k v h (first s).more)
enumerant_found {at = at} {xs = operand j q ∷ xs} k v h s = enumerant_found {at = at + size_of (operand j q)} {xs = xs} k v h (first s).more
enumerant_found {g} {at} {xs = enumerant j u ∷ xs} k v h s =
    let f = first s in
    pick_by g at 6 (found k v (marks_from (at + 6) xs)) (parameters_found g) (parameters_of xs) (listed k v (enumerants_of xs)) (eqb j k && eqb u v)
    (ap (λ (ys : List Item). Some (parameters_of ys)) f.more.here) f.room (enumerant_found {at = at + size_of (enumerant j u)} {xs = xs} k v h f.more)
enumerant_found {at = at} {xs = parameter j ∷ xs} k v h s = enumerant_found {at = at + size_of (parameter j)} {xs = xs} k v h (first s).more
enumerant_found {at = at} {xs = broken ∷ xs} k v h s = enumerant_found {at = at + size_of broken} {xs = xs} k v h (first s).more

-- no enumerant is of kind 0
pub none_listed : (v : ℕ) (xs : List Item) → every is_fine xs ≡ true → listed 0 v (enumerants_of xs) ≡ None
unfolding listed enumerants_of
none_listed v [] e = refl
none_listed v (row o ∷ xs) e = none_listed v xs e
none_listed v (operand k q ∷ xs) e = none_listed v xs e
none_listed v (enumerant k u ∷ xs) e =
    let t = and_told (is_enum k) (every is_fine xs) e in
    let h = enum_least k t.0 in
    simp (ne_eqb k 0 (λ (z : k ≡ 0). omega arith)) (none_listed v xs t.1)
none_listed v (parameter k ∷ xs) e = none_listed v xs e
none_listed v (broken ∷ xs) e = never e refl
