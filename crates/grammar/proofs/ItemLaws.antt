-- A grammar's items at a place of its bytes.
use mathlib.Core.Path.{◌≡◌, refl, sym, ap, ◌∙◌}
use mathlib.Core.Bool.{Bool, true, false, not}
use mathlib.Core.List.{List, [], ◌∷◌}
use Prim.Native.Nat.{ℕ, zero, suc, ◌+◌, ◌*◌, ◌-◌, ◌≤◌, ◌<◌}
use native.Mathlib.Nat.{add-zero, add_assoc}
use native.Mathlib.Numerals.{add-one}
use native.Mathlib.Omega.{arith}
use borrow.Author.Tests.{le-leb, lt-leb, ne_eqb}
use lib.Dec.{leb, eqb, lit≤, leb-zero, leb-suc-zero, leb-suc-suc}
use lib.ListN.{length, get_or, drop, length-drop, drop_of_length-le}
use lib.Seq.{drop-cons, drop-drop, get_or-drop}
use Rattle.std.specs.Prelude.{if◌then◌else◌}
use Rattle.spec.specs.Base.{has}
use Rattle.spec.specs.Words.{four_at}
use Rattle.spec.specs.Grammar.{body_length, item_of, items_from, items}
use Rattle.spec.specs.Grammar
use Rattle.grammar.specs.declared.items.Item.{Item}
use Rattle.grammar.specs.declared.items.Item.TheVariants.{Row, Operand, Enumerant, Parameter, Broken}
use Rattle.grammar.specs.Items.{item_is, item_for, item_at, length_at}

-- THE ITEM AT A PLACE

-- to have n elements is a test on the length
pub has_leb : {A : Type 0} (n : ℕ) (l : List A) → has n l ≡ leb n (length l)
has_leb zero l = sym (leb-zero (length l))
has_leb (suc n) [] = sym (leb-suc-zero n)
has_leb (suc n) (x ∷ l) = has_leb n l ∙ sym (leb-suc-suc n (length l))

-- at most five bytes follow a byte of kind, by what their number is picked with
body_picked : (p q : Bool) → (if p then 2 else if q then 5 else 1) ≤ 5
body_picked true q = lit≤ tt
body_picked false true = lit≤ tt
body_picked false false = lit≤ tt

-- at most five bytes follow a byte of kind
pub body_most : (b : ℕ) → body_length b ≤ 5
body_most b = body_picked (leb b 2) (eqb b 3)

-- the code's item for an item says that item
pub item_back : (x : Grammar.Item) → item_is (item_for x) ≡ x
item_back (Grammar.row o) = refl
item_back (Grammar.operand k q) = refl
item_back (Grammar.enumerant k v) = refl
item_back (Grammar.parameter k) = refl
item_back Grammar.broken = refl

-- broken, whichever is picked
broken_picked : (t : Bool) → Broken ≡ item_for (if t then Grammar.broken else Grammar.broken)
broken_picked true = refl
broken_picked false = refl

module _ (g : List ℕ) (at : ℕ) where
  -- the code's item at a place says the definition's
  pub item_said : item_is (item_at g at) ≡ item_of (get_or g at 0) (drop (at + 1) g)
  unfolding item_at
  item_said = item_back (item_of (get_or g at 0) (drop (at + 1) g))

  -- another byte of kind
  pub item_unknown : (get_or g at 0 ≡ 1 → ⊥) → (get_or g at 0 ≡ 2 → ⊥) → (get_or g at 0 ≡ 3 → ⊥) → (get_or g at 0 ≡ 4 → ⊥) → Broken ≡ item_at g at
  unfolding item_at
  item_unknown a b c d =
      simp (ne_eqb (get_or g at 0) 1 a, ne_eqb (get_or g at 0) 2 b, ne_eqb (get_or g at 0) 3 c, ne_eqb (get_or g at 0) 4 d)
      (broken_picked (not (has (if leb (get_or g at 0) 2 then 2 else 1) (drop (at + 1) g))))

  -- the body is cut short
  pub item_short : (k : ℕ) → get_or g at 0 ≡ k → length g - (at + 1) < body_length k → Broken ≡ item_at g at
  unfolding item_at
  item_short k b h = simp (b, has_leb, length-drop, lt-leb (body_length k) (length g - (at + 1)) h)

  -- a byte of kind 1 and a whole body
  pub item_row : get_or g at 0 ≡ 1 → 2 ≤ length g - (at + 1) → (r : ℕ) → r ≡ get_or g (at + 1) 0 + 256 * get_or g (at + 1 + 1) 0 → Row r ≡ item_at g at
  unfolding item_at
  item_row b h r e = simp (e, b, has_leb, length-drop, le-leb 2 (length g - (at + 1)) h, get_or-drop, add-zero)

  -- a byte of kind 2 and a whole body
  pub item_operand : get_or g at 0 ≡ 2 → 2 ≤ length g - (at + 1) → Operand (get_or g (at + 1) 0) (get_or g (at + 1 + 1) 0) ≡ item_at g at
  unfolding item_at
  item_operand b h = simp (b, has_leb, length-drop, le-leb 2 (length g - (at + 1)) h, get_or-drop, add-zero)

  -- a byte of kind 3 and a whole body
  pub item_enumerant : get_or g at 0 ≡ 3 → 5 ≤ length g - (at + 1) → (v : ℕ) → v ≡ four_at (at + 1 + 1) g → Enumerant (get_or g (at + 1) 0) v ≡ item_at g at
  unfolding item_at
  item_enumerant b h v e = simp (e, b, has_leb, length-drop, le-leb 5 (length g - (at + 1)) h, get_or-drop, add-zero, add_assoc)

  -- a byte of kind 4 and a whole body
  pub item_parameter : get_or g at 0 ≡ 4 → 1 ≤ length g - (at + 1) → Parameter (get_or g (at + 1) 0) ≡ item_at g at
  unfolding item_at
  item_parameter b h = simp (b, has_leb, length-drop, le-leb 1 (length g - (at + 1)) h, get_or-drop, add-zero)

-- ITEM AFTER ITEM

-- to skip bytes is to drop them
skip : (n : ℕ) (l : List ℕ) → items_from n l ≡ items (drop n l)
unfolding items items_from
skip zero l = refl
skip (suc n) [] = refl
skip (suc n) (b ∷ l) = skip n l

-- from a place in the bytes on: the item there, and the items from where it ends
pub items_at : (g : List ℕ) (at : ℕ) → at < length g → items (drop at g) ≡ item_is (item_at g at) ∷ items (drop (at + length_at g at) g)
unfolding items items_from length_at
items_at g at h =
    let b = get_or g at 0 in
    let n : suc at + body_length b ≡ at + length_at g at = omega arith in
    ap items (drop-cons g at 0 h)
    ∙ ap (λ (xs : List Grammar.Item). item_of b (drop (suc at) g) ∷ xs)
    (skip (body_length b) (drop (suc at) g) ∙ ap items (drop-drop (body_length b) (suc at) g ∙ ap (λ (m : ℕ). drop m g) n))
    ∙ ap (λ (x : Grammar.Item). x ∷ items (drop (at + length_at g at) g))
    (ap (λ (m : ℕ). item_of b (drop m g)) (sym (add-one at)) ∙ sym (item_said g at))

-- the same, with the item and its length as they were read
pub items_read : (g : List ℕ) (at : ℕ) → at < length g → (x : Item) → x ≡ item_at g at → (n : ℕ) → n ≡ length_at g at
    → items (drop at g) ≡ item_is x ∷ items (drop (at + n) g)
items_read g at h x e n l = rw (e, l) (items_at g at h)

-- from the end on: none
pub items_end : (g : List ℕ) (at : ℕ) → length g ≤ at → items (drop at g) ≡ []
unfolding items items_from
items_end g at h = rw (drop_of_length-le g h)
