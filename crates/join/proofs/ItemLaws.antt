-- Items and their bytes: each is read from the other.
use Prim.Native.Nat.{ℕ, zero, suc, ◌+◌, ◌*◌, ◌/◌, ◌%◌, ◌≤◌, ◌<◌}
use mathlib.Core.Path.{◌≡◌, refl, sym, ap, ◌∙◌, subst}
use mathlib.Core.Bool.{Bool, true, false, not}
use mathlib.Core.List.{List, [], ◌∷◌, ◌++◌}
use native.Mathlib.Omega.{arith}
use borrow.Author.Tests.{eqb-true}
use lib.Dec.{leb, eqb}
use lib.ListN.{get_or, drop}
use Rattle.std.specs.Prelude.{if◌then◌else◌}
use Rattle.spec.specs.Base.{has, every, joined}
use Rattle.spec.specs.Words.{AllBytes, four_at, bytes_of}
use Rattle.spec.specs.Grammar.{Item, row, operand, enumerant, parameter, broken, body_length, item_of, items_from, items}
use Rattle.spec.specs.Builtin.{item_bytes}
use Rattle.spec.proofs.Choice.{left, right}
use Rattle.demands.proofs.Bytes.{four_bytes, four_word}
use Rattle.grammar.specs.Items.{length_at}
use Rattle.grammar.proofs.MarkLaws.{is_fine, never}

-- NUMBERS THAT FIT THEIR BYTES

-- an opcode in two bytes, a value in four
abbrev pub Small : Item → Type 0
Small (row o) = o < 65536
Small (operand k q) = Unit
Small (enumerant k v) = v < 4294967296
Small (parameter k) = Unit
Small broken = Unit

-- each item's
abbrev pub AllSmall : List Item → Type 0
AllSmall [] = Unit
AllSmall (x ∷ xs) = Small x × AllSmall xs

-- those of items before items
pub small_append : (xs ys : List Item) → AllSmall xs → AllSmall ys → AllSmall (xs ++ ys)
small_append [] ys a b = b
small_append (x ∷ xs) ys a b = (a.0, small_append xs ys a.1 b)

-- a byte at any place
byte_at : (l : List ℕ) (i : ℕ) → AllBytes l → get_or l i 0 < 256
byte_at [] i by = omega arith
byte_at (b ∷ l) zero by = by.0
byte_at (b ∷ l) (suc i) by = byte_at l i by.1

-- one of two items
small_if : (t : Bool) (x y : Item) → Small x → Small y → Small (if t then x else y)
small_if true x y a b = a
small_if false x y a b = b

-- the number of an item in bytes fits
item_small : (b : ℕ) (l : List ℕ) → AllBytes l → Small (item_of b l)
item_small b l by =
    small_if (not (has (body_length b) l)) broken _ tt
    (small_if (eqb b 1) (row (get_or l 0 0 + 256 * get_or l 1 0)) _ (omega (arith, byte_at l 0 by, byte_at l 1 by))
    (small_if (eqb b 2) (operand (get_or l 0 0) (get_or l 1 0)) _ tt
    (small_if (eqb b 3) (enumerant (get_or l 0 0) (four_at 1 l)) _ (omega (arith, byte_at l 1 by, byte_at l 2 by, byte_at l 3 by, byte_at l 4 by))
    (small_if (eqb b 4) (parameter (get_or l 0 0)) broken tt tt))))

-- each item's in bytes does
small_from : (n : ℕ) (l : List ℕ) → AllBytes l → AllSmall (items_from n l)
unfolding items_from
small_from n [] by = tt
small_from (suc n) (b ∷ l) by = small_from n l by.1
small_from zero (b ∷ l) by = (item_small b l by.1, small_from (body_length b) l by.1)

-- those of a grammar do
pub items_small : (g : List ℕ) → AllBytes g → AllSmall (items g)
unfolding items
items_small g by = small_from 0 g by

-- FROM ITEMS TO BYTES AND BACK

-- an item's bytes in front are read as the item
read_item : (x : Item) (r : List ℕ) → is_fine x ≡ true → Small x → items (item_bytes x ++ r) ≡ x ∷ items r
unfolding items items_from bytes_of
read_item (row o) r f s = let e : o % 256 + 256 * (o / 256) ≡ o = omega arith in ap (λ (n : ℕ). row n ∷ items r) e
read_item (operand k q) r f s = refl
read_item (enumerant k v) r f s = ap (λ (n : ℕ). enumerant k n ∷ items r) (four_bytes v s)
read_item (parameter k) r f s = refl
read_item broken r f s = never f refl

-- the bytes of items are read as the items
pub read_items : (xs : List Item) → every is_fine xs ≡ true → AllSmall xs → items (joined item_bytes xs) ≡ xs
unfolding items items_from
read_items [] f s = refl
read_items (x ∷ xs) f s =
    read_item x (joined item_bytes xs) (left (is_fine x) (every is_fine xs) f) s.0
    ∙ ap (λ (ys : List Item). x ∷ ys) (read_items xs (right (is_fine x) (every is_fine xs) f) s.1)

-- FROM BYTES TO ITEMS AND BACK

-- a fine item's bytes are those that it was read from
item_bytes_lem : (b : ℕ) (l : List ℕ) → AllBytes l → is_fine (item_of b l) ≡ true → item_bytes (item_of b l) ++ drop (body_length b) l ≡ b ∷ l
unfolding bytes_of
item_bytes_lem b l by f = which (eqb b 1) (eqb b 2) (eqb b 3) (eqb b 4) refl refl refl refl
  where
    Back : ℕ → Type 0
    Back n = is_fine (item_of n l) ≡ true → item_bytes (item_of n l) ++ drop (body_length n) l ≡ n ∷ l

    at : (n : ℕ) → eqb b n ≡ true → Back n → Back b
    at n e s = subst Back (sym (eqb-true b n e)) s

    one : (l : List ℕ) → AllBytes l → is_fine (item_of 1 l) ≡ true → item_bytes (item_of 1 l) ++ drop 2 l ≡ 1 ∷ l
    one [] by f = never f refl
    one (a ∷ []) by f = never f refl
    one (a ∷ c ∷ r) by f =
        let e : (a + 256 * c) % 256 ≡ a = omega (arith, by.0) in
        let q : (a + 256 * c) / 256 ≡ c = omega (arith, by.0) in
        rw (e, q)

    two : (l : List ℕ) → is_fine (item_of 2 l) ≡ true → item_bytes (item_of 2 l) ++ drop 2 l ≡ 2 ∷ l
    two [] f = never f refl
    two (a ∷ []) f = never f refl
    two (a ∷ c ∷ r) f = refl

    three : (l : List ℕ) → AllBytes l → is_fine (item_of 3 l) ≡ true → item_bytes (item_of 3 l) ++ drop 5 l ≡ 3 ∷ l
    three [] by f = never f refl
    three (k ∷ []) by f = never f refl
    three (k ∷ a ∷ []) by f = never f refl
    three (k ∷ a ∷ c ∷ []) by f = never f refl
    three (k ∷ a ∷ c ∷ d ∷ []) by f = never f refl
    three (k ∷ a ∷ c ∷ d ∷ e ∷ r) by f =
        ap (λ (bs : List ℕ). 3 ∷ k ∷ bs ++ r) (four_word a c d e (by.1.0, (by.1.1.0, (by.1.1.1.0, (by.1.1.1.1.0, tt))))).1

    four : (l : List ℕ) → is_fine (item_of 4 l) ≡ true → item_bytes (item_of 4 l) ++ drop 1 l ≡ 4 ∷ l
    four [] f = never f refl
    four (a ∷ r) f = refl

    unknown : (t : Bool) → is_fine (if not t then broken else broken) ≡ false
    unknown true = refl
    unknown false = refl

    which : (p q r s : Bool) → eqb b 1 ≡ p → eqb b 2 ≡ q → eqb b 3 ≡ r → eqb b 4 ≡ s
        → item_bytes (item_of b l) ++ drop (body_length b) l ≡ b ∷ l
    which true q r s e₁ e₂ e₃ e₄ = at 1 e₁ (one l by) f
    which false true r s e₁ e₂ e₃ e₄ = at 2 e₂ (two l) f
    which false false true s e₁ e₂ e₃ e₄ = at 3 e₃ (three l by) f
    which false false false true e₁ e₂ e₃ e₄ = at 4 e₄ (four l) f
    which false false false false e₁ e₂ e₃ e₄ = never f (simp (e₁, e₂, e₃, e₄) (unknown (has (if leb b 2 then 2 else 1) l)))

-- the bytes of fine items, of which the first starts after the bytes skipped
bytes_from : (n : ℕ) (l : List ℕ) → AllBytes l → every is_fine (items_from n l) ≡ true → joined item_bytes (items_from n l) ≡ drop n l
unfolding items_from
bytes_from zero [] by f = refl
bytes_from (suc n) [] by f = refl
bytes_from (suc n) (b ∷ l) by f = bytes_from n l by.1 f
bytes_from zero (b ∷ l) by f =
    ap (λ (bs : List ℕ). item_bytes (item_of b l) ++ bs) (bytes_from (body_length b) l by.1 (right (is_fine (item_of b l)) (every is_fine (items_from (body_length b) l)) f))
    ∙ item_bytes_lem b l by.1 (left (is_fine (item_of b l)) (every is_fine (items_from (body_length b) l)) f)

-- the bytes of a grammar's items are the grammar's
pub items_bytes : (g : List ℕ) → AllBytes g → every is_fine (items g) ≡ true → joined item_bytes (items g) ≡ g
unfolding items
items_bytes g by f = bytes_from 0 g by f

-- HOW LONG AN ITEM IS

-- it has a byte at least
pub length_least : (g : List ℕ) (at : ℕ) → 1 ≤ length_at g at
unfolding length_at
length_least g at = omega arith
