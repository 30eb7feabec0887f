-- Laws of rows of simple operands: each is read as the walk of a row reads it, or passed over.
use Prim.Native.Nat.{ℕ, ◌+◌, ◌*◌, ◌-◌, ◌≤◌}
use mathlib.Core.Path.{◌≡◌, refl, sym, ◌∙◌}
use mathlib.Core.Bool.{Bool, true, false, not}
use mathlib.Core.List.{List, [], ◌∷◌}
use Rattle.std.specs.Prelude.{Some, if◌then◌else◌}
use native.Mathlib.Omega.{arith}
use borrow.Author.Tests.{eqb-true}
use lib.Dec.{eqb}
use lib.ListN.{length, drop, length-drop}
use Rattle.spec.specs.Base.{has}
use Rattle.spec.specs.Kinds.{is_result}
use Rattle.spec.proofs.Choice.{cases, either, fails, in_range}
use Rattle.spec.specs.Records.{Operand, Entry}
use Rattle.spec.specs.Reader.{Read}
use Rattle.spec.specs.Grammar.{Grammar, Item, broken, body_length, slot, item_of, items, items_from, slots_of}
use Rattle.spec.specs.Match.{read_slot}
use Rattle.decoder.specs.declared.Decoder.{Decoder}
use Rattle.decoder.specs.Answer.{reader_of, word_from, limit_reached}
use Rattle.used.specs.declared.used.Used.{Used}
use Rattle.used.specs.declared.used.Frame.{Frame}
use Rattle.used.specs.Parse.{left_of, Went, Few, Parses, literal_for, kind_alone, slots_at, SlotWalks}
use Rattle.used.specs.Fresh.{with_result}
use Rattle.untyped.specs.Body.{Framed, start_of}
use Rattle.simple.specs.Simple.{There, IfTaken}
use Rattle.untyped.proofs.SlotLaws.{walks_result, walks_as}
use Rattle.untyped.proofs.RowLaws.{left_some}
use Rattle.simple.proofs.SimpleLaws.{take, take_so}
use Rattle.std.specs.Prelude.{Ok, Option}

-- OPERANDS

-- a kind that is neither of the two is no result
pub no_result : (k : ℕ) → (k ≡ 46 → ⊥) → (k ≡ 47 → ⊥) → is_result k ≡ false
no_result k x y = fails (is_result k) (λ e. omega (arith, in_range 46 k 47 e, x, y))

module _ (s : List ℕ) (g : Grammar) (j : ℕ) (l : Option ℕ) (d : Decoder) (log strs : List ℕ) (u : Used) (t : Bool) (p : t ≡ is_result j) (types : List Entry)
    (f : l ≡ literal_for types u j) where
  -- a result
  pub reads_result : t ≡ true → Few s d u → (v : ℕ) (e : Decoder) → Ok (v, e) ≡ word_from s d → (n : Used) → n ≡ with_result j (Some v) u
      → IfTaken (SlotWalks s d j (λ x. read_slot g types x j (reader_of s d)) log strs log strs u) (Some (n, e))
  reads_result q m v e h n z = take _ e n (walks_result s g j l d log strs u t p types f q m v e h n z)

  -- any other operand, by its read
  pub reads_as : t ≡ false → (log₁ strs₁ : List ℕ) (v : Option (Used × Decoder)) (y : Read (List Operand)) → kind_alone g l j (reader_of s d) ≡ y
      → IfTaken (Parses s d 4 y log strs log₁ strs₁ u) v → IfTaken (SlotWalks s d j (λ x. read_slot g types x j (reader_of s d)) log strs log₁ strs₁ u) v
  reads_as q log₁ strs₁ v y e h = take_so _ _ (λ a. walks_as s g j l d log strs u t p types f q log₁ strs₁ a y e) v h

-- ROWS

-- the words of an instruction that are there are those of its limit
pub row_fits : (s g : List ℕ) (f : Frame) → Framed s g f → 4 * (f.words - 1) ≤ length s - (f.at + 4)
    → (start_of f).offset + 4 * left_of (start_of f).limit ≤ length s
unfolding left_of
row_fits s g f h i = omega (arith, h.inside)

-- with a word left, those of the limit are there
pub row_there : (s : List ℕ) (d₀ d : Decoder) (u : Used) → Few s d u → Went d₀ d 0 → (t : Bool) → t ≡ limit_reached d → t ≡ false
    → d₀.offset + 4 * left_of d₀.limit ≤ length s → There s d
unfolding limit_reached
row_there s d₀ d u f w t p h i = record { left = left_some d.limit f.left f.limited (sym p ∙ h); inside = omega (arith, w.pace, i) }

-- the place after an operand that ends inside the grammar lies inside too
pub next_in : (g : List ℕ) (p j q n : ℕ) → slots_at g p ≡ slot j q ∷ slots_at g (p + 3) → n ≡ (if eqb q 2 then p else p + 3) → p + 3 ≤ length g
    → n ≤ length g
next_in g p j q n at e h = rw e (either (λ k. k ≤ length g) (eqb q 2) p (p + 3) (λ x. omega (arith, h)) (λ x. h))

-- an item of another kind is no operand
other_kind : (b : ℕ) (l : List ℕ) (xs : List Item) → eqb b 2 ≡ false → slots_of (item_of b l ∷ xs) ≡ []
unfolding slots_of
other_kind b l xs h =
    let bare : Item → Type 0 = λ x. slots_of (x ∷ xs) ≡ [] in
    let known = either bare (eqb b 3) _ _ (λ e. refl) (λ e. either bare (eqb b 4) _ broken (λ f. refl) (λ f. refl)) in
    rw h (either bare (not (has (body_length b) l)) broken _ (λ e. refl) (λ e. either bare (eqb b 1) _ _ (λ f. refl) (λ f. known)))

-- an operand cut short is none
cut_short : (l : List ℕ) (xs : List Item) → length l ≤ 1 → slots_of (item_of 2 l ∷ xs) ≡ []
unfolding slots_of
cut_short [] xs h = refl
cut_short (x ∷ []) xs h = refl
cut_short (x ∷ y ∷ l) xs h = absurd (omega (arith, h))

-- fewer bytes than an operand has say none
few_slots : (l : List ℕ) → length l ≤ 2 → slots_of (items l) ≡ []
unfolding slots_of items items_from
few_slots [] h = refl
few_slots (b ∷ l) h =
    cases (eqb b 2) (λ e. rw (eqb-true b 2 e) (cut_short l (items_from 2 l) (omega (arith, h)))) (other_kind b l (items_from (body_length b) l))

-- where fewer bytes are left than an operand has, there is none
pub end_short : (g : List ℕ) (p : ℕ) → length g ≤ p + 2 → slots_at g p ≡ []
unfolding slots_at
end_short g p h = few_slots (drop p g) (simp length-drop (omega (arith, h)))
