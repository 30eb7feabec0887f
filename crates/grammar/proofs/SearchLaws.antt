-- A search by halves among marks that rise finds the first mark of a kind and a value.
use mathlib.Core.Path.{◌≡◌, refl, sym, subst}
use mathlib.Core.Bool.{Bool, true, false, ◌&&◌, ◌||◌}
use mathlib.Core.List.{List, [], ◌∷◌}
use mathlib.Core.Logic.{◌⊎◌, inl, inr, ⊎_elim}
use Prim.Native.Nat.{ℕ, zero, suc, ◌+◌, ◌≤◌, ◌<◌}
use native.Mathlib.Nat.{eq-or-lt_of_le}
use native.Mathlib.Omega.{arith}
use borrow.Author.Count.{below_more}
use borrow.Author.Tests.{lt-ltb, le-ltb, eq-eqb, ne_eqb, ltb-true, ltb-false, eqb-true}
use lib.Dec.{ltb, eqb}
use lib.ListN.{length}
use Rattle.spec.specs.Grammar.{rises}
use Rattle.grammar.specs.declared.index.Mark.{Mark}
use Rattle.grammar.specs.Index.{mark_at, is_mark, found}
use Rattle.std.specs.Prelude.{None, Some}

-- KINDS AND VALUES IN THEIR ORDER

-- what two pairs that rise tell, by the tests
told_by : (a b c : Bool) → a || (b && c) ≡ true → (a ≡ true) ⊎ ((b ≡ true) × (c ≡ true))
told_by true b c e = inl refl
told_by false true c e = inr (refl, e)
told_by false false c e = let z : ◌≡◌ {A = ℕ} 0 1 = cc in absurd (omega arith)

-- the kind rises, or it stays and the value rises
pub rises_told : (j u k v : ℕ) → rises j u k v ≡ true → (j < k) ⊎ ((j ≡ k) × (u < v))
rises_told j u k v e =
    ⊎_elim (λ t. inl (ltb-true j k t)) (λ t. inr (eqb-true j k t.0, ltb-true u v t.1))
    (told_by (ltb j k) (eqb j k) (ltb u v) e)

-- a kind that rises
pub kind_rises : (j u k v : ℕ) → j < k → rises j u k v ≡ true
kind_rises j u k v h = simp (lt-ltb j k h)

-- a value that rises, at the same kind
pub value_rises : (j u k v : ℕ) → j ≡ k → u < v → rises j u k v ≡ true
value_rises j u k v e h = simp (le-ltb j k (omega arith), eq-eqb j k e, lt-ltb u v h)

-- what rises by two steps rises
pub rises_on : (i t j u k v : ℕ) → rises i t j u ≡ true → rises j u k v ≡ true → rises i t k v ≡ true
rises_on i t j u k v a b =
    ⊎_elim
    (λ (p : i < j). ⊎_elim (λ (q : j < k). kind_rises i t k v (omega arith)) (λ (q : (j ≡ k) × (u < v)). kind_rises i t k v (omega arith)) (rises_told j u k v b))
    (λ (p : (i ≡ j) × (t < u)). ⊎_elim (λ (q : j < k). kind_rises i t k v (omega arith)) (λ (q : (j ≡ k) × (u < v)). value_rises i t k v (omega arith) (omega arith)) (rises_told j u k v b))
    (rises_told i t j u a)

-- nothing is the same by a test that fails at its end
and_false : (a b : Bool) → b ≡ false → a && b ≡ false
and_false true b e = e
and_false false b e = refl

-- pairs that rise are not the same
pub rises_apart : (j u k v : ℕ) → rises j u k v ≡ true → eqb j k && eqb u v ≡ false
rises_apart j u k v e =
    ⊎_elim (λ (p : j < k). simp (ne_eqb j k (λ (q : j ≡ k). omega arith)))
    (λ (p : (j ≡ k) × (u < v)). and_false (eqb j k) (eqb u v) (ne_eqb u v (λ (q : u ≡ v). omega arith)))
    (rises_told j u k v e)

-- nor the other way round
pub rises_apart_back : (j u k v : ℕ) → rises k v j u ≡ true → eqb j k && eqb u v ≡ false
rises_apart_back j u k v e =
    ⊎_elim (λ (p : k < j). simp (ne_eqb j k (λ (q : j ≡ k). omega arith)))
    (λ (p : (k ≡ j) × (v < u)). and_false (eqb j k) (eqb u v) (ne_eqb u v (λ (q : u ≡ v). omega arith)))
    (rises_told k v j u e)

-- a number that is neither below nor above another is that one
neither : (a b : ℕ) → ltb a b ≡ false → ltb b a ≡ false → a ≡ b
neither a b p q = omega (arith, ltb-false a b p, ltb-false b a q)

-- a choice that fails, and its first part
or_false : (a b : Bool) → a || b ≡ false → (a ≡ false) × (b ≡ false)
or_false true b e = let z : ◌≡◌ {A = ℕ} 0 1 = cc in absurd (omega arith)
or_false false b e = (refl, e)

-- pairs of which neither comes before the other are the same
pub rises_same : (j u k v : ℕ) → rises j u k v ≡ false → rises k v j u ≡ false → eqb j k && eqb u v ≡ true
rises_same j u k v a b =
    let p = or_false (ltb j k) (eqb j k && ltb u v) a in
    let q = or_false (ltb k j) (eqb k j && ltb v u) b in
    let e : j ≡ k = neither j k p.0 q.0 in
    let s : ltb u v ≡ false = rw (eq-eqb j k e) at p.1 in
    let t : ltb v u ≡ false = rw (eq-eqb k j (sym e)) at q.1 in
    simp (eq-eqb j k e, eq-eqb u v (neither u v s t))

-- MARKS THAT RISE

-- each mark comes after a kind and a value
abbrev pub Above : ℕ → ℕ → List Mark → Type 0
Above k v [] = Unit {0}
Above k v (m ∷ ms) = (rises k v m.kind m.value ≡ true) × Above k v ms

-- each mark comes after those before it
abbrev pub Rising : List Mark → Type 0
Rising [] = Unit {0}
Rising (m ∷ ms) = Above m.kind m.value ms × Rising ms

-- marks after a pair come after what is before that pair
pub above_on : (j u k v : ℕ) (ms : List Mark) → rises j u k v ≡ true → Above k v ms → Above j u ms
above_on j u k v [] e a = tt
above_on j u k v (m ∷ ms) e a = (rises_on j u k v m.kind m.value e a.0, above_on j u k v ms e a.1)

-- the mark of any rank
above_at : (k v : ℕ) (ms : List Mark) (i : ℕ) → i < length ms → Above k v ms → rises k v (mark_at ms i).kind (mark_at ms i).value ≡ true
unfolding mark_at
above_at k v [] i h a = absurd (omega arith)
above_at k v (m ∷ ms) zero h a = a.0
above_at k v (m ∷ ms) (suc i) h a = above_at k v ms i (omega arith) a.1

-- the marks of any two ranks
rising_at : (ms : List Mark) (i j : ℕ) → i < j → j < length ms → Rising ms → rises (mark_at ms i).kind (mark_at ms i).value (mark_at ms j).kind (mark_at ms j).value ≡ true
unfolding mark_at
rising_at [] i j h l r = absurd (omega arith)
rising_at (m ∷ ms) i zero h l r = absurd (omega arith)
rising_at (m ∷ ms) zero (suc j) h l r = above_at m.kind m.value ms j (omega arith) r.0
rising_at (m ∷ ms) (suc i) (suc j) h l r = rising_at ms i j (omega arith) (omega arith) r.1

-- THE SEARCH

-- two tests that hold
pub and_told : (a b : Bool) → a && b ≡ true → (a ≡ true) × (b ≡ true)
and_told true b e = (refl, e)
and_told false b e = let z : ◌≡◌ {A = ℕ} 0 1 = cc in absurd (omega arith)

-- the mark of a kind and a value has them
mark_told : (k v : ℕ) (m : Mark) → is_mark k v m ≡ true → (m.kind ≡ k) × (m.value ≡ v)
mark_told k v m e =
    let t = and_told (eqb m.kind k) (eqb m.value v) e in
    (eqb-true m.kind k t.0, eqb-true m.value v t.1)

-- no mark is that of the kind and the value
found_none : (k v : ℕ) (ms : List Mark) → ((i : ℕ) → i < length ms → is_mark k v (mark_at ms i) ≡ false) → found k v ms ≡ None
unfolding mark_at found
found_none k v [] f = refl
found_none k v (m ∷ ms) f = simp (f 0 (omega arith)) (found_none k v ms (λ i h. f (suc i) (omega arith)))

-- a mark of the kind and the value, among marks that rise, is the first
pub found_there : (k v : ℕ) (ms : List Mark) (i : ℕ) → i < length ms → Rising ms → is_mark k v (mark_at ms i) ≡ true → found k v ms ≡ Some (mark_at ms i).place
unfolding mark_at found
found_there k v [] i h r e = absurd (omega arith)
found_there k v (m ∷ ms) zero h r e = simp e
found_there k v (m ∷ ms) (suc i) h r e =
    let t = mark_told k v (mark_at ms i) e in
    let a = above_at m.kind m.value ms i (omega arith) r.0 in
    simp (rises_apart m.kind m.value k v (rw (t.0, t.1) at a)) (found_there k v ms i (omega arith) r.1 e)

-- what a search by halves has shown: marks of ranks below come before the kind and the value, marks of ranks from another on after
pub record Halving (k v : ℕ) (ms : List Mark) (low high : ℕ) : Type 0 where
  pub below : (i : ℕ) → i < low → rises (mark_at ms i).kind (mark_at ms i).value k v ≡ true
  pub beyond : (i : ℕ) → high ≤ i → i < length ms → rises k v (mark_at ms i).kind (mark_at ms i).value ≡ true
  pub most : high ≤ length ms

-- before the search
pub halving_start : (k v : ℕ) (ms : List Mark) (n : ℕ) → n ≡ length ms → Halving k v ms 0 n
halving_start k v ms n e = record { below = λ i h. absurd (omega arith); beyond = λ i h l. absurd (omega arith); most = omega arith }

module _ (k v : ℕ) (ms : List Mark) (low high : ℕ) (r : Rising ms) (s : Halving k v ms low high) (i : ℕ) (h : i < high) where
  -- the mark of a rank comes before: so do those of all ranks below it
  pub halving_up : rises (mark_at ms i).kind (mark_at ms i).value k v ≡ true → Halving k v ms (i + 1) high
  halving_up e =
      record {
        below =
            below_more (λ (j : ℕ). rises (mark_at ms j).kind (mark_at ms j).value k v ≡ true) i
            (λ j l. rises_on (mark_at ms j).kind (mark_at ms j).value (mark_at ms i).kind (mark_at ms i).value k v (rising_at ms j i l (omega (arith, s.most)) r) e)
            e;
        beyond = s.beyond;
        most = s.most;
      }

  -- it comes after: so do those of all ranks from it on
  pub halving_down : rises k v (mark_at ms i).kind (mark_at ms i).value ≡ true → Halving k v ms low i
  halving_down e =
      record {
        below = s.below;
        beyond =
            λ j l n.
            ⊎_elim (λ (q : i ≡ j). subst (λ (j : ℕ). rises k v (mark_at ms j).kind (mark_at ms j).value ≡ true) q e)
            (λ (q : i < j). rises_on k v (mark_at ms i).kind (mark_at ms i).value (mark_at ms j).kind (mark_at ms j).value e (rising_at ms i j q n r))
            (eq-or-lt_of_le l);
        most = omega (arith, s.most);
      }

  -- neither: it is the mark that is sought
  pub halving_hit : rises (mark_at ms i).kind (mark_at ms i).value k v ≡ false → rises k v (mark_at ms i).kind (mark_at ms i).value ≡ false → found k v ms ≡ Some (mark_at ms i).place
  halving_hit a b = found_there k v ms i (omega (arith, s.most)) r (rises_same (mark_at ms i).kind (mark_at ms i).value k v a b)

-- a number is below another, or it is not
pub below_or_not : (a b : ℕ) → (a < b) ⊎ (b ≤ a)
below_or_not a b = by (ltb a b) refl
  where
    by : (t : Bool) → ltb a b ≡ t → (a < b) ⊎ (b ≤ a)
    by true e = inl (ltb-true a b e)
    by false e = inr (ltb-false a b e)

-- no rank is left: there is no such mark
pub halving_end : (k v : ℕ) (ms : List Mark) (low high : ℕ) → Halving k v ms low high → high ≤ low → found k v ms ≡ None
halving_end k v ms low high s h =
    found_none k v ms
    (λ i l.
    ⊎_elim (λ (q : i < low). rises_apart (mark_at ms i).kind (mark_at ms i).value k v (s.below i q))
    (λ (q : low ≤ i). rises_apart_back (mark_at ms i).kind (mark_at ms i).value k v (s.beyond i (omega arith) l))
    (below_or_not i low))
