-- Laws of the search for an id's entry, from both ends.
use Prim.Native.Nat.{ℕ, ◌+◌, ◌-◌, ◌*◌, ◌<◌, ◌≤◌}
use mathlib.Core.Path.{◌≡◌, refl, ap, sym, subst, ◌∙◌}
use mathlib.Core.Bool.{Bool, true, false}
use mathlib.Core.List.{List}
use native.Mathlib.Omega.{arith}
use lib.Dec.{ltb}
use lib.ListN.{length, get_or}
use borrow.Author.Tests.{ltb-true, ltb-false}
use Rattle.tracker.specs.Entries.{entries_of, place_of}
use Rattle.tracker.specs.Hints.{Alone}
use Rattle.tracker.proofs.Laws.{sits, sits_below, own_word}
use Rattle.std.specs.Prelude.{None, Option, Some}

-- an entry that is the id's is where the id is found
pub found_own : (n : ℕ) (l : List ℕ) → Alone n l → (id k : ℕ) → k < n → get_or l (3 * k) 0 ≡ id → Some k ≡ place_of id (entries_of n l)
unfolding Alone
found_own n l a id k h e = sym (a k h) ∙ ap (λ (i : ℕ). place_of i (entries_of n l)) e

-- an id that no entry has is not found
pub found_none : (n : ℕ) (l : List ℕ) → 3 * n ≤ length l → (id : ℕ) → ((k : ℕ) → k < n → get_or l (3 * k) 0 ≡ id → ⊥)
    → None ≡ place_of id (entries_of n l)
found_none n l room id none = by (place_of id (entries_of n l)) refl
  where
    by : (f : Option ℕ) → f ≡ place_of id (entries_of n l) → None ≡ place_of id (entries_of n l)
    by (Some k) e = let m = sits room (Some k) e k refl in absurd (none k (sits_below m) (own_word m))
    by None e = e

-- how far a search has come: no entry before the one index is the id's, and none from the other on
pub record Seeking (l : List ℕ) (n id i end : ℕ) : Type 0 where
  pub before : (k : ℕ) → k < i → get_or l (3 * k) 0 ≡ id → ⊥
  pub behind : (k : ℕ) → end ≤ k → k < n → get_or l (3 * k) 0 ≡ id → ⊥
  pub within : end ≤ n

-- at first all are left
pub seek_start : (l : List ℕ) (n id : ℕ) → Seeking l n id 0 n
seek_start l n id = record { before = λ k h e. omega arith; behind = λ k h f e. omega arith; within = omega arith }

module _ {l : List ℕ} {n id i end : ℕ} (r : Seeking l n id i end) (h : i < end) where
  -- neither the first nor the last of those that are left is the id's: one further from both ends
  pub seek_turn : (get_or l (3 * i) 0 ≡ id → ⊥) → (get_or l (3 * (end - 1)) 0 ≡ id → ⊥) → Seeking l n id (i + 1) (end - 1)
  seek_turn first last = record {
    before = λ k f. before_by k f (ltb k i) refl;
    behind = λ k f g. behind_by k f g (ltb k end) refl;
    within = omega (arith, r.within);
  }
    where
      -- the entry is one of those before, or the first
      before_by : (k : ℕ) → k < i + 1 → (t : Bool) → ltb k i ≡ t → get_or l (3 * k) 0 ≡ id → ⊥
      before_by k f true q = r.before k (ltb-true k i q)
      before_by k f false q =
          let same : i ≡ k = omega (arith, ltb-false k i q) in
          subst (λ (m : ℕ). get_or l (3 * m) 0 ≡ id → ⊥) same first

      -- it is one of those behind, or the last
      behind_by : (k : ℕ) → end - 1 ≤ k → k < n → (t : Bool) → ltb k end ≡ t → get_or l (3 * k) 0 ≡ id → ⊥
      behind_by k f g true q =
          let same : end - 1 ≡ k = omega (arith, ltb-true k end q) in
          subst (λ (m : ℕ). get_or l (3 * m) 0 ≡ id → ⊥) same last
      behind_by k f g false q = r.behind k (ltb-false k end q) g

-- all are passed
pub seek_end : {l : List ℕ} {n id i end : ℕ} → Seeking l n id i end → 3 * n ≤ length l → end ≤ i → None ≡ place_of id (entries_of n l)
seek_end {l} {n} {id} {i} {end} r room h = found_none n l room id (λ k f. passed k f (ltb k i) refl)
  where
    passed : (k : ℕ) → k < n → (t : Bool) → ltb k i ≡ t → get_or l (3 * k) 0 ≡ id → ⊥
    passed k f true q = r.before k (ltb-true k i q)
    passed k f false q = r.behind k (omega (arith, ltb-false k i q)) f
