-- The fittings hold of the code: by the contract of a load, its answer and its stores are those of the table.
use Prim.Native.Nat.{ℕ, ◌≤◌}
use native.Mathlib.Omega.{arith}
use mathlib.Core.Path.{◌≡◌, refl, ap, ap₂, ◌∙◌, subst}
use mathlib.Core.Bool.{Bool, true}
use mathlib.Core.List.{List, [], ◌∷◌}
use borrow.Author.Tests.{leb-true}
use lib.Dec.{leb}
use lib.ListN.{length}
use Rattle.spec.specs.declared.Counts.{Counts}
use Rattle.spec.specs.declared.Loaded.{Loaded}
use Rattle.spec.specs.Base.{every}
use Rattle.spec.specs.Words.{bytes_of}
use Rattle.spec.specs.Builtin.{builtin}
use Rattle.spec.specs.Load.{Outcome, enough, load, Stores, stores_of, room_in, laid_on, Covers}
use Rattle.spec.specs.Fittings.{Shown, Fitting, fitting, shown, room_for, found, claimed, fittings}
use Rattle.spec.proofs.Fittings.{fittings_hold}
use Rattle.loader.specs.Loading.{loading, Loads}
use Rattle.demands.proofs.Choice.{left, right}
use Rattle.demands.proofs.Room.{load_roomy}
use Rattle.demands.proofs.Rooms.{any_room}
use Rattle.fittings.specs.Told.{Told, Shows}

-- where the loads of a table's modules show what the table says, a module's load shows what the table says of it
tells : (fs : List Fitting) (f : List ℕ → Outcome) → found f fs ≡ claimed fs → (m : List ℕ) (P : Shown → Type 0) → P (shown (f m))
    → Told fs m P
unfolding found claimed Told
tells [] f e m P p = tt
tells (fitting s x ∷ fs) f e m P p =
    let first : shown (f s) ≡ x = cc in
    let rest : found f fs ≡ claimed fs = cc in
    ((λ q. subst P (ap (λ (t : List ℕ). shown (f t)) q ∙ first) p), tells fs f rest m P p)

module _ (m : List ℕ) (t : Stores) (c : Covers (room_in t) (room_for m)) where
  -- a load into stores with room is the one with the room that suffices
  roomy : loading m builtin t ≡ load builtin (room_for m) m
  unfolding loading
  roomy = any_room builtin (room_in t) (room_for m) m (load_roomy builtin (room_in t) m c) (load_roomy builtin (room_for m) m (omega arith))

  -- what a load with the built-in grammar answers and leaves, by its contract, is what the table says of the module
  pub told : {g : List ℕ} {u : Stores} {r : Loaded} → g ≡ builtin → Loads m g t u r → Told fittings m (λ x. Shows x t u r)
  unfolding shown
  told {u = u} {r = r} b l =
      let is = ap (λ (g : List ℕ). loading m g t) b ∙ roomy in
      tells fittings (λ n. load builtin (room_for n) n) fittings_hold m (λ x. Shows x t u r)
      (record {
        said = l.leaves.said ∙ ap (λ (o : Outcome). o.said) is;
        stores = l.leaves.stores ∙ ap (λ (o : Outcome). laid_on t (stores_of o)) is;
      })

-- stores with the room that suffices for 58 words suffice for a module of 255 bytes
pub long_enough : (m : List ℕ) {r : Counts} → length m ≤ 255 → Covers r (enough 58) → Covers r (room_for m)
unfolding enough
long_enough m h c = omega arith

-- THE WHOLE TABLE

-- a module has at most 56 bytes, nine words after the header
unfoldable short : Fitting → Bool
short (fitting s x) = leb (length s) 56

-- so has every one of the table
all_short : every short fittings ≡ true
unfolding short fittings bytes_of
all_short = refl

module _ (t : Stores) (c : Covers (room_in t) (enough 9)) where
  -- the room that suffices for nine words suffices for such a module
  suffices : (m : List ℕ) → length m ≤ 56 → Covers (room_in t) (room_for m)
  unfolding enough
  suffices m h = omega arith

  -- so stores with that room may be lent to the load of each
  all_found : (fs : List Fitting) → every short fs ≡ true
      → found (λ m. loading m builtin t) fs ≡ found (λ m. load builtin (room_for m) m) fs
  unfolding found short
  all_found [] h = refl
  all_found (fitting m x ∷ fs) h =
      ap₂ (λ (o : Outcome) (rest : List Shown). shown o ∷ rest)
      (roomy m t (suffices m (leb-true (length m) 56 (left _ (every short fs) h)))) (all_found fs (right (leb (length m) 56) _ h))

  -- the fourteen fittings hold of loads into such stores, as their contracts state them
  pub loads_hold : found (λ m. loading m builtin t) fittings ≡ claimed fittings
  loads_hold = all_found fittings all_short ∙ fittings_hold
