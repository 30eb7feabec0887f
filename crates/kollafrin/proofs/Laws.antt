-- Answers that fit their words, and bytes that are put into a store where they fit.
use Prim.Native.Nat.{ℕ, ◌≤◌, ◌<◌}
use mathlib.Core.Path.{◌≡◌, sym, subst}
use mathlib.Core.List.{List}
use native.Mathlib.Omega.{arith}
use borrow.Author.Tests.{le-leb, lt-leb}
use lib.ListN.{length}
use lib.Seq.{sets}
use Rattle.spec.specs.declared.Loaded.{Loaded}
use Rattle.spec.specs.declared.Joined.{Joined}
use Rattle.spec.specs.Load.{Stores, laid_over, room_in, Small}
use Rattle.spec.specs.Join.{join}
use Rattle.loader.specs.Loading.{loading, Loads}
use Rattle.join.specs.Steps.{Joins}
use Rattle.join.proofs.JoinLaws.{bytes_few}
use Rattle.demands.proofs.Bounds.{load_small}
use Rattle.kollafrin.specs.Answers.{laid_in}

-- a load's answer fits its words
pub loaded_small : {m g : List ℕ} {before after : Stores} {x : Loaded} → Loads m g before after x → Small x
unfolding loading
loaded_small {m} {g} {before} loads = subst Small (sym loads.leaves.said) (load_small g (room_in before) m)

-- the bytes that joining wrote fit their word
pub joined_small : (a b before : List ℕ) {after : List ℕ} {x : Joined} → Joins (join a b before) x after → x.bytes < 4294967296
joined_small a b before joins = rw joins.said (omega (arith, bytes_few a b before))

-- bytes that fit are put in
pub fits_in : (bs l out : List ℕ) → length bs ≤ length l → out ≡ sets l 0 bs → out ≡ laid_in l bs
unfolding laid_in laid_over
fits_in bs l out h e = rw (le-leb (length bs) (length l) h) e

-- others are not
pub full_in : (bs l : List ℕ) → length l < length bs → l ≡ laid_in l bs
unfolding laid_in
full_in bs l h = rw (lt-leb (length bs) (length l) h)
