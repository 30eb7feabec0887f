-- What a load, accepted or refused, leaves in lent stores: the records of what it keeps, and past them what was there.
use Prim.Native.Nat.{ℕ, ◌*◌, ◌≤◌}
use mathlib.Core.Path.{◌≡◌, refl, ap, ◌∙◌}
use mathlib.Core.List.{List, ◌++◌}
use native.Mathlib.Omega.{arith}
use native.Mathlib.Nat.{zero-add}
use lib.ListN.{length, drop}
use lib.Seq.{sets-eq}
use Rattle.spec.specs.Base.{joined}
use Rattle.spec.specs.Records.{entry_words, instruction_store, log_from, string_store, record_size}
use Rattle.spec.specs.Load.{room_of, Outcome, load, Stores, stores_of, laid_over, Covers, room_in, laid_on}
use Rattle.demands.proofs.Stores.{instructions_length, entries_length, BeginWith}
use Rattle.demands.proofs.KeptSays.{taken_by, KeptSays, load_says}
use Rattle.demands.proofs.Room.{load_covered}

-- the stores t after a load of which x became: up to its counts the records of what it keeps, past them what was there
pub record Leaves (t : Stores) (x : Outcome) (after : Stores) : Type 0 where
  pub instructions : after.instructions ≡ instruction_store x.kept ++ drop (record_size * x.said.counts.instructions) t.instructions
  pub log : after.log ≡ log_from 0 x.kept ++ drop x.said.counts.log t.log
  pub strings : after.strings ≡ string_store x.kept ++ drop x.said.counts.strings t.strings
  pub types : after.types ≡ joined entry_words x.types ++ drop (3 * x.said.counts.types) t.types

-- a store after what was laid over it, so many elements
pub laid_over_lem : (store bs : List ℕ) (n : ℕ) → length bs ≡ n → n ≤ length store → laid_over store bs ≡ bs ++ drop n store
unfolding laid_over
laid_over_lem store bs n e h =
    sets-eq bs store 0 (omega arith) ∙ ap (λ (k : ℕ). bs ++ drop k store) (zero-add (length bs) ∙ e)

-- stores with room for an outcome
room_leaves : (x : Outcome) (t : Stores) → KeptSays x → Covers (room_in t) x.said.counts
    → Leaves t x (laid_on t (stores_of x))
unfolding room_in room_of laid_on stores_of taken_by
room_leaves x t k c =
    let r : Covers (room_in t) (taken_by x.kept x.types) = rw k.counts at c in
    rw (k.counts, k.left)
    (record {
      instructions = laid_over_lem t.instructions _ _ (instructions_length x.kept) (omega (arith, r.instructions));
      log = laid_over_lem t.log _ _ refl r.log;
      strings = laid_over_lem t.strings _ _ refl r.strings;
      types = laid_over_lem t.types _ _ (entries_length x.types) (omega (arith, r.types));
    })

-- lent stores, after a load that had their room
pub load_leaves : (g s : List ℕ) (t : Stores) → let x = load g (room_in t) s in Leaves t x (laid_on t (stores_of x))
load_leaves g s t = room_leaves (load g (room_in t) s) t (load_says g (room_in t) s) (load_covered g (room_in t) s)

-- stores that hold what a load leaves begin with its records
leaves_begin : {t after : Stores} {x : Outcome} → KeptSays x → Leaves t x after → BeginWith after (stores_of x)
unfolding stores_of
leaves_begin k l =
    rw k.left
    (record { instructions = (_, l.instructions); log = (_, l.log); strings = (_, l.strings); types = (_, l.types) })

-- so do lent stores after a load
pub load_begins : (g s : List ℕ) (t : Stores) → let x = load g (room_in t) s in BeginWith (laid_on t (stores_of x)) (stores_of x)
load_begins g s t = leaves_begin (load_says g (room_in t) s) (load_leaves g s t)
