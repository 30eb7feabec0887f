-- Demand 1: what every load says and leaves, whatever the grammar, the room and the module. The words of the statements: `Source`
-- and `OfLoad` (Numbers), `KeptSays`, `end_of` and `ended` (Returns), `Leaves` (Leaves).
use Prim.Native.Nat.{ℕ, ◌-◌, ◌/◌, ◌≤◌}
use mathlib.Core.Path.{◌≡◌}
use mathlib.Core.Bool.{true, false}
use mathlib.Core.List.{List, ◌++◌}
use lib.ListN.{length, take}
use Rattle.spec.specs.declared.State.{State}
use Rattle.spec.specs.declared.Counts.{Counts}
use Rattle.spec.specs.Grammar.{well_formed}
use Rattle.spec.specs.Load.{Covers, enough, lacks_room, with_plain, load, Stores, stores_of, room_in, laid_on}
use Rattle.spec.specs.Records.{record_size}
use Rattle.spec.specs.Check.{good, check, given_by}
use Rattle.spec.specs.Words.{AllBytes}
use Rattle.demands.proofs.Lists.{Begins}
use Rattle.demands.proofs.Numbers.{OfRoom, Source, OfLoad, source_number, load_from_lem}
use Rattle.demands.proofs.Room.{load_roomy, load_low}
use Rattle.demands.proofs.KeptSays.{KeptSays, load_says}
use Rattle.demands.proofs.Leaves.{Leaves, load_leaves, load_begins}
use Rattle.demands.proofs.ReadBack.{reads_back}
use Rattle.demands.proofs.Returns.{end_of, ended, load_cut}
use Rattle.demands.proofs.Prefix.{load_longer}

module _ (grammar : List ℕ) (room : Counts) (s : List ℕ) where
  -- THE NUMBER

  -- a load's number comes from the grammar (24), the module's length (31), the header (1 to 3), reading an instruction (4 to 14), the
  -- layout (15 to 23), room that lacks (25 to 28), or the end (0, 16, 21)
  pub number_source : Source grammar s OfRoom (load grammar room s).said.number
  number_source = load_from_lem grammar room s

  -- so it is 0 to 28, or 31
  pub number_bound : OfLoad (load grammar room s).said.number
  number_bound = source_number number_source

  -- "With W whole words after the header, W instruction records, 9W log bytes, 4W string bytes and W type entries always suffice"
  pub room_suffices : Covers room (enough (length s / 4 - 5)) → lacks_room (load grammar room s).said ≡ false
  room_suffices c = load_roomy grammar room s c

  -- and with a well-formed grammar and at most 67,108,864 bytes the number is 0 to 23
  pub number_low : Covers room (enough (length s / 4 - 5)) → well_formed grammar ≡ true → length s ≤ 67108864
      → (load grammar room s).said.number ≤ 23
  number_low c = load_low grammar room s c

  -- WHAT IS KEPT

  -- the instructions kept say the rest: the type entries, the counts, and, where the load came to the instructions, the index
  pub kept_says : KeptSays (load grammar room s)
  kept_says = load_says grammar room s

  -- a refusal is the first fault: a module that came to its instructions, cut where those kept end, loads to the same records and
  -- ends there, and says of itself whether it is plain
  pub first_fault : 1 ≤ (load grammar room s).said.index
      → let o = load grammar room s in
      (q : State) × (load grammar room (take (end_of o) s) ≡ with_plain (take (end_of o) s) (ended q o))
  first_fault h = load_cut grammar room s h

  -- nothing before a fault depends on what follows: with bytes behind the module, what is kept of it is kept first, if it still
  -- comes to its instructions
  pub kept_first : (y : List ℕ) → 1 ≤ (load grammar room (s ++ y)).said.index
      → Begins (load grammar room (s ++ y)).kept (load grammar room s).kept
  kept_first y h = load_longer grammar room s y h

module _ (grammar s : List ℕ) (t : Stores) where
  -- WHAT IS LEFT IN THE STORES

  -- a load, accepted or refused, leaves in lent stores the records of what it keeps, and past its counts what was there
  pub leaves : let x = load grammar (room_in t) s in Leaves t x (laid_on t (stores_of x))
  leaves = load_leaves grammar s t

  -- what it leaves reads back as what it keeps
  pub left_reads_back : AllBytes s
      → let x = load grammar (room_in t) s in check record_size false (given_by (laid_on t (stores_of x)) x.said.counts) ≡ good x.kept
  left_reads_back by = reads_back grammar (room_in t) s by (laid_on t (stores_of (load grammar (room_in t) s))) (load_begins grammar s t)
