-- The numbers of a load, and where each comes from.
use Prim.Native.Nat.{ℕ, ◌≤◌, ◌<◌}
use native.Mathlib.Omega.{arith}
use mathlib.Core.Path.{◌≡◌, refl, sym, subst}
use mathlib.Core.Bool.{Bool, true, false, false≢true}
use mathlib.Core.List.{List}
use mathlib.Core.Logic.{◌⊎◌, inl, inr}
use lib.Dec.{ltb, eqb}
use lib.ListN.{length}
use Rattle.spec.specs.declared.State.{State}
use Rattle.spec.specs.declared.State.TheVariants.{Outside, Function, Block}
use Rattle.spec.specs.declared.Counts.{Counts}
use Rattle.std.specs.Prelude.{if◌then◌else◌}
use Rattle.spec.specs.Grammar.{Grammar, grammar_of, well_formed}
use Rattle.spec.specs.Layout.{end_number}
use Rattle.spec.specs.Load.{room_fault, Book, Outcome, load}
use Rattle.demands.proofs.Cells.{layout_refuses}
use Rattle.demands.proofs.Formed.{GrammarGood}
use Rattle.demands.proofs.Instructions.{Frames, instr_read}
use Rattle.demands.proofs.Runs.{Enters, with, Fits, Stops, ends, unread, misplaced, crowded, Run, stops, keeps}
use Rattle.demands.proofs.Starts.{opens_good, ModuleRun, Loads, unformed, overlong, headless, opens, load_is}

-- WHERE A NUMBER COMES FROM

-- from the end, from reading, from the layout, or from room that lacks, of which R is said
pub data InRun (R : ℕ → Type 0) (n : ℕ) : Type 0 where
  the_end : (s : State) → n ≡ end_number s → InRun R n
  reading : 4 ≤ n → n ≤ 14 → InRun R n
  layout : 15 ≤ n → n ≤ 23 → InRun R n
  room : R n → InRun R n

-- from the grammar, from the length, from the header, or from the instructions
pub data Source (grammar s : List ℕ) (R : ℕ → Type 0) (n : ℕ) : Type 0 where
  the_grammar : well_formed grammar ≡ false → n ≡ 24 → Source grammar s R n
  the_length : 67108864 < length s → n ≡ 31 → Source grammar s R n
  the_header : 1 ≤ n → n ≤ 3 → Source grammar s R n
  instructions : InRun R n → Source grammar s R n

module _ {g : Grammar} (good : GrammarGood g) {c : Counts} (R : ℕ → Type 0) (I : Book → List ℕ → Type 0)
    (lacks : (b : Book) (at : ℕ) (rest : List ℕ) (z : Enters g b at rest) → I b rest → Fits c z false
    → R (room_fault c (with z).used))
    (goes : (b : Book) (at : ℕ) (rest : List ℕ) (z : Enters g b at rest) → I b rest → I (with z) z.behind) where
  -- the number that a run stops with
  stop_source : {b : Book} {at : ℕ} {rest : List ℕ} {n place v : ℕ} → Stops g c b at rest n place v → I b rest → InRun R n
  stop_source {b} (ends p) x = the_end b.state refl
  stop_source {b} {at} {rest} (unread y t p e) x =
      let z = subst (Frames g b.types at rest) e (instr_read g good b.types at rest) in
      reading z.0.0 z.0.1
  stop_source {b} (misplaced i t n p e f) x = let z = layout_refuses i.opcode n b.state f in layout z.0 z.1
  stop_source {b} {at} {rest} (crowded z e) x = room (lacks b at rest z x e)

  -- a run's number, where I holds as the run goes on, and where room lacks R holds of its number
  pub run_source : {h : List ℕ} {b : Book} {at : ℕ} {rest : List ℕ} {o : Outcome} → Run g c h b at rest o → I b rest
      → InRun R o.said.number
  run_source (stops n place v y) x = stop_source y x
  run_source {b} {at} {rest} (keeps z e run) x = run_source run (goes b at rest z x)

-- a load's number, where that of its run is known
pub load_source : {grammar : List ℕ} {c : Counts} {s : List ℕ} {o : Outcome} (R : ℕ → Type 0)
    → ((u : Outcome) → GrammarGood (grammar_of grammar) → ModuleRun grammar c s u → InRun R u.said.number) → Loads grammar c s o
    → Source grammar s R o.said.number
load_source R of-run (unformed e) = the_grammar e refl
load_source R of-run (overlong e) = the_length e refl
load_source R of-run (headless n at e f) = the_header e f
load_source R of-run (opens {o = u} b run) = instructions (of-run u (opens_good b) run)

-- the numbers of room
abbrev pub OfRoom : ℕ → Type 0
OfRoom n = (25 ≤ n) × (n ≤ 28)

-- room is refused with 25 to 28
pub room_number : (c need : Counts) → eqb (room_fault c need) 0 ≡ false → OfRoom (room_fault c need)
unfolding room_fault
room_number c need =
    by (ltb c.instructions need.instructions) (ltb c.log need.log) (ltb c.strings need.strings)
    (ltb c.types need.types)
  where
    fault : Bool → Bool → Bool → Bool → ℕ
    fault a b c d = if a then 25 else if b then 26 else if c then 27 else if d then 28 else 0

    by : (a b c d : Bool) → eqb (fault a b c d) 0 ≡ false → OfRoom (fault a b c d)
    by true b c d e = omega arith
    by false true c d e = omega arith
    by false false true d e = omega arith
    by false false false true e = omega arith
    by false false false false e = absurd (false≢true (sym e))

-- where every load's number comes from
pub load_from_lem : (grammar : List ℕ) (c : Counts) (s : List ℕ) → Source grammar s OfRoom (load grammar c s).said.number
load_from_lem grammar c s =
    load_source OfRoom
    (λ u good run. run_source good OfRoom (λ b rest. Unit) (λ b at rest z x e. room_number c (with z).used e)
    (λ b at rest z x. tt) run tt)
    (load_is grammar c s)

-- BOUNDS

-- the end of a load has 0, 16 or 21
end_number_lem : (s : State) → end_number s ≤ 21
end_number_lem Outside = omega arith
end_number_lem Function = omega arith
end_number_lem Block = omega arith

-- in a run all numbers but those of room are 23 or less
pub run_bound : {R : ℕ → Type 0} {n m : ℕ} → InRun R n → 23 ≤ m → (R n → n ≤ m) → n ≤ m
run_bound (the_end s e) h f = let g = end_number_lem s in omega arith
run_bound (reading d e) h f = omega arith
run_bound (layout d e) h f = omega arith
run_bound (room r) h f = f r

-- the numbers of a load: 0 to 28, and 31
abbrev pub OfLoad : ℕ → Type 0
OfLoad n = (n ≤ 28) ⊎ (n ≡ 31)

-- a number that comes from a load is one of them
pub source_number : {grammar s : List ℕ} {n : ℕ} → Source grammar s OfRoom n → OfLoad n
source_number (the_grammar e f) = inl (omega arith)
source_number (the_length e f) = inr f
source_number (the_header e f) = inl (omega arith)
source_number (instructions z) = inl (run_bound z (omega arith) (λ h. omega arith))
