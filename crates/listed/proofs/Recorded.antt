-- The records of a load, read back: their lines are those of the instructions kept.
use Prim.Native.Nat.{ℕ, suc, ◌+◌, ◌*◌, ◌%◌, ◌≤◌, ◌<◌}
use mathlib.Core.Path.{◌≡◌, refl, ap, ap₂, ◌∙◌}
use mathlib.Core.List.{List, [], ◌∷◌, ◌++◌}
use native.Mathlib.Omega.{arith}
use native.Mathlib.Nat.{zero-add}
use borrow.Author.Tests.{lt-ltb, le-ltb}
use lib.Dec.{ltb}
use lib.ListN.{length, replicate, length-append}
use Rattle.spec.specs.declared.State.{State}
use Rattle.spec.specs.declared.Counts.{Counts}
use Rattle.spec.specs.declared.Loaded.{Loaded}
use Rattle.spec.specs.declared.Numbers.{Numbers}
use Rattle.spec.specs.Base.{ascii}
use Rattle.spec.specs.Builtin.{builtin}
use Rattle.spec.specs.Records.{Placed, record_size, entry_size, presence, fields_of, fields_from, field_words, fields_at, record_words, records_with, numbered, instruction_store, operands_log}
use Rattle.spec.specs.Load.{Outcome, enough, room_of, load, Stores, lent, laid_over, room_in}
use Rattle.spec.specs.Listing.{numbers_line, module_line, record_lines, last_line, outcome_text, listing}
use Rattle.spec.specs.Words.{AllBytes}
use Rattle.demands.proofs.Starts.{Loads as Starts, unformed, overlong, headless, opens, load_is}
use Rattle.demands.proofs.Kept.{Follow, last, leading}
use Rattle.demands.proofs.KeptSays.{taken_by, load_says}
use Rattle.demands.proofs.Returns.{kept_is, sure, module_read}
use Rattle.demands.proofs.Room.{load_covered}
use Rattle.demands.proofs.Leaves.{load_leaves}
use Rattle.demands.proofs.Stores.{fields_length, called_length}
use Rattle.listed.proofs.Sentences.{few_both, module_few, record_lines_few, last_few}
use Rattle.texts.specs.Wrote.{Wrote}
use Rattle.listed.specs.Lines.{record_line, lines_of}
use Rattle.loader.specs.Loading.{loading, Loads}

-- OPCODES

-- each instruction has an opcode of sixteen bits
unfoldable Short : List Placed → Type 0
Short [] = Unit
Short (p ∷ ps) = (p.instr.opcode < 65536) × Short ps

-- instructions that follow on are so
follow_short : {at : ℕ} {s e : State} {ps : List Placed} → Follow at s ps e → Short ps
unfolding Short
follow_short last = tt
follow_short (leading g o t f) = (g.opcode, follow_short f)

-- what a load keeps is so
load_short : (g : List ℕ) (room : Counts) (s : List ℕ) → AllBytes s → Short (load g room s).kept
unfolding Short
load_short g room s by = of (load_is g room s)
  where
    of : {o : Outcome} → Starts g room s o → Short o.kept
    of (unformed e) = tt
    of (overlong e) = tt
    of (headless n at e f) = tt
    of (opens {o = o} b run) =
        let r = module_read g room s b run in
        rw (kept_is g room s b o r) (follow_short (sure g room s b o r by).follow)

-- LINES

-- an opcode below the presence bits
opcode_low : (op bits : ℕ) → op < 65536 → (op + 65536 * bits) % 65536 ≡ op
opcode_low op bits h = omega arith

-- the lines of records with any numbers are those of their instructions
lines_with : (index start : ℕ) (ps : List Placed) (ns : List Numbers) (more : List ℕ) → length ns ≡ length ps → Short ps
    → lines_of index (length ps) (records_with (fields_from start ps) ns ++ more) ≡ record_lines index ps
unfolding Short lines_of fields_from records_with record_words field_words fields_at fields_of record_line record_lines
lines_with index start [] ns more e h = refl
lines_with index start (p ∷ ps) [] more e h = absurd (omega arith)
lines_with index start (p ∷ ps) (n ∷ ns) more e h =
    let next : ℕ = start + length (operands_log 0 p.instr.operands) in
    ap₂ (λ (op : ℕ) (ls : List ℕ). numbers_line (index ∷ p.instr.offset ∷ p.tag ∷ op ∷ p.instr.words ∷ []) ++ ls)
    (opcode_low p.instr.opcode (presence p.instr.result_type p.instr.result_id) h.0)
    (lines_with (suc index) next ps ns more (omega arith) h.1)

-- so are those of records read back
lines_back : (ps : List Placed) (more : List ℕ) → Short ps → lines_of 1 (length ps) (instruction_store ps ++ more) ≡ record_lines 1 ps
unfolding instruction_store numbered
lines_back ps more h = lines_with 1 0 ps _ more (called_length (fields_from 0 ps) ∙ fields_length 0 ps) h

-- THE WHOLE

-- a text written from the start
from_start : {a b : List ℕ} {r : ℕ} {text : List ℕ} → Wrote a b 0 r text → (r ≡ length text) × (b ≡ laid_over a text)
unfolding laid_over
from_start {text = text} w = (w.ends ∙ zero-add (length text), w.is)

-- a module that is too long
pub listing_long : {a b : List ℕ} {r : ℕ} (s : List ℕ) → 4096 < length s
    → Wrote a b 0 r (ascii "too long\n")
    → (r ≡ length (listing s)) × (b ≡ laid_over a (listing s))
unfolding listing
listing_long s h w = from_start (rw (lt-ltb 4096 (length s) h) w)

-- the stores of a listing have the room that suffices for 1,019 words
pub listing_room : room_in (lent (replicate (record_size * 1019) 0) (replicate (9 * 1019) 0) (replicate (4 * 1019) 0) (replicate (entry_size * 1019) 0)) ≡ enough 1019
unfolding room_in room_of enough
listing_room = refl

-- a load into stores with that room
module _ {s : List ℕ} {t u : Stores} {x : Loaded} (room : room_in t ≡ enough 1019) (l : Loads s builtin t u x) where
  -- at most 1,019 instructions are kept
  pub kept_few : x.counts.instructions ≤ 1019
  unfolding loading enough
  kept_few = rw (l.leaves.said, room) (load_covered builtin (enough 1019) s).instructions

  -- the listing, by the load's answer and its instruction records
  pub listing_is : {a b : List ℕ} {r : ℕ} → length s ≤ 4096
      → Wrote a b 0 r (module_line x.header ++ lines_of 1 x.counts.instructions u.instructions ++ last_line x)
      → (r ≡ length (listing s)) × (b ≡ laid_over a (listing s))
  unfolding loading listing outcome_text taken_by
  listing_is h w =
      let o : Outcome = load builtin (room_in t) s in
      let count : x.counts.instructions ≡ length o.kept =
      ap (λ (y : Loaded). y.counts.instructions) l.leaves.said
      ∙ ap (λ (n : Counts). n.instructions) (load_says builtin (room_in t) s).counts in
      let stored = ap (λ (v : Stores). v.instructions) l.leaves.stores ∙ (load_leaves builtin s t).instructions in
      let lines : lines_of 1 x.counts.instructions u.instructions ≡ record_lines 1 o.kept =
      ap₂ (lines_of 1) count stored ∙ lines_back o.kept _ (load_short builtin (room_in t) s l.bytes) in
      from_start (rw (le-ltb 4096 (length s) h, ← room, ← lines, ← l.leaves.said) w)

-- a listing has at most 107,142 bytes
listing_few : (s : List ℕ) → length (listing s) ≤ 107142
unfolding listing outcome_text taken_by enough
listing_few s =
    let o : Outcome = load builtin (enough 1019) s in
    let kept : o.said.counts.instructions ≡ length o.kept = ap (λ (n : Counts). n.instructions) (load_says builtin (enough 1019) s).counts in
    few_both (ltb 4096 (length s)) 107142 _ _ (omega arith)
    (simp length-append
    (omega (
      arith,
      module_few o.said.header,
      record_lines_few 1 o.kept,
      last_few o.said,
      (load_covered builtin (enough 1019) s).instructions,
    )))

-- and so has its length, as a call answers it
pub listing_size : (r : ℕ) (s : List ℕ) → r ≡ length (listing s) → r ≤ 107142
listing_size r s e = omega (arith, listing_few s)
