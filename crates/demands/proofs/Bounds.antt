-- The numbers of a load's answer are small: its place lies in the module, and what is kept takes no more than the module's words may.
use Prim.Native.Nat.{ℕ, ◌+◌, ◌*◌, ◌-◌, ◌/◌, ◌≤◌, ◌<◌}
use mathlib.Core.Path.{◌≡◌, subst}
use mathlib.Core.Bool.{true}
use mathlib.Core.List.{List}
use native.Mathlib.Omega.{arith}
use borrow.Author.Tests.{ltb-true, ltb-false}
use lib.Dec.{ltb, eqb}
use lib.ListN.{length, take, drop, length-drop}
use Rattle.spec.specs.declared.HeaderRead.{HeaderRead}
use Rattle.spec.specs.declared.Counts.{Counts}
use Rattle.spec.specs.declared.Loaded.{Loaded}
use Rattle.spec.specs.Words.{words_of}
use Rattle.spec.specs.Reader.{reader}
use Rattle.spec.specs.Header.{magic_fault, header_from}
use Rattle.spec.specs.Grammar.{Grammar, grammar_of, well_formed}
use Rattle.spec.specs.Load.{Book, empty_book, Outcome, load_from, with_plain, load_with, load, Small}
use Rattle.spec.specs.Plain.{module_break}
use Rattle.spec.proofs.Breaks.{break_within}
use Rattle.demands.proofs.Choice.{either}
use Rattle.demands.proofs.Formed.{GrammarGood, well_formed_good}
use Rattle.demands.proofs.Instructions.{Frames, instr_read}
use Rattle.demands.proofs.Runs.{Stops, ends, unread, misplaced, crowded, Run, stops, keeps, entered_read, left_behind, runs}
use Rattle.demands.proofs.Room.{Held, held_none, held_more}
use Rattle.std.specs.Prelude.{None}

-- an answer of w words at most: its place is not past an end, and its counts are no more than those of w words
record Near (end w : ℕ) (x : Loaded) : Type 0 where
  offset : x.offset ≤ end
  index : x.index ≤ w + 1
  instructions : x.counts.instructions ≤ w
  log : x.counts.log ≤ 9 * w
  strings : x.counts.strings ≤ 4 * w
  types : x.counts.types ≤ w

module _ {g : Grammar} (good : GrammarGood g) {room : Counts} where
  -- a load stops at a place not past the bytes
  stop_near : {b : Book} {at : ℕ} {rest : List ℕ} {n place v : ℕ} → Stops g room b at rest n place v → place ≤ at + length rest
  stop_near (ends p) = omega arith
  stop_near {b} {at} {rest} (unread x t p e) =
      (subst (Frames g b.types at rest) e (instr_read g good b.types at rest)).1
  stop_near {b} {at} {rest} (misplaced i t n p e f) =
      omega (arith, (subst (Frames g b.types at rest) e (instr_read g good b.types at rest)).offset)
  stop_near (crowded z e) = omega (arith, (entered_read g good z).offset)

  -- what a run comes to
  run_near : {h : List ℕ} {b : Book} {at : ℕ} {rest : List ℕ} {o : Outcome} (end w : ℕ) → Run g room h b at rest o → Held w b rest
      → at + length rest ≤ end → Near end w o.said
  run_near end w (stops n place v x) k e = let p = stop_near x in omega arith
  run_near {b = b} {at = at} {rest = rest} end w (keeps z f run) k e =
      run_near end w run (held_more good b at rest z k) (omega (arith, left_behind g good z))

-- the place of a header's refusal lies in the header
header_near : (s : List ℕ) → (header_from s).refusal.place ≤ 20
unfolding header_from
header_near s =
    either (λ (h : HeaderRead). h.refusal.place ≤ 20) (ltb (length s) 20) _ _
    (λ e. let few = ltb-true (length s) 20 e in omega arith)
    (λ e. either (λ (h : HeaderRead). h.refusal.place ≤ 20) (eqb (magic_fault (words_of (take 20 s))) 0) _ _ (λ f. omega arith)
    (λ f. omega arith))

module _ (grammar : List ℕ) (formed : well_formed grammar ≡ true) (room : Counts) (s : List ℕ) (short : length s ≤ 67108864) where
  -- the answer of the instructions after a header
  instructions_small :
      let o = load_from (grammar_of grammar) room (header_from s).words (length s / 4) empty_book (reader 20 None (drop 20 s)) in
      Small (with_plain s o).said
  instructions_small =
      let o = load_from (grammar_of grammar) room (header_from s).words (length s / 4) empty_book (reader 20 None (drop 20 s)) in
      let good = well_formed_good grammar formed in
      let left = length-drop 20 s in
      let near = run_near good (20 + length s) (length s / 4 - 5)
      (runs (grammar_of grammar) good room (header_from s).words (length s / 4) empty_book 20 (drop 20 s) (omega arith)) (held_none s)
      (omega arith) in
      let breaks : (with_plain s o).said.breaks < 4294967296 =
      either (λ (n : ℕ). n < 4294967296) (eqb o.said.number 0) (module_break s o.kept) 0
      (λ e. omega (arith, break_within s o.kept)) (λ e. omega arith) in
      record {
        offset = omega arith;
        index = omega arith;
        instructions = omega arith;
        log = omega arith;
        strings = omega arith;
        types = omega arith;
        breaks = breaks;
      }

-- every load's answer is such
pub load_small : (grammar : List ℕ) (room : Counts) (s : List ℕ) → Small (load grammar room s).said
unfolding load load_with
load_small grammar room s =
    either (λ (o : Outcome). Small o.said) (well_formed grammar) _ _
    (λ f. either (λ (o : Outcome). Small o.said) (ltb 67108864 (length s)) _ _ (λ e. omega arith)
    (λ e. either (λ (o : Outcome). Small o.said) (eqb (header_from s).refusal.number 0) _ _
    (λ h. instructions_small grammar f room s (ltb-false 67108864 (length s) e)) (λ h. let near = header_near s in omega arith)))
    (λ f. omega arith)
