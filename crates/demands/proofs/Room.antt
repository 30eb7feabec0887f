-- The room that always suffices: "With W whole words after the header, W instruction records, 9W log bytes, 4W string bytes and W
-- type entries"; and what is kept never goes past the room.
use Prim.Native.Nat.{ℕ, suc, ◌+◌, ◌-◌, ◌*◌, ◌/◌, ◌≤◌}
use native.Mathlib.Omega.{arith}
use mathlib.Core.Path.{◌≡◌, refl, sym, ◌∙◌}
use mathlib.Core.Bool.{Bool, true, false, false≢true}
use mathlib.Core.List.{List, [], ◌∷◌}
use Rattle.std.specs.Prelude.{Option, None, Some}
use borrow.Author.Tests.{eqb-true, eqb-false, ltb-false, lt-leb, le-ltb}
use lib.Dec.{ltb, eqb}
use lib.ListN.{length, drop, length-drop, length-append}
use Rattle.spec.specs.declared.Counts.{Counts}
use Rattle.std.specs.Prelude.{if◌then◌else◌}
use Rattle.spec.specs.Base.{within}
use Rattle.spec.specs.Words.{bytes_of}
use Rattle.spec.specs.Records.{Operand, narrow, wide, text, Instr, Entry, entry, operand_size, operands_size, operand_log, operand_string, operands_log}
use Rattle.spec.specs.Grammar.{Grammar, well_formed}
use Rattle.spec.specs.Types.{is_type, define, entry_of, literal_int, define_int, define_float, track_int, track_float, inherit, track_value, track_result, track}
use Rattle.spec.specs.Load.{enough, room_fault, Book, empty_book, Outcome, load, Covers, lacks_room}
use Rattle.demands.proofs.Choice.{either}
use Rattle.demands.proofs.Stores.{strings_short}
use Rattle.demands.proofs.Formed.{GrammarGood}
use Rattle.demands.proofs.Runs.{Enters, with, Run, stops, keeps, entered_read, left_behind}
use Rattle.demands.proofs.Starts.{Loads, unformed, overlong, headless, opens, load_is}
use Rattle.demands.proofs.Numbers.{Source, the_grammar, the_length, the_header, instructions, run_source, load_source, run_bound}

-- ROOM

-- no store lacks room where it covers what is needed
covers_fits : (room need : Counts) → Covers room need → room_fault room need ≡ 0
unfolding room_fault
covers_fits room need c =
    rw (
      le-ltb room.instructions need.instructions c.instructions,
      le-ltb room.log need.log c.log,
      le-ltb room.strings need.strings c.strings,
      le-ltb room.types need.types c.types,
    )

-- a number chosen by a test is 0 only where the test fails
chosen_zero : (c : Bool) (n m : ℕ) → (if c then suc n else m) ≡ 0 → (c ≡ false) × (m ≡ 0)
chosen_zero true n m e = absurd (omega arith)
chosen_zero false n m e = (refl, e)

-- and only then
pub fits_covers : (room need : Counts) → room_fault room need ≡ 0 → Covers room need
unfolding room_fault
fits_covers room need e =
    let a = chosen_zero (ltb room.instructions need.instructions) 24 _ e in
    let b = chosen_zero (ltb room.log need.log) 25 _ a.1 in
    let c = chosen_zero (ltb room.strings need.strings) 26 _ b.1 in
    let d = chosen_zero (ltb room.types need.types) 27 _ c.1 in
    record {
      instructions = ltb-false _ _ a.0;
      log = ltb-false _ _ b.0;
      strings = ltb-false _ _ c.0;
      types = ltb-false _ _ d.0;
    }

-- what a run keeps never goes past the room
run_covered : {g : Grammar} {room : Counts} {h : List ℕ} {b : Book} {at : ℕ} {rest : List ℕ} {o : Outcome}
    → Run g room h b at rest o → Covers room b.used → Covers room o.said.counts
run_covered (stops n place v x) c = c
run_covered {room = room} (keeps z e run) c =
    run_covered run (fits_covers room (with z).used (eqb-true (room_fault room (with z).used) 0 e))

-- nor what a load keeps
pub load_covered : (grammar : List ℕ) (room : Counts) (s : List ℕ) → Covers room (load grammar room s).said.counts
load_covered grammar room s = by (load_is grammar room s)
  where
    by : {o : Outcome} → Loads grammar room s o → Covers room o.said.counts
    by (unformed e) = omega arith
    by (overlong e) = omega arith
    by (headless n at e f) = omega arith
    by (opens b run) = run_covered run (omega arith)

-- LOG AND STRINGS

-- an operand takes at most nine bytes of the log for each of its words
log_one : (a : ℕ) (o : Operand) → length (operand_log a o) ≤ 9 * operand_size o
unfolding operand_log operand_size bytes_of
log_one a (narrow k v) = omega arith
log_one a (wide k v) = omega arith
log_one a (text s) = omega arith

-- so do some operands
pub log_some : (a : ℕ) (os : List Operand) → length (operands_log a os) ≤ 9 * operands_size os
unfolding operands_log operands_size
log_some a [] = omega arith
log_some a (o ∷ os) =
    let h = log_one a o in
    let i = log_some (a + length (operand_string o)) os in
    simp length-append (omega arith)

-- TYPES

-- an entry more at most
record OneMore (es fs : List Entry) : Type 0 where
  most : length fs ≤ length es + 1

-- none more
same_more : (es : List Entry) → OneMore es es
same_more es = omega arith

-- a definition
define_more : (i w s : ℕ) (es : List Entry) → OneMore es (define i w s es)
unfolding define
define_more i w s [] = omega arith
define_more i w s (entry id x y ∷ es) =
    let more = define_more i w s es in
    either (OneMore (entry id x y ∷ es)) (eqb id i) _ _ (λ e. omega arith) (λ e. omega arith)

-- a width and a sign, or one lacks
int_more : (i : ℕ) (w sign : Option ℕ) (es : List Entry) → OneMore es (define_int i w sign es)
int_more i (Some w) (Some sign) es = define_more i w (if eqb sign 1 then 2 else 1) es
int_more i (Some w) None es = same_more es
int_more i None sign es = same_more es

-- a width, or none
float_more : (i : ℕ) (w : Option ℕ) (es : List Entry) → OneMore es (define_float i w es)
float_more i (Some w) es = define_more i w 3 es
float_more i None es = same_more es

-- OpTypeInt
track_int_more : (i : ℕ) (os : List Operand) (es : List Entry) → OneMore es (track_int i os es)
track_int_more i [] es = same_more es
track_int_more i (w ∷ []) es = same_more es
track_int_more i (w ∷ sign ∷ os) es = int_more i (literal_int w) (literal_int sign) es

-- OpTypeFloat
track_float_more : (i : ℕ) (os : List Operand) (es : List Entry) → OneMore es (track_float i os es)
track_float_more i [] es = same_more es
track_float_more i (w ∷ os) es = float_more i (literal_int w) es

-- the entry of a result type, or none
inherit_more : (i : ℕ) (e : Option Entry) (es : List Entry) → OneMore es (inherit i e es)
inherit_more i None es = same_more es
inherit_more i (Some (entry id w s)) es = define_more i w s es

-- a result that is no type
value_more : (i : ℕ) (t : Option ℕ) (es : List Entry) → OneMore es (track_value i t es)
value_more i None es = same_more es
value_more i (Some t) es = inherit_more i (entry_of t es) es

-- a result, or none
result_more : (op : ℕ) (t i : Option ℕ) (os : List Operand) (es : List Entry) → OneMore es (track_result op t i os es)
result_more op t None os es = same_more es
result_more op t (Some i) os es =
    either (OneMore es) (is_type op) _ _
    (λ e. either (OneMore es) (eqb op 21) _ _ (λ e. track_int_more i os es)
    (λ e. either (OneMore es) (eqb op 22) _ _ (λ e. track_float_more i os es) (λ e. same_more es)))
    (λ e. value_more i t es)

-- an instruction adds an entry at most
track_more : (i : Instr) (es : List Entry) → OneMore es (track i es)
unfolding track
track_more i es = result_more i.opcode i.result_type i.result_id i.operands es

-- WHAT IS KEPT

-- what is kept takes no more than its words may, and they and the words left are w at most
pub record Held (w : ℕ) (b : Book) (rest : List ℕ) : Type 0 where
  pub words : ℕ
  pub fits : words + length rest / 4 ≤ w
  pub instructions : b.used.instructions ≤ words
  pub log : b.used.log ≤ 9 * words
  pub strings : b.used.strings ≤ 4 * words
  pub types : length b.types ≤ words
  pub entries : b.used.types ≤ words

-- nothing is kept
pub held_none : (s : List ℕ) → Held (length s / 4 - 5) empty_book (drop 20 s)
held_none s =
    let e = length-drop 20 s in
    record {
      words = 0;
      fits = omega arith;
      instructions = omega arith;
      log = omega arith;
      strings = omega arith;
      types = omega arith;
      entries = omega arith;
    }

module _ {g : Grammar} (good : GrammarGood g) {w : ℕ} (b : Book) (at : ℕ) (rest : List ℕ) (z : Enters g b at rest)
    (k : Held w b rest) where
  -- an instruction more takes no more than its words more
  pub held_more : Held w (with z) z.behind
  held_more =
      let i = z.instr in
      let size = (entered_read g good z).count in
      let left = left_behind g good z in
      let logged = log_some 0 i.operands in
      let stored = strings_short i.operands in
      let typed = track_more i b.types in
      record {
        words = k.words + i.words;
        fits = omega arith;
        instructions = omega arith;
        log = omega arith;
        strings = omega arith;
        types = omega arith;
        entries = omega arith;
      }

  -- so there is room for it
  held_fits : (room : Counts) → Covers room (enough w) → room_fault room (with z).used ≡ 0
  unfolding enough
  held_fits room c = let m = held_more in covers_fits room (with z).used (omega arith)

-- THE ROOM THAT SUFFICES

-- no number at all
abbrev Never : ℕ → Type 0
Never n = ⊥

module _ (grammar : List ℕ) (room : Counts) (s : List ℕ) (c : Covers room (enough (length s / 4 - 5))) where
  -- no number comes from the room
  roomy_source : Source grammar s Never (load grammar room s).said.number
  roomy_source =
      load_source Never
      (λ u good run. run_source good Never (Held (length s / 4 - 5))
      (λ b at rest z k e. absurd (eqb-false (room_fault room (with z).used) 0 e (held_fits good b at rest z k room c)))
      (held_more good) run (held_none s))
      (load_is grammar room s)

  -- the number is never 25, 26, 27 or 28
  pub load_roomy : lacks_room (load grammar room s).said ≡ false
  load_roomy = by roomy_source
    where
      below : (n : ℕ) → n ≤ 24 → within 25 n 28 ≡ false
      below n h = rw (lt-leb 25 n (omega arith))

      by : {n : ℕ} → Source grammar s Never n → within 25 n 28 ≡ false
      by {n} (the_grammar e f) = below n (omega arith)
      by (the_length e f) = rw f
      by {n} (the_header e f) = below n (omega arith)
      by {n} (instructions z) = below n (run_bound z (omega arith) (λ x. absurd x))

  -- and with a well-formed grammar and a module that is not too long it is 0 to 23
  pub load_low : well_formed grammar ≡ true → length s ≤ 67108864 → (load grammar room s).said.number ≤ 23
  load_low g l = by roomy_source
    where
      by : {n : ℕ} → Source grammar s Never n → n ≤ 23
      by (the_grammar e f) = absurd (false≢true (sym e ∙ g))
      by (the_length e f) = absurd (omega (arith, e, l))
      by (the_header e f) = omega arith
      by (instructions z) = run_bound z (omega arith) (λ x. absurd x)
