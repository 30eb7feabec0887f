-- Laws of the loop: what is left of a load is the load from where it stands, and the stores hold the records of what is kept.
use Prim.Native.Nat.{ℕ, zero, suc, ◌+◌, ◌*◌, ◌-◌, ◌/◌, ◌<◌, ◌≤◌}
use mathlib.Core.Path.{◌≡◌, refl, ap, sym, subst, ◌∙◌}
use mathlib.Core.Bool.{Bool, true, false, ◌&&◌}
use mathlib.Core.List.{List, [], ◌∷◌, ◌++◌}
use native.Mathlib.Omega.{arith}
use native.Mathlib.Nat.{zero-add}
use borrow.Author.Tests.{lt-leb, eqb-true}
use lib.Dec.{eqb}
use lib.ListN.{length, drop, length-append, length-drop}
use lib.Seq.{sets, length-sets}
use Rattle.spec.specs.declared.Refusal.{Refusal}
use Rattle.spec.specs.declared.State.{State}
use Rattle.spec.specs.declared.State.TheVariants.{Outside}
use Rattle.spec.specs.declared.Counts.{Counts}
use Rattle.spec.specs.declared.Loaded.{Loaded}
use Rattle.spec.specs.declared.Fields.{Fields}
use Rattle.spec.specs.declared.Numbers.{Numbers}
use Rattle.std.specs.Prelude.{if◌then◌else◌}
use Rattle.spec.specs.Base.{has, joined}
use Rattle.spec.specs.Numbers.{no_numbers}
use Rattle.spec.specs.Records.{Instr, Placed, Entry, entry_words, operands_log, operands_strings, record_size, entry_size, fields_of, fields_from, record_words, records_with, numbered, instruction_store, log_from, string_store}
use Rattle.spec.specs.Reader.{got, refusal, reader_at}
use Rattle.spec.specs.Grammar.{Grammar, grammar_of}
use Rattle.spec.specs.Layout.{Cell, layout_of, end_number}
use Rattle.spec.specs.Types.{track}
use Rattle.spec.specs.Match.{read_instr}
use Rattle.spec.specs.Plain.{first_break, instr_break, kept_break, tail_break, module_break}
use Rattle.spec.proofs.Breaks.{kept_more}
use Rattle.spec.specs.Load.{room_of, room_fault, used_after, Covers, Book, empty_book, Outcome, stop, load_from, with_plain, Stores, lent, room_in, stores_of, laid_over, laid_on, roomed, on_book}
use Rattle.demands.proofs.Lists.{has_leb}
use Rattle.demands.proofs.Room.{fits_covers}
use Rattle.demands.proofs.Stores.{instructions_length, strings_more, log_more}
use Rattle.grammar.specs.Index.{Indexed}
use Rattle.numbers.specs.Counting.{step_of, counted, begun}
use Rattle.numbers.proofs.Laws.{onward_few}
use Rattle.tracker.specs.Entries.{entries_of, stored}
use Rattle.tracker.specs.Hints.{Blank}
use Rattle.tracker.specs.declared.TypeTracker.{TypeTracker}
use Rattle.tracker.proofs.Hinting.{hinted_none}
use Rattle.used.specs.Fresh.{unused}
use Rattle.steps.specs.declared.parts.Progress.{Progress}
use Rattle.steps.specs.declared.parts.Taken.{Taken}
use Rattle.steps.specs.Steps.{used_by, said_at, Bounded, Typed, tracked, need_of, Stored, Recorded}
use Rattle.loader.specs.Loading.{LoadsFrom}
use Rattle.steps.proofs.Judging.{placed_as, book_of, word_left, Admitted, Stops, log_size, strings_few, strings_size, tracked_is, need_is, fields_are, placed_is}
use Rattle.steps.proofs.Keeping.{log_short}
use Rattle.loader.proofs.Growing.{begun_with, begun_next, records_next, grow, entries_next, types_next}
use Rattle.std.specs.Prelude.{None, Ok}

-- THE DEFINITION, A STEP AT A TIME

module _ (g : Grammar) (room : Counts) (h s : List ℕ) (at : ℕ) where
  -- no word is left: the load ends
  load_ends : (n : ℕ) (b : Book) → length s - at < 4
      → load_from g room h n b (reader_at s at None) ≡ stop h b (end_number b.state) at 0
  unfolding load_from reader_at
  load_ends zero b end = refl
  load_ends (suc n) b end =
      let no_word : has 4 (drop at s) ≡ false = has_leb 4 (drop at s) ∙ lt-leb 4 (length (drop at s)) (simp length-drop end) in
      rw no_word

  -- an instruction behind which it goes on
  load_goes : (n : ℕ) (b : Book) (i : Instr) (to tag : ℕ) (next : State) (used : Counts) → 4 ≤ length s - at
      → read_instr g b.types (reader_at s at None) ≡ got i (reader_at s to None) → layout_of i.opcode b.state ≡ Ok (tag, next)
      → used_after b.used i (track i b.types) ≡ used → room_fault room used ≡ 0
      → load_from g room h (suc n) b (reader_at s at None)
      ≡ load_from g room h n (record { kept = b.kept ++ (placed_as i tag ∷ []); types = track i b.types; used = used; state = next })
      (reader_at s to None)
  unfolding load_from reader_at
  load_goes n b i to tag next used more read place u fits =
      rw (word_left s at more, read, place)
      (ap
      (λ (c : Counts).
      let e : Book = record { kept = b.kept ++ (placed_as i tag ∷ []); types = track i b.types; used = c; state = next } in
      on_book h b (roomed room i e (reader_at s to None)) (load_from g room h n))
      u
      ∙ rw fits)

-- THE INVARIANT

-- the load of the whole module is the load from where it stands, with enough fuel, the stores hold what is kept, and the hints are those
-- of the entries
pub record Running (s g : List ℕ) (room : Counts) (before now : Stores) (h₀ hs : List ℕ) (p : Progress) : Type 0 where
  pub kept : List Placed
  pub fuel : ℕ
  pub left : (h : List ℕ)
      → load_from (grammar_of g) (room_in before) h (length s / 4) empty_book (reader_at s 20 None)
      ≡ load_from (grammar_of g) room h fuel (book_of kept (entries_of p.tracker.count now.types) p) (reader_at s p.at None)
  pub enough : length s ≤ p.at + 4 * fuel + 3
  pub inside : p.at ≤ length s
  pub short : length s ≤ 67108864
  pub bounded : Bounded p
  pub room_is : room ≡ room_in before
  pub ninstructions : length kept ≡ p.instructions
  pub nlog : length (log_from 0 kept) ≡ p.log
  pub nstrings : length (string_store kept) ≡ p.strings
  pub numbers : p.numbers ≡ begun_with kept
  pub instructions_are : now.instructions ≡ sets before.instructions 0 (instruction_store kept)
  pub log_is : now.log ≡ sets before.log 0 (log_from 0 kept)
  pub strings_are : now.strings ≡ sets before.strings 0 (string_store kept)
  pub types_are : now.types ≡ stored before.types (entries_of p.tracker.count now.types)
  pub typed : Typed now.types hs p
  pub same_hints : length hs ≡ length h₀
  pub breaks : p.breaks ≡ kept_break s kept

-- an answer with what breaks the module, where it is accepted
abbrev plain_as : Bool → Loaded → ℕ → Loaded
plain_as t a b =
    record {
      number = a.number;
      offset = a.offset;
      index = a.index;
      value = a.value;
      header = a.header;
      counts = a.counts;
      plain = t && eqb b 0;
      breaks = if t then b else 0;
    }

-- at the start nothing is kept
pub start : (s g : List ℕ) (room : Counts) (before : Stores) (h₀ : List ℕ)
    → room ≡ room_of (length before.instructions) (length before.log) (length before.strings) (length before.types) → 20 ≤ length s → length s ≤ 67108864
    → (t : TypeTracker) (m : ℕ) → t ≡ record { count = 0; greatest = 0; marks = m } → m + 2048 ≤ length h₀ → Blank h₀
    → Running s g room before before h₀ h₀ (record { at = 20; instructions = 0; log = 0; strings = 0; tracker = t; numbers = no_numbers; state = Outside; breaks = 0 })
unfolding room_in entries_of begun_with begun counted instruction_store numbered records_with fields_from log_from string_store stored laid_over kept_break
start s g room before h₀ e few short t m q fits blank =
    rw q
    (record {
      kept = [];
      fuel = length s / 4;
      left = λ h. ap (λ (u : Counts). load_from (grammar_of g) u h (length s / 4) empty_book (reader_at s 20 None)) (sym e);
      enough = omega arith;
      inside = few;
      short = short;
      bounded = record { short = omega arith; few = omega arith; few_log = omega arith; few_strings = omega arith; few_functions = omega arith; few_blocks = omega arith };
      room_is = e;
      ninstructions = refl;
      nlog = refl;
      nstrings = refl;
      numbers = refl;
      instructions_are = refl;
      log_is = refl;
      strings_are = refl;
      types_are = refl;
      typed = record { inside = omega arith; hinted = hinted_none before.types h₀ 0 m fits blank };
      same_hints = refl;
      breaks = refl;
    })

-- an answer by whether it is accepted: what breaks is asked for only then
plain_same : (t : Bool) (a : Loaded) (b c tail : ℕ) → (t ≡ true → b ≡ c) → plain_as t a (first_break b tail) ≡ plain_as t a (first_break c tail)
plain_same true a b c tail f = ap (λ (i : ℕ). plain_as true a (first_break i tail)) (f refl)
plain_same false a b c tail f = refl

-- so of a refused load anything may be said to break
said_same : (h : List ℕ) (size : ℕ) (p : Progress) (y : Refusal) (b c : ℕ) → (y.number ≡ 0 → b ≡ c)
    → said_at h size (record { progress = p; refusal = y; breaks = b }) ≡ said_at h size (record { progress = p; refusal = y; breaks = c })
unfolding said_at
said_same h size p y b c f =
    plain_same (eqb y.number 0) (stop h (book_of [] [] p) y.number y.place y.value).said b c (tail_break size)
    (λ e. f (eqb-true y.number 0 e))

module _ {s g : List ℕ} {room : Counts} {before now : Stores} {h₀ hs : List ℕ} {p : Progress} (r : Running s g room before now h₀ hs p) where
  -- no store has changed its length
  pub same_instructions : length now.instructions ≡ length before.instructions
  same_instructions = ap length r.instructions_are ∙ length-sets before.instructions 0 (instruction_store r.kept)

  pub same_log : length now.log ≡ length before.log
  same_log = ap length r.log_is ∙ length-sets before.log 0 (log_from 0 r.kept)

  pub same_strings : length now.strings ≡ length before.strings
  same_strings = ap length r.strings_are ∙ length-sets before.strings 0 (string_store r.kept)

  pub same_types : length now.types ≡ length before.types
  unfolding stored laid_over
  same_types = ap length r.types_are ∙ length-sets before.types 0 (joined entry_words (entries_of p.tracker.count now.types))

  -- few instructions are kept
  pub few_kept : p.instructions < 67108864
  few_kept = omega (arith, r.bounded.few, r.bounded.short)

  -- THE END

  -- where the load stops, the answer and the stores say so
  stopped : (y : Refusal) (b : ℕ) → (y.number ≡ 0 → b ≡ p.breaks)
      → ((h : List ℕ)
      → load_from (grammar_of g) (room_in before) h (length s / 4) empty_book (reader_at s 20 None)
      ≡ stop h (book_of r.kept (entries_of p.tracker.count now.types) p) y.number y.place y.value)
      → LoadsFrom g s before now (record { progress = p; refusal = y; breaks = b })
  unfolding LoadsFrom said_at stores_of laid_on laid_over stored module_break
  stopped y b f e h =
      record {
        said =
            said_same h (length s) p y b (kept_break s r.kept) (λ z. f z ∙ r.breaks)
            ∙ sym (ap (λ (o : Outcome). (with_plain s o).said) (e h));
        stores = λ j.
            lent ((r.instructions_are ∙ sym (ap (λ (o : Outcome). sets before.instructions 0 (instruction_store o.left)) (e h))) j)
            ((r.log_is ∙ sym (ap (λ (o : Outcome). sets before.log 0 (log_from 0 o.left)) (e h))) j)
            ((r.strings_are ∙ sym (ap (λ (o : Outcome). sets before.strings 0 (string_store o.left)) (e h))) j)
            ((r.types_are ∙ sym (ap (λ (o : Outcome). sets before.types 0 (joined entry_words o.types)) (e h))) j);
      }

  -- no word is left
  pub ends : length s - p.at < 4 → (n : ℕ) → n ≡ end_number p.state
      → LoadsFrom g s before now (record { progress = p; refusal = refusal n p.at 0; breaks = p.breaks })
  ends end n e =
      let b = book_of r.kept (entries_of p.tracker.count now.types) p in
      stopped (refusal n p.at 0) p.breaks (λ z. refl)
      (λ h.
      r.left h ∙ load_ends (grammar_of g) room h s p.at r.fuel b end ∙ ap (λ (m : ℕ). stop h b m p.at 0) (sym e))

  module _ (more : 4 ≤ length s - p.at) where
    -- what is left, where there is fuel
    left_more : (h : List ℕ)
        → load_from (grammar_of g) (room_in before) h (length s / 4) empty_book (reader_at s 20 None)
        ≡ load_from (grammar_of g) room h (suc (r.fuel - 1)) (book_of r.kept (entries_of p.tracker.count now.types) p) (reader_at s p.at None)
    left_more h =
        let fuelled : r.fuel ≡ suc (r.fuel - 1) = omega (arith, r.enough) in
        r.left h
        ∙ ap (λ (n : ℕ). load_from (grammar_of g) room h n (book_of r.kept (entries_of p.tracker.count now.types) p) (reader_at s p.at None))
        fuelled

    -- the load stops at an instruction
    pub halts : (y : Refusal) → Stops s g now.types room p y
        → LoadsFrom g s before now (record { progress = p; refusal = y; breaks = 0 })
    halts y z = stopped y 0 (λ e. absurd (z.refuses e)) (λ h. left_more h ∙ z.stops h r.kept (r.fuel - 1) more)

-- AN INSTRUCTION THAT GOES IN

module _ {s g : List ℕ} {room : Counts} {before now : Stores} {h₀ hs : List ℕ} {p : Progress} {scratch spare : List ℕ} {t : Taken}
    (was : Running s g room before now h₀ hs p) (a : Admitted s g now.types scratch spare room p t) where
  -- the load stands where the instruction was taken
  pub here : Running s g room before now h₀ hs t.from
  here = subst (Running s g room before now h₀ hs) (sym a.from) was

  -- each store covers what is needed
  covered : Covers room (need_of t.from t.read (entries_of t.from.tracker.count now.types))
  covered = fits_covers _ _ a.fits

  -- log and strings have room
  pub operands_fit : (t.from.log + t.read.log ≤ length now.log) × (t.from.strings + t.read.strings ≤ length now.strings)
  unfolding room_in room_of need_of
  operands_fit = (
    omega (arith, covered.log, ap (λ (c : Counts). c.log) here.room_is, same_log here),
    omega (arith, covered.strings, ap (λ (c : Counts). c.strings) here.room_is, same_strings here),
  )

  -- so have the records
  pub record_fits : record_size * t.from.instructions + record_size ≤ length now.instructions
  unfolding room_in room_of need_of
  record_fits = omega (arith, covered.instructions, ap (λ (c : Counts). c.instructions) here.room_is, same_instructions here)

  -- and the type entries
  pub entries_fit : entry_size * length (tracked t.read (entries_of t.from.tracker.count now.types)) ≤ length now.types
  unfolding room_in room_of need_of
  entries_fit = omega (arith, covered.types, ap (λ (c : Counts). c.types) here.room_is, same_types here)

  module _ (word : 4 ≤ length s - p.at) where
    -- a word is left there
    pub more : 4 ≤ length s - t.from.at
    more = omega (arith, word, ap (λ (x : Progress). x.at) a.from)

    module _ {i₁ t₁ h₁ : List ℕ} {q : Progress} (k : Recorded now.instructions now.types i₁ t₁ h₁ t q) where
      -- the load comes nearer to the end
      pub fewer : length s - q.at < length s - p.at
      fewer = omega (arith, word, k.at, a.shown.handed.moves, ap (λ (x : Progress). x.at) a.from)

      -- one instruction more
      pub goes_on_lem : (index l₁ w₁ : List ℕ) → Indexed g index → Stored s g now.types now.log now.strings l₁ w₁ t.from
          → length h₁ ≡ length hs → Running s g room before (lent i₁ l₁ w₁ t₁) h₀ h₁ q
      unfolding need_of Stored stored laid_over unused
      goes_on_lem index l₁ w₁ ix st same =
          let f = t.from in
          let d = t.read in
          let h = a.shown.handed in
          let i = h.instr in
          let ks = here.kept in
          let pl = placed_as i t.tag in
          let es = entries_of f.tracker.count now.types in
          let laid = st i _ h.read in
          let tagged : State → Cell = λ x. Ok (t.tag, x) in
          let one = ap (λ (c : Counts). c.instructions) k.used in
          let logged = ap (λ (c : Counts). c.log) k.used in
          let strung = ap (λ (c : Counts). c.strings) k.used in
          let typed = ap (λ (c : Counts). c.types) k.used in
          let types_are : t₁ ≡ stored now.types (track i es) = k.types_are ∙ ap (stored now.types) (tracked_is a.shown es) in
          let count : length (track i es) ≡ q.tracker.count = ap length (sym (tracked_is a.shown es)) ∙ sym typed in
          let size : length t₁ ≡ length now.types = ap length k.types_are ∙ length-sets now.types 0 (joined entry_words (tracked d es)) in
          let fit : entry_size * q.tracker.count ≤ length before.types = omega (arith, entries_fit, typed, same_types here) in
          let en = entries_next before.types now.types t₁ f.tracker.count q.tracker.count i (same_types here) here.types_are types_are count fit in
          let strs : 0 + length (string_store ks) ≡ f.strings = zero-add (length (string_store ks)) ∙ here.nstrings in
          let logs : log_from 0 (ks ++ (pl ∷ [])) ≡ log_from 0 ks ++ operands_log f.strings i.operands =
          log_more 0 ks pl ∙ ap (λ (n : ℕ). log_from 0 ks ++ operands_log n i.operands) strs
          in
          let starts : 0 + length (log_from 0 ks) ≡ f.log = zero-add (length (log_from 0 ks)) ∙ here.nlog in
          let grown : (q.numbers.function ≤ f.numbers.function + 1) × (q.numbers.block ≤ f.numbers.block + 1) =
          rw k.numbers (unfold step_of in onward_few t.tag f.numbers)
          in
          let short-log = log_short g index ix es s f.at i _ f.strings h.read in
          record {
            kept = ks ++ (pl ∷ []);
            fuel = here.fuel - 1;
            left = λ z.
                left_more here more z
                ∙ load_goes (grammar_of g) room z s f.at (here.fuel - 1) (book_of ks es f) i q.at t.tag q.state (used_by q) more
                (h.read ∙ ap (λ (n : ℕ). got i (reader_at s n None)) (sym k.at))
                (placed_is a.shown _ a.placed ∙ ap tagged (sym k.state)) (sym (need_is a.shown es) ∙ sym k.used)
                (ap (room_fault room) k.used ∙ a.fits)
                ∙ ap
                (λ (fs : List Entry). load_from (grammar_of g) room z (here.fuel - 1) (book_of (ks ++ (pl ∷ [])) fs q) (reader_at s q.at None))
                en;
            enough = omega (arith, here.enough, k.at, h.moves);
            inside = omega (arith, k.at, h.inside);
            short = here.short;
            bounded =
                record {
                  short = omega (arith, k.at, h.inside, here.short);
                  few = omega (arith, here.bounded.few, k.at, h.moves, one);
                  few_log = omega (arith, here.bounded.few_log, short-log, log_size a.shown, h.words, k.at, logged);
                  few_strings = omega (arith, strings_few a.shown, k.at, strung);
                  few_functions = omega (arith, here.bounded.few_functions, grown.0, one);
                  few_blocks = omega (arith, here.bounded.few_blocks, grown.1, one);
                };
            room_is = here.room_is;
            ninstructions = length-append ks (pl ∷ []) ∙ omega (arith, here.ninstructions, one);
            nlog =
                ap length logs
                ∙ length-append (log_from 0 ks) (operands_log f.strings i.operands)
                ∙ omega (arith, here.nlog, log_size a.shown, logged);
            nstrings =
                ap length (strings_more ks pl)
                ∙ length-append (string_store ks) (operands_strings i.operands)
                ∙ omega (arith, here.nstrings, strings_size a.shown, strung);
            instructions_are =
                grow before.instructions now.instructions i₁ (instruction_store ks) (record_words (fields_of f.log pl) (step_of t.tag (begun_with ks)).own) _
                (record_size * f.instructions) here.instructions_are (instructions_length ks ∙ ap (λ (n : ℕ). record_size * n) here.ninstructions)
                (k.instructions_are
                ∙ ap (λ (z : Fields). sets now.instructions (record_size * f.instructions) (record_words z (step_of t.tag f.numbers).own)) (fields_are a.shown t.tag)
                ∙ ap
                (λ (n : Numbers). sets now.instructions (record_size * f.instructions) (record_words (fields_of f.log pl) (step_of t.tag n).own))
                here.numbers)
                (records_next ks pl f.log starts);
            numbers = k.numbers ∙ ap (λ (n : Numbers). (step_of t.tag n).begun) here.numbers ∙ sym (begun_next ks pl f.log starts);
            log_is = grow before.log now.log l₁ (log_from 0 ks) (operands_log f.strings i.operands) _ f.log here.log_is here.nlog laid.0 logs;
            strings_are =
                grow before.strings now.strings w₁ (string_store ks) (operands_strings i.operands) _ f.strings here.strings_are here.nstrings laid.1
                (strings_more ks pl);
            types_are = types_next before.types now.types t₁ f.tracker.count q.tracker.count i (same_types here) here.types_are types_are count fit;
            typed = record { inside = omega (arith, entries_fit, typed, size); hinted = k.hinted };
            same_hints = same ∙ here.same_hints;
            breaks =
                k.breaks ∙ h.breaks ∙ ap (λ (b : ℕ). first_break b (instr_break s i)) here.breaks ∙ sym (kept_more s ks pl);
          }
