-- A module again: cut where the instructions kept end it loads to the same records and ends there, and so do the bytes written for
-- them.
use Prim.Native.Nat.{ℕ, ◌+◌, ◌*◌, ◌/◌, ◌%◌, ◌<◌, ◌≤◌}
use native.Mathlib.Omega.{arith}
use mathlib.Core.Path.{◌≡◌, refl, ap, sym, ◌∙◌}
use mathlib.Core.Bool.{Bool, true, false, true≢false}
use mathlib.Core.List.{List, ◌++◌, append-nil}
use borrow.Author.Tests.{eq-eqb, eqb-true}
use lib.Dec.{eqb}
use lib.ListN.{length, take, drop, length-append, length-drop, take-append-drop}
use lib.Seq.{take-add, take_at, length-take-le}
use Rattle.spec.specs.declared.State.{State}
use Rattle.spec.specs.declared.Counts.{Counts}
use Rattle.std.specs.Prelude.{if◌then◌else◌}
use Rattle.spec.specs.Base.{joined}
use Rattle.spec.specs.Words.{bytes_of, AllBytes}
use Rattle.spec.specs.Records.{Placed}
use Rattle.spec.specs.Header.{header_from}
use Rattle.spec.specs.Grammar.{grammar_of}
use Rattle.spec.specs.Layout.{end_number}
use Rattle.spec.specs.Load.{empty_book, Outcome, Same, with_plain, load, stores_of}
use Rattle.spec.specs.Plain.{kept_break, tail_break, module_break}
use Rattle.spec.proofs.Breaks.{first_none, neither}
use Rattle.spec.specs.Write.{bytes_of_all, parse_bytes}
use Rattle.demands.proofs.Choice.{left, right}
use Rattle.demands.proofs.Bytes.{all_append, all_left, all_take, all_drop, bytes_words}
use Rattle.demands.proofs.Lists.{nil_of}
use Rattle.demands.proofs.Runs.{Run}
use Rattle.demands.proofs.Starts.{header_is, Opens, opens_good, ModuleRun, Loads, unformed, overlong, headless, opens, load_is, load_after}
use Rattle.demands.proofs.Kept.{words_in, end_at, RunSure, RunRead, run_read}

-- where the instructions kept end
abbrev pub end_of : Outcome → ℕ
end_of o = 20 + 4 * words_in o.kept

-- the same records and counts, and the end of the load where they end: 0, 16 or 21 by the state; nothing is said of plain
abbrev pub ended : State → Outcome → Outcome
ended q o =
    record {
      said =
          record {
            number = end_number q;
            offset = end_of o;
            index = o.said.index;
            value = 0;
            header = o.said.header;
            counts = o.said.counts;
            plain = false;
            breaks = 0;
          };
      kept = o.kept;
      left = o.left;
      types = o.types;
    }

module _ (grammar : List ℕ) (room : Counts) (s : List ℕ) (b : Opens grammar s) (o : Outcome)
    (r : RunRead (grammar_of grammar) room (header_from s).words empty_book 20 (drop 20 s) o) where
  -- the header's words
  abbrev words : List ℕ
  words = (header_from s).words

  -- the instructions kept
  pub kept_is : o.kept ≡ r.new
  kept_is = ap (λ (x : Outcome). x.kept) r.stopped ∙ r.kept

  -- the same records, and the end where they end
  ended_is : ended r.book.state o ≡ end_at words r.book (20 + 4 * words_in r.new)
  ended_is = λ j.
      record {
        said =
            record {
              number = end_number r.book.state;
              offset = 20 + 4 * words_in (kept_is j);
              index = (r.stopped j).said.index;
              value = 0;
              header = (r.stopped j).said.header;
              counts = (r.stopped j).said.counts;
              plain = false;
              breaks = 0;
            };
        kept = (r.stopped j).kept;
        left = (r.stopped j).left;
        types = (r.stopped j).types;
      }

  -- the header's bytes are there
  headed : 20 ≤ length s
  headed = ((header_is s).there b.header).0

  -- and those that the instructions were read from
  pub all_long : length s ≡ 20 + 4 * words_in r.new + length r.behind
  all_long =
      let rest : length (drop 20 s) ≡ length r.from + length r.behind =
      ap length r.takes ∙ length-append r.from r.behind in
      omega (arith, headed, r.whole, length-drop 20 s)

  -- bytes after the header that the same instructions are read from load to the same records
  loads_back : (z : List ℕ) → length z ≡ 4 * words_in r.new
      → Run (grammar_of grammar) room words empty_book 20 z (end_at words r.book (20 + 4 * words_in r.new))
      → load grammar room (take 20 s ++ z) ≡ with_plain (take 20 s ++ z) (ended r.book.state o)
  loads_back z e run = load_after grammar room s b z (omega (arith, all_long)) run ∙ ap (with_plain (take 20 s ++ z)) (sym ended_is)

  -- THE CUT

  -- the module cut where they end
  cut_is : take (end_of o) s ≡ take 20 s ++ r.from
  cut_is =
      ap (λ (ps : List Placed). take (20 + 4 * words_in ps) s) kept_is ∙ take-add 20 (4 * words_in r.new) s
      ∙ ap (λ (l : List ℕ). take 20 s ++ take (4 * words_in r.new) l) r.takes
      ∙ ap (λ (l : List ℕ). take 20 s ++ l) (take_at r.from r.behind (4 * words_in r.new) r.whole)

  -- loads so
  cut_loads : load grammar room (take (end_of o) s) ≡ with_plain (take (end_of o) s) (ended r.book.state o)
  cut_loads =
      ap (load grammar room) cut_is ∙ loads_back r.from r.whole r.again
      ∙ ap (λ (l : List ℕ). with_plain l (ended r.book.state o)) (sym cut_is)

  -- WHAT IS WRITTEN

  module _ (by : AllBytes s) where
    -- what is sure of the instructions
    pub sure : RunSure (grammar_of grammar) room words empty_book 20 r.new r.book r.from (bytes_of_all r.new)
    sure = r.sure (all_left r.from r.behind (rw r.takes at (all_drop 20 s by)))

    -- the bytes written in parse order
    written_is : parse_bytes o.said.header o.kept ≡ take 20 s ++ bytes_of_all r.new
    unfolding parse_bytes
    written_is =
        let header : o.said.header ≡ words = ap (λ (x : Outcome). x.said.header) r.stopped in
        let head : joined bytes_of words ≡ take 20 s =
        ap (joined bytes_of) ((header_is s).there b.header).1
        ∙ bytes_words (take 20 s) 5 (all_take 20 s by) (length-take-le 20 s headed) in
        rw (header, kept_is, head)

    -- load so
    written_loads : load grammar room (take 20 s ++ bytes_of_all r.new)
        ≡ with_plain (take 20 s ++ bytes_of_all r.new) (ended r.book.state o)
    written_loads = loads_back (bytes_of_all r.new) sure.long sure.back

    module _ (z : o.said.number ≡ 0) where
      -- where the load is accepted, less than a word is left
      few_left : length r.behind < 4
      few_left = (r.accepted z).0

      -- the bytes written load to the same
      accepted_loads : load grammar room (take 20 s ++ bytes_of_all r.new) ≡ with_plain (take 20 s ++ bytes_of_all r.new) o
      accepted_loads =
          written_loads ∙ ap (with_plain (take 20 s ++ bytes_of_all r.new)) (ended_is ∙ sym (r.accepted z).2)

      -- they are as many as the whole words
      written_long : length (take 20 s ++ bytes_of_all r.new) ≡ 4 * (length s / 4)
      written_long =
          length-append (take 20 s) (bytes_of_all r.new)
          ∙ omega (arith, length-take-le 20 s headed, sure.long, all_long, few_left)

      -- they are plain
      written_plain : (with_plain (take 20 s ++ bytes_of_all r.new) o).said.plain ≡ true
      unfolding module_break tail_break
      written_plain =
          let whole : length (take 20 s ++ bytes_of_all r.new) % 4 ≡ 0 = omega (arith, written_long) in
          let kept : kept_break (take 20 s ++ bytes_of_all r.new) o.kept ≡ 0 =
          ap (kept_break (take 20 s ++ bytes_of_all r.new)) kept_is ∙ sure.plain (take 20 s) (length-take-le 20 s headed) in
          rw (eq-eqb o.said.number 0 z, first_none _ _ kept, eq-eqb (length (take 20 s ++ bytes_of_all r.new) % 4) 0 whole)

      -- and the module, where it is plain
      plain_written : (length s % 4 ≡ 0) → kept_break s o.kept ≡ 0 → s ≡ take 20 s ++ bytes_of_all r.new
      plain_written even all =
          let none_left_lem : length r.behind ≡ 0 = omega (arith, all_long, few_left) in
          let whole : drop 20 s ≡ r.from =
          r.takes ∙ ap (λ (l : List ℕ). r.from ++ l) (nil_of r.behind none_left_lem) ∙ append-nil r.from in
          let split : s ≡ take 20 s ++ (r.from ++ r.behind) =
          sym (take-append-drop 20 s) ∙ ap (λ (l : List ℕ). take 20 s ++ l) r.takes in
          let plain : kept_break (take 20 s ++ (r.from ++ r.behind)) r.new ≡ 0 = rw (← split, ← kept_is) all in
          sym (take-append-drop 20 s)
          ∙ ap (λ (l : List ℕ). take 20 s ++ l) (whole ∙ sure.exact (take 20 s) r.behind (length-take-le 20 s headed) plain)

-- LOADS

module _ (grammar : List ℕ) (room : Counts) (s : List ℕ) where
  -- how a module that comes to its instructions is read
  pub module_read : {o : Outcome} (b : Opens grammar s) → ModuleRun grammar room s o
      → RunRead (grammar_of grammar) room (header_from s).words empty_book 20 (drop 20 s) o
  module_read b run = run_read (grammar_of grammar) (opens_good b) room (header_from s).words run

  -- by what became of the load
  cut_of : {o : Outcome} → Loads grammar room s o → 1 ≤ o.said.index
      → (q : State) × (load grammar room (take (end_of o) s) ≡ with_plain (take (end_of o) s) (ended q o))
  cut_of (unformed e) h = absurd (omega arith)
  cut_of (overlong e) h = absurd (omega arith)
  cut_of (headless n at e f) h = absurd (omega arith)
  cut_of (opens {o = o} b run) h = let r = module_read b run in (r.book.state, cut_loads grammar room s b o r)

  -- cut where the instructions kept end, a module loads to the same records and ends there
  pub load_cut : 1 ≤ (load grammar room s).said.index
      → let o = load grammar room s in
      (q : State) × (load grammar room (take (end_of o) s) ≡ with_plain (take (end_of o) s) (ended q o))
  load_cut h = cut_of (load_is grammar room s) h

-- the records are the same, whatever is said of plain
same_stores : (s t : List ℕ) (o : Outcome) → stores_of (with_plain s o) ≡ stores_of (with_plain t o)
unfolding stores_of
same_stores s t o = refl

-- what a plain module has: its load is accepted, and neither an instruction nor a tail breaks it
plain_parts : (s : List ℕ) (o : Outcome) → (with_plain s o).said.plain ≡ true
    → (o.said.number ≡ 0) × (kept_break s o.kept ≡ 0) × (tail_break (length s) ≡ 0)
unfolding module_break
plain_parts s o p =
    let accepts : Bool = eqb o.said.number 0 in
    let None : Bool = eqb (module_break s o.kept) 0 in
    let both = neither (kept_break s o.kept) (tail_break (length s)) (eqb-true (module_break s o.kept) 0 (right accepts None p)) in
    (eqb-true o.said.number 0 (left accepts None p), both.0, both.1)

-- a module with a word or more has no tail where none breaks it
no_tail : (n : ℕ) → 4 ≤ n → tail_break n ≡ 0 → n % 4 ≡ 0
unfolding tail_break
no_tail n h = by (eqb (n % 4) 0) refl
  where
    by : (t : Bool) → eqb (n % 4) 0 ≡ t → (if t then 0 else 4 * (n / 4)) ≡ 0 → n % 4 ≡ 0
    by true e f = eqb-true (n % 4) 0 e
    by false e f = absurd (omega arith)

-- only an accepted module is plain
pub accepts_plain : {grammar : List ℕ} {room : Counts} {s : List ℕ} {o : Outcome} → Loads grammar room s o → o.said.plain ≡ true
    → o.said.number ≡ 0
accepts_plain (unformed e) p = absurd (true≢false (sym p))
accepts_plain (overlong e) p = absurd (true≢false (sym p))
accepts_plain (headless n at e f) p = absurd (true≢false (sym p))
accepts_plain {s = s} (opens {o = o} b run) p = (plain_parts s o p).0

-- what bytes bs are to an accepted module: they load to the same records, are as long as its whole words, are bytes, and are plain;
-- and they are the module where it is plain
pub record Returns (grammar : List ℕ) (room : Counts) (s : List ℕ) (o : Outcome) (bs : List ℕ) : Type 0 where
  pub loads : Same (load grammar room bs) o
  pub stores : stores_of (load grammar room bs) ≡ stores_of o
  pub long : length bs ≡ 4 * (length s / 4)
  pub bytes : AllBytes bs
  pub plain : (load grammar room bs).said.plain ≡ true
  pub exact : o.said.plain ≡ true → s ≡ bs

-- such are the bytes written for it in parse order
pub load_returns : (grammar : List ℕ) (room : Counts) (s : List ℕ) → AllBytes s → (load grammar room s).said.number ≡ 0
    → let o = load grammar room s in Returns grammar room s o (parse_bytes o.said.header o.kept)
load_returns grammar room s by z = of (load_is grammar room s) z
  where
    of : {o : Outcome} → Loads grammar room s o → o.said.number ≡ 0
        → Returns grammar room s o (parse_bytes o.said.header o.kept)
    of (unformed e) z = absurd (omega arith)
    of (overlong e) z = absurd (omega arith)
    of (headless n at e f) z = absurd (omega arith)
    of (opens {o = o} b run) z =
        let r = module_read grammar room s b run in
        let is = written_is grammar room s b o r by in
        let loads = ap (load grammar room) is ∙ accepted_loads grammar room s b o r by z in
        record {
          loads =
              record {
                header = ap (λ (x : Outcome). x.said.header) loads;
                kept = ap (λ (x : Outcome). x.kept) loads;
                types = ap (λ (x : Outcome). x.types) loads;
                counts = ap (λ (x : Outcome). x.said.counts) loads;
              };
          stores = ap stores_of loads ∙ same_stores _ s o;
          long = ap length is ∙ written_long grammar room s b o r by z;
          bytes = rw is (all_append (take 20 s) _ (all_take 20 s by) (sure grammar room s b o r by).bytes);
          plain = ap (λ (x : Outcome). x.said.plain) loads ∙ written_plain grammar room s b o r by z;
          exact = λ p.
              let parts = plain_parts s o p in
              let words : 4 ≤ length s = omega (arith, headed grammar room s b o r) in
              plain_written grammar room s b o r by z (no_tail (length s) words parts.2) parts.1 ∙ sym is;
        }
