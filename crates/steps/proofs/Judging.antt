-- Laws of an instruction before anything is kept: decoded, then placed, then given room.
use Prim.Native.Nat.{ℕ, suc, ◌+◌, ◌*◌, ◌-◌, ◌≤◌}
use mathlib.Core.Path.{◌≡◌, refl, ap, sym, subst, ◌∙◌}
use mathlib.Core.Bool.{Bool, true, false}
use mathlib.Core.List.{List}
use native.Mathlib.Omega.{arith}
use borrow.Author.Tests.{eqb-true, eqb-false, ne_eqb, le-ltb, le-leb}
use lib.Dec.{eqb}
use lib.ListN.{length, drop, length-drop}
use Rattle.spec.specs.declared.Refusal.{Refusal}
use Rattle.spec.specs.declared.State.{State}
use Rattle.spec.specs.declared.Counts.{Counts}
use Rattle.spec.specs.declared.Fields.{Fields}
use Rattle.std.specs.Prelude.{if◌then◌else◌}
use Rattle.spec.specs.Base.{or_zero, has}
use Rattle.spec.specs.Records.{Instr, Placed, Entry, operands_log, operands_strings, presence, fields_of}
use Rattle.spec.specs.Reader.{refusal, reader_at}
use Rattle.spec.specs.Grammar.{grammar_of}
use Rattle.spec.specs.Layout.{layout_of}
use Rattle.spec.specs.Types.{track}
use Rattle.spec.specs.Load.{Book, counts, room_fault, used_after, stop, load_from}
use Rattle.demands.proofs.Lists.{has_leb}
use Rattle.demands.proofs.Stores.{operands_log_length}
use Rattle.demands.proofs.Cells.{layout_refuses}
use Rattle.demands.proofs.Formed.{GrammarGood, well_formed_good}
use Rattle.demands.proofs.Instructions.{Frames, instr_read}
use Rattle.grammar.specs.Index.{Indexed}
use Rattle.tracker.specs.Entries.{entries_of}
use Rattle.tracker.specs.Track.{told_of, told_with}
use Rattle.tracker.proofs.Laws.{length_entries}
use Rattle.tracker.proofs.Growth.{Grown, track_grows}
use Rattle.tracker.proofs.Instruction.{track_as}
use Rattle.parser.specs.declared.inst.Decoded.{Decoded}
use Rattle.used.specs.declared.used.Used.{Used}
use Rattle.parser.specs.Inst.{Decodes, DecodesOver, RowIs}
use Rattle.used.specs.Fresh.{unused}
use Rattle.steps.specs.declared.parts.Progress.{Progress}
use Rattle.steps.specs.declared.parts.Taken.{Taken}
use Rattle.steps.specs.Steps.{used_by, read_at, Moderate, Fair, tracked, Tells, need_of, fields_by, Shown, Shows, taken, judged_by, judged}
use Rattle.spec.specs.Layout.{Cell}
use Rattle.std.specs.Prelude.{Err, None, Ok, Option, Result, Some}
use Rattle.std.specs.Option.{unwrap_or}

-- an instruction with its tag
abbrev pub placed_as : Instr → ℕ → Placed
placed_as i tag = record { instr = i; tag = tag }

-- DECODED

-- what the parser tells
pub shows : (s g types scratch spare : List ℕ) (p : Progress) (u : Used) → u ≡ unused 0 0 p.strings p.breaks → (v : Result Decoded Refusal)
    → DecodesOver s p.at (read_at s g types p) scratch spare u v
    → RowIs g (entries_of p.tracker.count types) s p.at (read_at s g types p) v → Shows s g types scratch spare p v
unfolding Decodes RowIs Shows
shows s g types scratch spare p u e (Ok d) h b =
    record { scratch₀ = h.log₀; spare₀ = h.strs₀; handed = rw e at h.decodes; row = b }
shows s g types scratch spare p u e (Err y) h b = h.decodes

module _ {s g types scratch spare : List ℕ} {p : Progress} {d : Decoded} (shown : Shown s g types scratch spare p d) where
  -- its records' length
  pub log_size : d.log ≡ length (operands_log p.strings shown.handed.instr.operands)
  unfolding unused
  log_size =
      let h = shown.handed in
      omega (arith, h.nlog, operands_log_length (p.strings + 0) p.strings h.instr.operands)

  -- its strings' length
  pub strings_size : d.strings ≡ length (operands_strings shown.handed.instr.operands)
  unfolding unused
  strings_size = omega (arith, shown.handed.nstrings)

  -- its strings are no longer than what was read
  pub strings_few : p.strings + d.strings ≤ p.at + 4 * d.words
  unfolding unused
  strings_few = omega (arith, shown.handed.few_strings)

  -- the entries after it are those after the instruction
  pub tracked_is : (es : List Entry) → tracked d es ≡ track shown.handed.instr es
  unfolding tracked
  tracked_is es =
      let h = shown.handed in
      rw (← h.opcode, ← h.rtype, ← h.rid) (track_as h.instr d.operands _ _ es h.operands h.literals)

  -- what is taken with it is what is taken with the instruction
  pub need_is : (es : List Entry) → need_of p d es ≡ used_after (used_by p) shown.handed.instr (track shown.handed.instr es)
  unfolding need_of
  need_is es =
      let i = shown.handed.instr in
      ap (λ (n : ℕ). counts (p.instructions + 1) (p.log + n) (p.strings + d.strings) (length (tracked d es)))
      (log_size ∙ operands_log_length p.strings 0 i.operands)
      ∙ ap (λ (n : ℕ). counts (p.instructions + 1) (p.log + length (operands_log 0 i.operands)) (p.strings + n) (length (tracked d es)))
      strings_size
      ∙ ap (λ (fs : List Entry). used_after (used_by p) i fs) (tracked_is es)

  -- the fields of its record are those of the instruction
  pub fields_are : (tag : ℕ) → fields_by p d tag ≡ fields_of p.log (placed_as shown.handed.instr tag)
  unfolding fields_by fields_of
  fields_are tag = let h = shown.handed in rw (h.opcode, h.rtype, h.rid, h.offset, h.operands, h.words)

  -- it has the same place
  pub placed_is : (c : Cell) → layout_of d.opcode p.state ≡ c → layout_of shown.handed.instr.opcode p.state ≡ c
  placed_is c e = ap (λ (o : ℕ). layout_of o p.state) shown.handed.opcode ∙ e

  -- it has no more than a module
  pub moderate : length s ≤ 67108864 → Moderate d
  unfolding unused
  moderate short =
      let h = shown.handed in
      record {
        few = omega (arith, h.few, h.inside);
        few_log = omega (arith, h.few_log, h.inside);
        few_strings = omega (arith, h.few_strings, h.inside);
        fits = h.fits;
      }

-- nor has what was read
pub fair : (s g types scratch spare : List ℕ) (p : Progress) (v : Result Decoded Refusal) → Shows s g types scratch spare p v → length s ≤ 67108864 → Fair v
unfolding Shows Fair
fair s g types scratch spare p (Ok d) h short = moderate h short
fair s g types scratch spare p (Err y) h short = tt

-- LAYOUT, THEN ROOM

-- not read
pub judged_unread : (room : Counts) (es : List Entry) (p : Progress) (v : Result Decoded Refusal) (y : Refusal) → v ≡ Err y
    → Err y ≡ judged room es p v
unfolding judged
judged_unread room es p v y q = rw q

module _ (room : Counts) (es : List Entry) (p : Progress) (v : Result Decoded Refusal) (d : Decoded) (q : v ≡ Ok d) where
  -- no place
  pub judged_misplaced : (n : ℕ) → layout_of d.opcode p.state ≡ Err n → (r : Result (Decoded × ℕ × State) Refusal) → r ≡ Err (refusal n p.at 0)
      → r ≡ judged room es p v
  unfolding judged judged_by
  judged_misplaced n e r f = rw (q, e) f

  module _ (tag : ℕ) (next : State) (e : layout_of d.opcode p.state ≡ Ok (tag, next)) (fault : ℕ)
      (f : fault ≡ room_fault room (need_of p d es)) where
    -- a place, and room
    pub judged_good : fault ≡ 0 → Ok (d, tag, next) ≡ judged room es p v
    unfolding judged judged_by
    judged_good z = rw (q, e, ← f, z)

    -- a place, and no room
    pub judged_crowded : (fault ≡ 0 → ⊥) → (r : Result (Decoded × ℕ × State) Refusal) → r ≡ Err (refusal fault p.at 0) → r ≡ judged room es p v
    unfolding judged judged_by
    judged_crowded z r k = rw (q, e, ← f, ne_eqb fault 0 z) k

module _ (room : Counts) (p : Progress) (d : Decoded) where
  -- the room for it, by the count of entries after it
  pub room_by : (es : List Entry) (n : ℕ) → n ≡ length (tracked d es)
      → room_fault room (counts (p.instructions + 1) (p.log + d.log) (p.strings + d.strings) n) ≡ room_fault room (need_of p d es)
  unfolding need_of
  room_by es n e = rw e

  -- and by an entry more, where there is room for it
  pub room_spare : (l : List ℕ) (n : ℕ) → n ≡ p.tracker.count + 1 → p.tracker.count + 1 ≤ room.types
      → room_fault room (counts (p.instructions + 1) (p.log + d.log) (p.strings + d.strings) n)
      ≡ room_fault room (need_of p d (entries_of p.tracker.count l))
  unfolding need_of room_fault tracked
  room_spare l n e k =
      let es = entries_of p.tracker.count l in
      let grown : Grown es (tracked d es) = track_grows _ _ _ _ _ _ es in
      rw (
        le-ltb room.types n (omega (arith, e, k)),
        le-ltb room.types (length (tracked d es)) (omega (arith, grown.most, length_entries p.tracker.count l)),
      )

-- what is told of it
pub tells : (d : Decoded) → Moderate d
    → Tells d (record { opcode = d.opcode; rtype = d.rtype; rid = d.rid; operands = d.operands; first = d.first; second = d.second })
unfolding tracked told_of told_with
tells d m = record { tracks = λ es. refl; fits = m.fits }

-- a word that may be missing, or zero
word_or_zero : (o : Option ℕ) → unwrap_or o 0 ≡ or_zero o
word_or_zero None = refl
word_or_zero (Some n) = refl

-- the fields of its record
pub fields_by_lem : (p : Progress) (d : Decoded) (tag bits t i : ℕ) → bits ≡ presence d.rtype d.rid → t ≡ unwrap_or d.rtype 0 → i ≡ unwrap_or d.rid 0
    → ◌≡◌ {A = Fields}
    (record {
      head = d.opcode + 65536 * bits;
      tag = tag;
      offset = p.at;
      rtype = t;
      rid = i;
      start = p.log;
      count = d.operands;
      words = d.words;
    })
    (fields_by p d tag)
unfolding fields_by
fields_by_lem p d tag bits t i g h k = rw (g, h ∙ word_or_zero d.rtype, k ∙ word_or_zero d.rid)

-- THE VERDICT

-- the book of what is kept
abbrev pub book_of : List Placed → List Entry → Progress → Book
book_of ks es p = record { kept = ks; types = es; used = used_by p; state = p.state }

-- a word is left
pub word_left : (s : List ℕ) (at : ℕ) → 4 ≤ length s - at → has 4 (drop at s) ≡ true
word_left s at h = has_leb 4 (drop at s) ∙ le-leb 4 (length (drop at s)) (simp length-drop h)

-- an instruction that goes in: it was read, it has its place, and there is room for it
pub record Admitted (s g types scratch spare : List ℕ) (room : Counts) (p : Progress) (t : Taken) : Type 0 where
  pub from : t.from ≡ p
  pub shown : Shown s g types scratch spare t.from t.read
  pub placed : layout_of t.read.opcode t.from.state ≡ Ok (t.tag, t.state)
  pub fits : room_fault room (need_of t.from t.read (entries_of t.from.tracker.count types)) ≡ 0

-- an instruction that is refused: the load stops at it, with any header, whatever is kept
pub record Stops (s g types : List ℕ) (room : Counts) (p : Progress) (y : Refusal) : Type 0 where
  pub refuses : y.number ≡ 0 → ⊥
  pub stops : (h : List ℕ) (ks : List Placed) (n : ℕ) → 4 ≤ length s - p.at
      → load_from (grammar_of g) room h (suc n) (book_of ks (entries_of p.tracker.count types) p) (reader_at s p.at None)
      ≡ stop h (book_of ks (entries_of p.tracker.count types) p) y.number y.place y.value

module _ (s g types scratch spare : List ℕ) (room : Counts) (p : Progress) where
  -- one of the two
  abbrev pub Verdict : Result (Decoded × ℕ × State) Refusal → Type 0
  Verdict (Ok (d, tag, next)) = Admitted s g types scratch spare room p (taken p d tag next)
  Verdict (Err y) = Stops s g types room p y

  module _ (d : Decoded) (shown : Shown s g types scratch spare p d) where
    -- by room
    room_verdict : (tag : ℕ) (next : State) → layout_of d.opcode p.state ≡ Ok (tag, next) → (c : Bool)
        → eqb (room_fault room (need_of p d (entries_of p.tracker.count types))) 0 ≡ c
        → Verdict (if c then Ok (d, tag, next) else Err (refusal (room_fault room (need_of p d (entries_of p.tracker.count types))) p.at 0))
    unfolding load_from reader_at
    room_verdict tag next e true f = record { from = refl; shown = shown; placed = e; fits = eqb-true _ _ f }
    room_verdict tag next e false f =
        let i = shown.handed in
        let es = entries_of p.tracker.count types in
        let q = need_is shown es in
        let z : eqb (room_fault room (used_after (used_by p) i.instr (track i.instr es))) 0 ≡ false = rw q at f in
        record {
          refuses = eqb-false _ 0 f;
          stops = λ h ks n w. rw (word_left s p.at w, i.read, placed_is shown _ e, z, q, i.offset);
        }

    -- by layout
    cell_verdict : (c : Cell) → layout_of d.opcode p.state ≡ c
        → Verdict (judged_by room (need_of p d (entries_of p.tracker.count types)) p d c)
    unfolding judged_by load_from reader_at
    cell_verdict (Ok (tag, next)) e = room_verdict tag next e (eqb (room_fault room (need_of p d (entries_of p.tracker.count types))) 0) refl
    cell_verdict (Err m) e =
        let i = shown.handed in
        record {
          refuses = λ z. omega (arith, z, (layout_refuses d.opcode m p.state e).0);
          stops = λ h ks n w. rw (word_left s p.at w, i.read, placed_is shown _ e, i.offset);
        }

  -- by what was read
  read_verdict : GrammarGood (grammar_of g) → (v : Result Decoded Refusal) → Shows s g types scratch spare p v
      → Verdict (judged room (entries_of p.tracker.count types) p v)
  unfolding Shows judged load_from reader_at
  read_verdict good (Ok d) x = cell_verdict d x (layout_of d.opcode p.state) refl
  read_verdict good (Err y) x =
      let es = entries_of p.tracker.count types in
      let z = subst (Frames (grammar_of g) es p.at (drop p.at s)) x.read (instr_read (grammar_of g) good es p.at (drop p.at s)) in
      record { refuses = λ e. omega (arith, e, z.0.0); stops = λ h ks n w. rw (word_left s p.at w, x.read) }

  -- by the answer
  pub verdict : {index : List ℕ} → Indexed g index → (v : Result Decoded Refusal) → Shows s g types scratch spare p v → (r : Result (Decoded × ℕ × State) Refusal)
      → r ≡ judged room (entries_of p.tracker.count types) p v → (z : Result (Decoded × ℕ × State) Refusal) → r ≡ z → Verdict z
  verdict ix v x r e z q = subst Verdict (sym e ∙ q) (read_verdict (well_formed_good g ix.well) v x)
