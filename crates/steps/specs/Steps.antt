-- A load by steps: where it stands, what becomes of the next instruction, and what is stored of it.
use Rattle.std.specs.Prelude.{ℕ, ◌+◌, ◌*◌, ◌≤◌, ◌≡◌, ◌&&◌, List, eqb, length, if◌then◌else◌}
use Rattle.std.proofs.lemmas.List.Edits.{sets}
use Rattle.spec.specs.declared.State.{State}
use Rattle.spec.specs.declared.Counts.{Counts}
use Rattle.spec.specs.declared.Fields.{Fields}
use Rattle.spec.specs.declared.Loaded.{Loaded}
use Rattle.spec.specs.Base.{or_zero}
use Rattle.spec.specs.Records.{Instr, Entry, operands_log, operands_strings, presence, record_size, record_words, entry_size}
use Rattle.spec.specs.Reader.{Reader, Read, got, refusal, reader_at}
use Rattle.spec.specs.Grammar.{grammar_of}
use Rattle.spec.specs.Layout.{layout_of}
use Rattle.spec.specs.Match.{read_instr}
use Rattle.spec.specs.Plain.{first_break, tail_break}
use Rattle.spec.specs.Load.{counts, room_fault}
use Rattle.numbers.specs.Counting.{step_of}
use Rattle.tracker.specs.Entries.{entries_of, stored}
use Rattle.tracker.specs.Hints.{Hinted}
use Rattle.tracker.specs.declared.Told.{Told}
use Rattle.tracker.specs.Track.{literal_of, track_of, told_of, FirstFit}
use Rattle.parser.specs.declared.inst.Decoded.{Decoded}
use Rattle.parser.specs.Inst.{Handed, Declined, ByRow}
use Rattle.used.specs.Fresh.{unused}
use Rattle.steps.specs.declared.parts.Progress.{Progress}
use Rattle.steps.specs.declared.parts.Taken.{Taken}
use Rattle.steps.specs.declared.parts.Ended.{Ended}
use Rattle.spec.specs.Layout.{Cell}
use Rattle.spec.specs.declared.Refusal.{Refusal}
use Rattle.std.specs.Prelude.{Err, None, Ok, Result}

-- WHERE A LOAD STANDS

-- what is kept
abbrev pub used_by : Progress → Counts
used_by p = counts p.instructions p.log p.strings p.tracker.count

-- the answer of a load of a module of so many bytes that stopped at the instruction after those kept
unfoldable pub said_at : List ℕ → ℕ → Ended → Loaded
said_at h size e =
    let breaks = first_break e.breaks (tail_break size) in
    record {
      number = e.refusal.number;
      offset = e.refusal.place;
      index = e.progress.instructions + 1;
      value = e.refusal.value;
      header = h;
      counts = used_by e.progress;
      plain = eqb e.refusal.number 0 && eqb breaks 0;
      breaks = if eqb e.refusal.number 0 then breaks else 0;
    }

-- the next instruction, by the types known
abbrev pub read_at : List ℕ → List ℕ → List ℕ → Progress → Read Instr
read_at s g types p = read_instr (grammar_of g) (entries_of p.tracker.count types) (reader_at s p.at None)

-- the load stands in a module, and what is kept is in proportion to what was read
pub record Bounded (p : Progress) : Type 0 where
  pub short : p.at ≤ 67108864
  pub few : 4 * p.instructions ≤ p.at
  pub few_log : 4 * p.log ≤ 9 * p.at
  pub few_strings : p.strings ≤ p.at
  pub few_functions : p.numbers.function ≤ p.instructions
  pub few_blocks : p.numbers.block ≤ p.instructions

-- the entries lie in the store, and the hints are theirs
pub record Typed (types hints : List ℕ) (p : Progress) : Type 0 where
  pub inside : entry_size * p.tracker.count ≤ length types
  pub hinted : Hinted p.tracker types hints

-- A DECODED INSTRUCTION

-- it has no more than a module has, and its first two operands are operands
pub record Moderate (d : Decoded) : Type 0 where
  pub few : 4 * d.operands ≤ 67108864
  pub few_log : d.log ≤ 1000000000
  pub few_strings : d.strings ≤ 1000000000
  pub fits : FirstFit d.operands d.first d.second

-- by what was read
unfoldable pub Fair : Result Decoded Refusal → Type 0
Fair (Ok d) = Moderate d
Fair (Err y) = Unit

-- the entries after it
unfoldable pub tracked : Decoded → List Entry → List Entry
tracked d es = track_of d.opcode d.rtype d.rid d.operands (literal_of d.first) (literal_of d.second) es

-- what type tracking is told of it: the entries after that are the same
pub record Tells (d : Decoded) (t : Told) : Type 0 where
  pub tracks : (es : List Entry) → told_of t es ≡ tracked d es
  pub fits : FirstFit t.operands t.first t.second

-- what is taken with it
unfoldable pub need_of : Progress → Decoded → List Entry → Counts
need_of p d es = counts (p.instructions + 1) (p.log + d.log) (p.strings + d.strings) (length (tracked d es))

-- the fields of its record
unfoldable pub fields_by : Progress → Decoded → ℕ → Fields
fields_by p d tag =
    record {
      head = d.opcode + 65536 * presence d.rtype d.rid;
      tag = tag;
      offset = p.at;
      rtype = or_zero d.rtype;
      rid = or_zero d.rid;
      start = p.log;
      count = d.operands;
      words = d.words;
    }

-- it was read by its row, and its operands' records and strings went to scratch and spare
pub record Shown (s g types scratch spare : List ℕ) (p : Progress) (d : Decoded) : Type 0 where
  pub scratch₀ : List ℕ
  pub spare₀ : List ℕ
  pub handed : Handed s p.at (read_at s g types p) scratch₀ spare₀ scratch spare (unused 0 0 p.strings p.breaks) d
  pub row : ByRow g (entries_of p.tracker.count types) s p.at (read_at s g types p) d

-- by what was read
unfoldable pub Shows : List ℕ → List ℕ → List ℕ → List ℕ → List ℕ → Progress → Result Decoded Refusal → Type 0
Shows s g types scratch spare p (Ok d) = Shown s g types scratch spare p d
Shows s g types scratch spare p (Err y) = Declined (read_at s g types p) y

-- LAYOUT, THEN ROOM

-- it goes in
abbrev pub taken : Progress → Decoded → ℕ → State → Taken
taken p d tag next = record { from = p; read = d; tag = tag; state = next }

-- it goes in with a tag and the state after it, or is refused at its place
unfoldable pub judged_by : Counts → Counts → Progress → Decoded → Cell → Result (Decoded × ℕ × State) Refusal
judged_by room need p d (Ok (tag, next)) =
    if eqb (room_fault room need) 0 then Ok (d, tag, next) else Err (refusal (room_fault room need) p.at 0)
judged_by room need p d (Err n) = Err (refusal n p.at 0)

-- by what was read
unfoldable pub judged : Counts → List Entry → Progress → Result Decoded Refusal → Result (Decoded × ℕ × State) Refusal
judged room es p (Ok d) = judged_by room (need_of p d es) p d (layout_of d.opcode p.state)
judged room es p (Err y) = Err y

-- WHAT IS STORED

-- the operands' records of the instruction that is next follow those kept
unfoldable pub Stored : List ℕ → List ℕ → List ℕ → List ℕ → List ℕ → List ℕ → List ℕ → Progress → Type 0
Stored s g types l₀ s₀ l₁ s₁ p =
    (i : Instr) (rest : Reader) → read_at s g types p ≡ got i rest
    → (l₁ ≡ sets l₀ p.log (operands_log p.strings i.operands)) × (s₁ ≡ sets s₀ p.strings (operands_strings i.operands))

-- the record of an instruction that goes in follows those kept, the entries are those after it, with their hints, and the load stands
-- behind it
pub record Recorded (i₀ t₀ i₁ t₁ h₁ : List ℕ) (t : Taken) (r : Progress) : Type 0 where
  pub at : r.at ≡ t.from.at + 4 * t.read.words
  pub used : used_by r ≡ need_of t.from t.read (entries_of t.from.tracker.count t₀)
  pub numbers : r.numbers ≡ (step_of t.tag t.from.numbers).begun
  pub state : r.state ≡ t.state
  pub breaks : r.breaks ≡ t.read.breaks
  pub instructions_are : i₁
      ≡ sets i₀ (record_size * t.from.instructions)
      (record_words (fields_by t.from t.read t.tag) (step_of t.tag t.from.numbers).own)
  pub types_are : t₁ ≡ stored t₀ (tracked t.read (entries_of t.from.tracker.count t₀))
  pub hinted : Hinted r.tracker t₁ h₁
