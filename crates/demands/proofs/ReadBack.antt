-- The records that a load leaves pass the check and are what it keeps; so they tell one load from another.
use Prim.Native.Nat.{ℕ, ◌*◌, ◌≤◌}
use mathlib.Core.Path.{◌≡◌, refl, ap, ap₂, sym, ◌∙◌}
use mathlib.Core.Bool.{Bool, true, false}
use mathlib.Core.List.{List, [], ◌∷◌, ◌++◌, append-nil, nil≢cons, cons≢nil, tail-eq_of_cons-eq}
use native.Mathlib.Omega.{arith}
use lib.Dec.{eqb}
use lib.ListN.{length}
use Rattle.spec.specs.declared.State.{State}
use Rattle.spec.specs.declared.State.TheVariants.{Outside}
use Rattle.spec.specs.declared.Counts.{Counts}
use Rattle.spec.specs.Base.{joined, implies}
use Rattle.spec.specs.Layout.{end_number}
use Rattle.spec.specs.Records.{Placed, Entry, entry, entry_words, string_store, log_from, fields_from, field_size, field_words, record_size, instruction_store}
use Rattle.spec.specs.Load.{Outcome, nothing, load, Stores, lent, stores_of}
use Rattle.spec.specs.Check.{records_of, good, check, given_by}
use Rattle.spec.specs.Words.{AllBytes}
use Rattle.demands.proofs.Lists.{Begins}
use Rattle.demands.proofs.Stores.{BeginWith, instructions_length, entries_length}
use Rattle.demands.proofs.Starts.{Loads, unformed, overlong, headless, opens, load_is}
use Rattle.demands.proofs.Kept.{Follow, last, words_in}
use Rattle.demands.proofs.Returns.{kept_is, all_long, sure, module_read}
use Rattle.demands.proofs.KeptSays.{taken_by, KeptSays, load_says}
use Rattle.demands.proofs.CheckBack.{instructions_back, old_instructions_back, check_back}

-- WHAT A LOAD KEEPS

-- instructions that follow on from the header, no more of them than the module's bytes; outside functions where the load is
-- accepted
record Kept (o : Outcome) : Type 0 where
  state : State
  follow : Follow 20 Outside o.kept state
  few : 4 * words_in o.kept ≤ 67108864
  whole : o.said.number ≡ 0 → state ≡ Outside

-- nothing is kept before the instructions
none_kept : (n at : ℕ) → Kept (nothing n at)
unfolding words_in
none_kept n at = record { state = Outside; follow = last; few = omega arith; whole = λ e. refl }

-- every load, accepted or refused, keeps that
load_kept : (g : List ℕ) (room : Counts) (s : List ℕ) → AllBytes s → Kept (load g room s)
load_kept g room s by = of (load_is g room s)
  where
    of : {o : Outcome} → Loads g room s o → Kept o
    of (unformed e) = none_kept 24 0
    of (overlong e) = none_kept 31 0
    of (headless n at e f) = none_kept n at
    of (opens {o = o} b run) =
        let r = module_read g room s b run in
        let same = kept_is g room s b o r in
        record {
          state = r.book.state;
          follow = rw (← same) at (sure g room s b o r by).follow;
          few = omega (arith, ap words_in same, all_long g room s b o r, b.short);
          whole = λ z. (r.accepted z).1;
        }

-- READ BACK

-- what is kept, in records of a length that have its fields, with a log and strings that begin with its own
kept_back : (size : ℕ) (whole : Bool) (x : Outcome) (k : Kept x) → implies whole (eqb (end_number k.state) 0) ≡ true
    → KeptSays x → (t : Stores) → records_of size (length x.kept) t.instructions ≡ fields_from 0 x.kept
    → Begins t.log (stores_of x).log → Begins t.strings (stores_of x).strings
    → check size whole (given_by t x.said.counts) ≡ good x.kept
unfolding given_by taken_by stores_of
kept_back size whole x k w n t said log strings =
    rw (n.counts, log.1, strings.1, n.left)
    (check_back size whole x.kept k.state k.follow (omega (arith, k.few)) w t.instructions log.0 strings.0 said)

-- the instruction store of what is kept has its fields
kept_fields : (x : Outcome) → KeptSays x → (t : Stores) → BeginWith t (stores_of x)
    → records_of record_size (length x.kept) t.instructions ≡ fields_from 0 x.kept
unfolding stores_of
kept_fields x n t b = rw (b.instructions.1, n.left) (instructions_back x.kept b.instructions.0)

module _ (g : List ℕ) (room : Counts) (s : List ℕ) (by : AllBytes s) (t : Stores) (b : BeginWith t (stores_of (load g room s))) where
  -- the records of a load, accepted or refused, wherever stores begin with them, pass the check, and say what the load keeps
  pub reads_back : check record_size false (given_by t (load g room s).said.counts) ≡ good (load g room s).kept
  reads_back =
      let n : KeptSays (load g room s) = load_says g room s in
      kept_back record_size false (load g room s) (load_kept g room s by) refl n t (kept_fields (load g room s) n t b) b.log b.strings

  -- the records of an accepted load pass the check for module order too
  pub reads_back_whole : (load g room s).said.number ≡ 0
      → check record_size true (given_by t (load g room s).said.counts) ≡ good (load g room s).kept
  reads_back_whole z =
      let k : Kept (load g room s) = load_kept g room s by in
      let n : KeptSays (load g room s) = load_says g room s in
      kept_back record_size true (load g room s) k (rw (k.whole z)) n t (kept_fields (load g room s) n t b) b.log b.strings

  -- so do the same records without their numbers, eight words each
  pub reads_back_old : (more : List ℕ)
      → check field_size false
      (given_by (lent (joined field_words (fields_from 0 (load g room s).kept) ++ more) t.log t.strings t.types) (load g room s).said.counts)
      ≡ good (load g room s).kept
  reads_back_old more =
      kept_back field_size false (load g room s) (load_kept g room s by) refl (load_says g room s)
      (lent (joined field_words (fields_from 0 (load g room s).kept) ++ more) t.log t.strings t.types)
      (old_instructions_back (load g room s).kept more) b.log b.strings

-- STORES TELL

-- the records alone begin with themselves
records_begin : (u : Stores) → BeginWith u u
records_begin u =
    record {
      instructions = ([], sym (append-nil u.instructions));
      log = ([], sym (append-nil u.log));
      strings = ([], sym (append-nil u.strings));
      types = ([], sym (append-nil u.types));
    }

-- type entries by their words
entries_tell : (a b : List Entry) → joined entry_words a ≡ joined entry_words b → a ≡ b
entries_tell [] [] e = refl
entries_tell [] (entry i w s ∷ b) e = absurd (nil≢cons e)
entries_tell (entry i w s ∷ a) [] e = absurd (cons≢nil e)
entries_tell (entry i w s ∷ a) (entry j v u ∷ b) e =
    let more : a ≡ b = entries_tell a b (tail-eq_of_cons-eq (tail-eq_of_cons-eq (tail-eq_of_cons-eq e))) in
    cc

-- what a check comes to, by its instructions
same_good : (a b : List Placed) → good a ≡ good b → a ≡ b
same_good a b e = cc

-- outcomes whose counts are what their records take have the same counts where they have the same records
same_counts : (x y : Outcome) → KeptSays x → KeptSays y
    → stores_of x ≡ stores_of y → x.said.counts ≡ y.said.counts
unfolding taken_by stores_of
same_counts x y m n e =
    let same : instruction_store x.kept ≡ instruction_store y.kept = rw (m.left, n.left) at (ap (λ (t : Stores). t.instructions) e) in
    let i : length x.kept ≡ length y.kept =
    omega (arith, ap length same, instructions_length x.kept, instructions_length y.kept) in
    let l : length (log_from 0 x.kept) ≡ length (log_from 0 y.kept) = rw (m.left, n.left) at (ap (λ (t : Stores). length t.log) e) in
    let s : length (string_store x.kept) ≡ length (string_store y.kept) = rw (m.left, n.left) at (ap (λ (t : Stores). length t.strings) e) in
    let t : length x.types ≡ length y.types =
    omega (arith, ap (λ (t : Stores). length t.types) e, entries_length x.types, entries_length y.types) in
    rw (m.counts, n.counts, i, l, s, t)

-- loads that leave the same records keep the same instructions and the same type entries
pub stores_tell : (g h : List ℕ) (room other : Counts) (s u : List ℕ) → AllBytes s → AllBytes u
    → let x = load g room s in let y = load h other u in stores_of x ≡ stores_of y → (x.kept ≡ y.kept) × (x.types ≡ y.types)
stores_tell g h room other s u bs bu e =
    let x : Outcome = load g room s in
    let y : Outcome = load h other u in
    let n : x.said.counts ≡ y.said.counts = same_counts x y (load_says g room s) (load_says h other u) e in (
      same_good x.kept y.kept
          (sym (reads_back g room s bs (stores_of x) (records_begin (stores_of x)))
          ∙ ap₂ (λ (t : Stores) (n : Counts). check record_size false (given_by t n)) e n
          ∙ reads_back h other u bu (stores_of y) (records_begin (stores_of y))),
      entries_tell x.types y.types (unfold stores_of in (ap (λ (t : Stores). t.types) e)),
    )
