-- Books turned there and back, and what of them can be said to whoever reads them next.
use Prim.Native.Nat.{ℕ, zero, suc, ◌+◌, ◌*◌, ◌/◌, ◌<◌, ◌≤◌}
use mathlib.Core.Path.{◌≡◌, refl, ap, sym, subst, ◌∙◌}
use mathlib.Core.Bool.{Bool, true, false}
use mathlib.Core.List.{List, [], ◌∷◌, ◌++◌}
use Rattle.std.specs.Prelude.{Option, None, Some}
use Rattle.std.proofs.lemmas.Option.{none-some}
use native.Mathlib.Nat.{le-div_iff_mul-le}
use native.Mathlib.Omega.{arith}
use borrow.Author.Tests.{eq-eqb, eqb-true, le-ltb}
use lib.Dec.{eqb}
use lib.ListN.{length, take, drop, get_or, length-drop, take-append-drop}
use lib.Seq.{take-add, get_or-drop}
use Rattle.spec.specs.declared.Fields.{Fields}
use Rattle.spec.specs.declared.Numbers.{Numbers}
use Rattle.spec.specs.declared.Counts.{Counts}
use Rattle.spec.specs.declared.Turned.{Turned}
use Rattle.spec.specs.Base.{joined}
use Rattle.spec.specs.Words.{AllBytes}
use Rattle.spec.specs.Records.{fields_from, field_size, field_words, fields_at, record_size, record_words, records_with, called_for, numbered, instruction_store}
use Rattle.spec.specs.Load.{load, Stores, lent, stores_of}
use Rattle.spec.specs.Check.{Given, given_by, records_of, records_in, scan_of, fault_of, Checked, good, check}
use Rattle.spec.specs.Write.{parse_bytes, module_bytes, put, write_by, write_parse, write_module, standing, stands_by}
use Rattle.spec.specs.Books.{Turning, unfit, turned, has_numbers, misnumbered, new_book, old_book}
use Rattle.spec.proofs.Choice.{left, right}
use Rattle.spec.proofs.Faultless.{none_if, good_told}
use Rattle.demands.proofs.Stores.{BeginWith, called_length, numbered_length}
use Rattle.demands.proofs.Leaves.{laid_over_lem}
use Rattle.demands.proofs.KeptSays.{KeptSays, taken_by, load_says}
use Rattle.demands.proofs.CheckBack.{records_back, fields_back, old_instructions_back}
use Rattle.demands.proofs.ReadBack.{reads_back_old}
use Rattle.books.specs.Turns.{Turns}
use Rattle.books.proofs.Passes.{fields_long}
use Rattle.books.proofs.Calls.{records_told, good_count, room_told}

-- WORDS AND RECORDS

-- the same log, strings and counts with another instruction store
abbrev pub with_store : Given → List ℕ → Given
with_store x ws =
    record {
      instructions = ws;
      log = x.log;
      strings = x.strings;
      count = x.count;
      log_count = x.log_count;
      string_count = x.string_count;
    }

-- eight words are the words of their fields
eight : (ws : List ℕ) → 8 ≤ length ws → take 8 ws ≡ field_words (fields_at ws)
unfolding field_words fields_at
eight [] h = absurd (omega arith)
eight (a ∷ []) h = absurd (omega arith)
eight (a ∷ b ∷ []) h = absurd (omega arith)
eight (a ∷ b ∷ c ∷ []) h = absurd (omega arith)
eight (a ∷ b ∷ c ∷ d ∷ []) h = absurd (omega arith)
eight (a ∷ b ∷ c ∷ d ∷ e ∷ []) h = absurd (omega arith)
eight (a ∷ b ∷ c ∷ d ∷ e ∷ f ∷ []) h = absurd (omega arith)
eight (a ∷ b ∷ c ∷ d ∷ e ∷ f ∷ g ∷ []) h = absurd (omega arith)
eight (a ∷ b ∷ c ∷ d ∷ e ∷ f ∷ g ∷ k ∷ ws) h = refl

-- two words are the first two
two : (ws : List ℕ) → 2 ≤ length ws → take 2 ws ≡ get_or ws 0 0 ∷ get_or ws 1 0 ∷ []
two [] h = absurd (omega arith)
two (a ∷ []) h = absurd (omega arith)
two (a ∷ b ∷ ws) h = refl

-- ten words are the words of their fields and of the numbers that they have
ten : (ws : List ℕ) (n : Numbers) → 10 ≤ length ws → has_numbers ws n ≡ true → take 10 ws ≡ record_words (fields_at ws) n
unfolding record_words
ten ws n h e =
    let function : get_or ws 8 0 ≡ n.function = eqb-true _ _ (left (eqb (get_or ws 8 0) n.function) (eqb (get_or ws 9 0) n.block) e) in
    let block : get_or ws 9 0 ≡ n.block = eqb-true _ _ (right (eqb (get_or ws 8 0) n.function) (eqb (get_or ws 9 0) n.block) e) in
    take-add 8 2 ws
    ∙ ap (λ (l : List ℕ). l ++ take 2 (drop 8 ws)) (eight ws (omega arith))
    ∙ ap (λ (l : List ℕ). field_words (fields_at ws) ++ l)
    (two (drop 8 ws) (omega (arith, length-drop 8 ws)) ∙ simp (get_or-drop, function, block))

-- the words of an old book are those of its fields
fields_words : (n : ℕ) (ws : List ℕ) → length (records_of field_size n ws) ≡ n → joined field_words (records_of field_size n ws) ≡ take (field_size * n) ws
unfolding records_of
fields_words zero ws e = refl
fields_words (suc n) ws e =
    let t = records_told field_size n ws e in
    let k : 8 + 8 * n ≡ 8 * suc n = omega arith in
    ap (joined field_words) t.1
    ∙ ap (λ (l : List ℕ). l ++ joined field_words (records_of field_size n (drop 8 ws))) (sym (eight ws t.0))
    ∙ ap (λ (l : List ℕ). take 8 ws ++ l) (fields_words n (drop 8 ws) t.2)
    ∙ sym (take-add 8 (8 * n) ws)
    ∙ ap (λ (m : ℕ). take m ws) k

-- the words of a new book that has its numbers are those of its fields and numbers
numbers_words : (n index : ℕ) (ns : List Numbers) (ws : List ℕ) → length (records_of record_size n ws) ≡ n → length ns ≡ n
    → misnumbered index ns ws ≡ None → take (record_size * n) ws ≡ records_with (records_of record_size n ws) ns
unfolding records_of records_with misnumbered
numbers_words zero index ns ws e l m = refl
numbers_words (suc n) index [] ws e l m = absurd (omega arith)
numbers_words (suc n) index (a ∷ ns) ws e l m =
    let t = records_told record_size n ws e in
    let u = none_if index (has_numbers ws a) (misnumbered (suc index) ns (drop record_size ws)) m in
    let k : 10 + 10 * n ≡ 10 * suc n = omega arith in
    ap (λ (m : ℕ). take m ws) (sym k)
    ∙ take-add 10 (10 * n) ws
    ∙ ap (λ (l : List ℕ). l ++ take (10 * n) (drop 10 ws)) (ten ws a t.0 u.0)
    ∙ ap (λ (l : List ℕ). record_words (fields_at ws) a ++ l) (numbers_words n (suc index) ns (drop 10 ws) t.2 (omega arith) u.1)
    ∙ ap (λ (fs : List Fields). records_with fs (a ∷ ns)) (sym t.1)

-- records that have their numbers
numbers_there : (index : ℕ) (fs : List Fields) (ns : List Numbers) → length ns ≡ length fs → (more : List ℕ)
    → misnumbered index ns (records_with fs ns ++ more) ≡ None
unfolding misnumbered records_with record_words field_words
numbers_there index [] [] e more = refl
numbers_there index [] (n ∷ ns) e more = absurd (omega arith)
numbers_there index (f ∷ fs) [] e more = absurd (omega arith)
numbers_there index (f ∷ fs) (n ∷ ns) e more =
    rw (eq-eqb n.function n.function refl, eq-eqb n.block n.block refl) (numbers_there (suc index) fs ns (omega arith) more)

-- A BOOK THAT IS TAKEN

-- an output with room for so many records
unfit_none : (size count : ℕ) (out : List ℕ) → field_size ≤ size → size * count ≤ length out → unfit size count out ≡ None
unfolding unfit
unfit_none size count out h g =
    let z : 0 < size = omega arith in
    let m : count ≤ length out / size = (le-div_iff_mul-le z).1 (omega arith) in
    rw (le-ltb (length out / size) count m)

module _ (x : Given) (out : List ℕ) where
  -- all that is asked of an old book
  record NewTaken : Type 0 where
    passes : fault_of field_size false x ≡ None
    room : record_size * x.count ≤ length out

  -- so it is turned
  new_is : NewTaken → new_book x out ≡ turned x.count (numbered (records_in field_size x)) out
  unfolding new_book
  new_is t = rw (t.passes, unfit_none record_size x.count out (omega arith) t.room)

  -- the number 0 tells
  new_taken : (new_book x out).said.number ≡ 0 → NewTaken
  unfolding new_book unfit
  new_taken z = by (fault_of field_size false x) (unfit record_size x.count out) refl refl z
    where
      by : (o p : Option ℕ) → fault_of field_size false x ≡ o → unfit record_size x.count out ≡ p → (new_book x out).said.number ≡ 0 → NewTaken
      by (Some i) p e f z = let w : ◌≡◌ {A = ℕ} 30 0 = rw e at z in absurd (omega arith)
      by None (Some i) e f z = let w : ◌≡◌ {A = ℕ} 25 0 = rw (e, f) at z in absurd (omega arith)
      by None None e f z = record { passes = e; room = room_told record_size x.count (length out) (omega arith) f }

  -- all that is asked of a new book
  record OldTaken : Type 0 where
    passes : fault_of record_size false x ≡ None
    numbers : misnumbered 1 (called_for (records_in record_size x)) x.instructions ≡ None
    room : field_size * x.count ≤ length out

  -- so it is turned
  old_is : OldTaken → old_book x out ≡ turned x.count (joined field_words (records_in record_size x)) out
  unfolding old_book
  old_is t = rw (t.passes, t.numbers, unfit_none field_size x.count out (omega arith) t.room)

  -- the number 0 tells
  old_taken : (old_book x out).said.number ≡ 0 → OldTaken
  unfolding old_book unfit
  old_taken z =
      by (fault_of record_size false x) (misnumbered 1 (called_for (records_in record_size x)) x.instructions) (unfit field_size x.count out) refl refl refl z
    where
      by : (o m p : Option ℕ) → fault_of record_size false x ≡ o → misnumbered 1 (called_for (records_in record_size x)) x.instructions ≡ m
          → unfit field_size x.count out ≡ p → (old_book x out).said.number ≡ 0 → OldTaken
      by (Some i) m p e g f z = let w : ◌≡◌ {A = ℕ} 30 0 = rw e at z in absurd (omega arith)
      by None (Some i) p e g f z = let w : ◌≡◌ {A = ℕ} 33 0 = rw (e, g) at z in absurd (omega arith)
      by None None (Some i) e g f z = let w : ◌≡◌ {A = ℕ} 25 0 = rw (e, g, f) at z in absurd (omega arith)
      by None None None e g f z = record { passes = e; numbers = g; room = room_told field_size x.count (length out) (omega arith) f }

-- THE STORE OF A TURNED BOOK

module _ (x : Given) (out : List ℕ) (t : NewTaken x out) where
  -- numbered records, and past them what was there
  new_store : (new_book x out).output ≡ numbered (records_in field_size x) ++ drop (record_size * x.count) out
  new_store =
      ap (λ (y : Turning). y.output) (new_is x out t)
      ∙ laid_over_lem out (numbered (records_in field_size x)) (record_size * x.count)
      (numbered_length (records_in field_size x) ∙ ap (λ (n : ℕ). record_size * n) (good_count field_size x t.passes)) t.room

  -- it has the old book's fields
  new_fields : records_of record_size x.count (new_book x out).output ≡ records_in field_size x
  unfolding numbered
  new_fields =
      let fs = records_in field_size x in
      ap (records_of record_size x.count) new_store
      ∙ ap (λ (n : ℕ). records_of record_size n (numbered fs ++ drop (record_size * x.count) out)) (sym (good_count field_size x t.passes))
      ∙ records_back fs (called_for fs) (called_length fs) (drop (record_size * x.count) out)

  -- and the numbers that they call for
  new_numbers : misnumbered 1 (called_for (records_of record_size x.count (new_book x out).output)) (new_book x out).output ≡ None
  unfolding numbered
  new_numbers =
      let fs = records_in field_size x in
      ap (λ (gs : List Fields). misnumbered 1 (called_for gs) (new_book x out).output) new_fields
      ∙ ap (misnumbered 1 (called_for fs)) new_store
      ∙ numbers_there 1 fs (called_for fs) (called_length fs) (drop (record_size * x.count) out)

-- an old book's store has the new book's fields
old_fields : (x : Given) (out : List ℕ) (t : OldTaken x out) → records_of field_size x.count (old_book x out).output ≡ records_in record_size x
old_fields x out t =
    let fs = records_in record_size x in
    let many = good_count record_size x t.passes in
    let store : (old_book x out).output ≡ joined field_words fs ++ drop (field_size * x.count) out =
    ap (λ (y : Turning). y.output) (old_is x out t)
    ∙ laid_over_lem out (joined field_words fs) (field_size * x.count) (fields_long fs ∙ ap (λ (n : ℕ). field_size * n) many) t.room in
    ap (records_of field_size x.count) store
    ∙ ap (λ (n : ℕ). records_of field_size n (joined field_words fs ++ drop (field_size * x.count) out)) (sym many)
    ∙ fields_back fs (drop (field_size * x.count) out)

-- a store of the same fields, in records of another length, is checked alike
module _ (size other : ℕ) (whole : Bool) (x : Given) (ws : List ℕ) (e : records_of other x.count ws ≡ records_in size x) where
  same_fault : fault_of other whole (with_store x ws) ≡ fault_of size whole x
  unfolding fault_of
  same_fault = rw e

  same_check : check other whole (with_store x ws) ≡ check size whole x
  unfolding check fault_of
  same_check = rw e

-- OLD TO NEW TO OLD: an old book that is taken comes back, word for word
pub old_back : (x : Given) (out back : List ℕ) → (new_book x out).said.number ≡ 0 → field_size * x.count ≤ length back
    → old_book (with_store x (new_book x out).output) back ≡ turned x.count (take (field_size * x.count) x.instructions) back
old_back x out back z h =
    let t = new_taken x out z in
    let ws = (new_book x out).output in
    let same = new_fields x out t in
    old_is (with_store x ws) back (record {
      passes = same_fault field_size record_size false x ws same ∙ t.passes;
      numbers = new_numbers x out t;
      room = h;
    })
    ∙ ap (λ (l : List ℕ). turned x.count l back)
    (ap (joined field_words) same ∙ fields_words x.count x.instructions (good_count field_size x t.passes))

-- 33 EXACTLY WHERE THE NUMBERS ARE NOT THOSE CALLED FOR: a new book that passes the check has no wrong number exactly where its words are
-- those of its fields, numbered
module _ (x : Given) (passes : fault_of record_size false x ≡ None) where
  -- the words with no wrong number
  pub right_words : misnumbered 1 (called_for (records_in record_size x)) x.instructions ≡ None
      → take (record_size * x.count) x.instructions ≡ numbered (records_in record_size x)
  unfolding numbered
  right_words m =
      let fs = records_in record_size x in
      let many = good_count record_size x passes in
      numbers_words x.count 1 (called_for fs) x.instructions many (called_length fs ∙ many) m

  -- no wrong number in such words
  pub words_right : take (record_size * x.count) x.instructions ≡ numbered (records_in record_size x)
      → misnumbered 1 (called_for (records_in record_size x)) x.instructions ≡ None
  unfolding numbered
  words_right e =
      let fs = records_in record_size x in
      let rest = drop (record_size * x.count) x.instructions in
      ap (misnumbered 1 (called_for fs)) (sym (take-append-drop (record_size * x.count) x.instructions) ∙ ap (λ (l : List ℕ). l ++ rest) e)
      ∙ numbers_there 1 fs (called_for fs) (called_length fs) rest

  -- so the number is 33 exactly where they are not
  pub wrong_33 : (out : List ℕ)
      → ((old_book x out).said.number ≡ 33 → take (record_size * x.count) x.instructions ≡ numbered (records_in record_size x) → ⊥)
      × ((take (record_size * x.count) x.instructions ≡ numbered (records_in record_size x) → ⊥) → (old_book x out).said.number ≡ 33)
  unfolding old_book
  wrong_33 out = by (misnumbered 1 (called_for (records_in record_size x)) x.instructions) (unfit field_size x.count out) refl refl
    where
      by : (m p : Option ℕ) → misnumbered 1 (called_for (records_in record_size x)) x.instructions ≡ m → unfit field_size x.count out ≡ p
          → ((old_book x out).said.number ≡ 33 → take (record_size * x.count) x.instructions ≡ numbered (records_in record_size x) → ⊥)
          × ((take (record_size * x.count) x.instructions ≡ numbered (records_in record_size x) → ⊥) → (old_book x out).said.number ≡ 33)
      by (Some i) p g f = (λ z e. let w : Some i ≡ None = sym g ∙ words_right e in absurd (none-some i (sym w)), λ n. rw (passes, g))
      by None (Some j) g f = (λ z e. let w : ◌≡◌ {A = ℕ} 25 33 = rw (passes, g, f) at z in omega arith, λ n. absurd (n (right_words g)))
      by None None g f = (λ z e. let w : ◌≡◌ {A = ℕ} 0 33 = rw (passes, g, f) at z in omega arith, λ n. absurd (n (right_words g)))

-- NEW TO OLD TO NEW: a new book that is taken comes back, word for word
pub new_back : (x : Given) (out back : List ℕ) → (old_book x out).said.number ≡ 0 → record_size * x.count ≤ length back
    → new_book (with_store x (old_book x out).output) back ≡ turned x.count (take (record_size * x.count) x.instructions) back
new_back x out back z h =
    let t = old_taken x out z in
    let ws = (old_book x out).output in
    let same = old_fields x out t in
    new_is (with_store x ws) back (record { passes = same_fault record_size field_size false x ws same ∙ t.passes; room = h })
    ∙ ap (λ (l : List ℕ). turned x.count l back) (ap numbered same ∙ sym (right_words x t.passes t.numbers))

-- WHAT A LOAD LEAVES

-- the records that any load leaves, accepted or refused, are the new book of those records with eight words each, as it left them before
pub load_turned : (g : List ℕ) (room : Counts) (s : List ℕ) → AllBytes s → (t : Stores) → BeginWith t (stores_of (load g room s)) → (more out : List ℕ)
    → let x = load g room s in record_size * x.said.counts.instructions ≤ length out
    → new_book (given_by (lent (joined field_words (fields_from 0 x.kept) ++ more) t.log t.strings t.types) x.said.counts) out
    ≡ turned x.said.counts.instructions (stores_of x).instructions out
unfolding given_by taken_by stores_of instruction_store
load_turned g room s by t b more out h =
    let x = load g room s in
    let y = given_by (lent (joined field_words (fields_from 0 x.kept) ++ more) t.log t.strings t.types) x.said.counts in
    let n : KeptSays x = load_says g room s in
    let passes = (good_told field_size false y x.kept (reads_back_old g room s by t b more)).0 in
    let fields : records_in field_size y ≡ fields_from 0 x.left =
    rw (n.counts, n.left) (old_instructions_back x.kept more) in
    new_is y out (record { passes = passes; room = h })
    ∙ ap (λ (fs : List Fields). turned x.said.counts.instructions (numbered fs) out) fields

-- THE WRITERS

-- a book is written as the instructions that an old book says
pub record WrittenAs (x y : Given) : Type 0 where
  pub parse_order : (h out : List ℕ) → write_parse h y out ≡ put out (parse_bytes h (scan_of field_size x).instrs)
  pub module_order_lem : (h out : List ℕ) → write_module h y out ≡ write_by (check field_size true x) (module_bytes h) out
  pub stands : standing y ≡ stands_by (check field_size true x)

module _ (x : Given) (out : List ℕ) (z : (new_book x out).said.number ≡ 0) where
  -- a turned book is checked as the old one, in parse order and in module order
  pub turned_check : (whole : Bool) → check record_size whole (with_store x (new_book x out).output) ≡ check field_size whole x
  turned_check whole = same_check field_size record_size whole x (new_book x out).output (new_fields x out (new_taken x out z))

  -- so the writers take it, and write the same bytes
  pub turned_written : WrittenAs x (with_store x (new_book x out).output)
  unfolding write_parse write_module standing check
  turned_written =
      let passes : check field_size false x ≡ good (scan_of field_size x).instrs = rw (new_taken x out z).passes in
      record {
        parse_order = λ h o. ap (λ (c : Checked). write_by c (parse_bytes h) o) (turned_check false ∙ passes);
        module_order_lem = λ h o. ap (λ (c : Checked). write_by c (module_bytes h) o) (turned_check true);
        stands = ap stands_by (turned_check true);
      }

-- OVER ANY CALLS THAT RETURNED

-- a call in other words
call_is : {x y : Turning} {o : List ℕ} {r : Turned} → x ≡ y → Turns x o r → Turns y o r
call_is {o = o} {r = r} e t = subst (λ (z : Turning). Turns z o r) e t

-- the number of a call
call_number : {x : Turning} {o : List ℕ} {r : Turned} → Turns x o r → (n : ℕ) → r.number ≡ n → x.said.number ≡ n
call_number t n z = ap (λ (s : Turned). s.number) (sym t.said) ∙ z

module _ (x : Given) (out : List ℕ) {o : List ℕ} {r : Turned} where
  -- two calls, old to new to old: the second writes the words of the old book
  pub calls_old_back : Turns (new_book x out) o r → r.number ≡ 0 → (back : List ℕ) → field_size * x.count ≤ length back → {p : List ℕ} {s : Turned}
      → Turns (old_book (with_store x o) back) p s → Turns (turned x.count (take (field_size * x.count) x.instructions) back) p s
  calls_old_back t z back h u =
      call_is (ap (λ (ws : List ℕ). old_book (with_store x ws) back) t.output ∙ old_back x out back (call_number t 0 z) h) u

  -- new to old to new
  pub calls_new_back : Turns (old_book x out) o r → r.number ≡ 0 → (back : List ℕ) → record_size * x.count ≤ length back → {p : List ℕ} {s : Turned}
      → Turns (new_book (with_store x o) back) p s → Turns (turned x.count (take (record_size * x.count) x.instructions) back) p s
  calls_new_back t z back h u =
      call_is (ap (λ (ws : List ℕ). new_book (with_store x ws) back) t.output ∙ new_back x out back (call_number t 0 z) h) u

  -- a call answers 33 exactly where the numbers are not those called for
  pub call_33 : fault_of record_size false x ≡ None → Turns (old_book x out) o r
      → (r.number ≡ 33 → take (record_size * x.count) x.instructions ≡ numbered (records_in record_size x) → ⊥)
      × ((take (record_size * x.count) x.instructions ≡ numbered (records_in record_size x) → ⊥) → r.number ≡ 33)
  call_33 passes t =
      let w = wrong_33 x passes out in
      (λ z. w.0 (call_number t 33 z), λ n. ap (λ (s : Turned). s.number) t.said ∙ w.1 n)

  -- what a call turned is written as the old book
  pub call_written : Turns (new_book x out) o r → r.number ≡ 0 → WrittenAs x (with_store x o)
  call_written t z = rw t.output (turned_written x out (call_number t 0 z))

-- a call over a load's records of eight words writes what the load leaves
pub call_load : {o : List ℕ} {r : Turned} (g : List ℕ) (room : Counts) (s : List ℕ) → AllBytes s → (t : Stores) → BeginWith t (stores_of (load g room s)) → (more out : List ℕ)
    → let x = load g room s in record_size * x.said.counts.instructions ≤ length out
    → Turns (new_book (given_by (lent (joined field_words (fields_from 0 x.kept) ++ more) t.log t.strings t.types) x.said.counts) out) o r
    → Turns (turned x.said.counts.instructions (stores_of x).instructions out) o r
call_load g room s by t b more out h u = call_is (load_turned g room s by t b more out h) u
