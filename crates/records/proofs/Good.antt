-- What good records give: for each index the record and its operands, and the instructions that the stores say.
use Prim.Native.Nat.{ℕ, zero, suc, ◌+◌, ◌*◌, ◌<◌, ◌≤◌}
use mathlib.Core.Path.{◌≡◌, refl, ap, sym, subst, ◌∙◌}
use mathlib.Core.Bool.{Bool, true, false}
use mathlib.Core.List.{List, [], ◌∷◌}
use Rattle.std.specs.Prelude.{Option, None}
use native.Mathlib.Omega.{arith}
use borrow.Author.Tests.{eqb-true}
use lib.Dec.{eqb}
use lib.ListN.{length, take, drop, get_or, length-drop, length-take}
use lib.Seq.{drop-nil, drop-drop}
use Rattle.spec.specs.declared.Fields.{Fields}
use Rattle.std.specs.Prelude.{if◌then◌else◌}
use Rattle.spec.specs.Base.{has}
use Rattle.spec.specs.Kinds.{is_long}
use Rattle.spec.specs.Records.{Placed, record_size, fields_at}
use Rattle.spec.specs.Check.{Given, records_of, missing, fields_good, fields_fault, Left, records_in, scan_of, fault_of, check, checked_by, good, bad}
use Rattle.operand.specs.Parts.{is_two}
use Rattle.records.specs.Steps.{left_at}
use Rattle.records.specs.Good.{Good, operand_by, operand_at}
use Rattle.spec.proofs.Faultless.{none_if, Faultless, no_faults, part_faultless, fields_told, Said, Scans, ends, says, scans}
use Rattle.records.proofs.Operands.{has_true, Inside, left_inside, said_reach}
use Rattle.std.specs.Prelude.{Some}

-- THE OPERAND AT A PLACE

-- the operand by its tests
pub operand_is : (log strings : List ℕ) (a : ℕ) (t u : Bool) → is_two (get_or log a 0) ≡ t → is_long (get_or log a 0) ≡ u → operand_by t u log strings a ≡ operand_at log strings a
unfolding operand_at
operand_is log strings a t u e f = rw (e, f)

-- THE RECORD AT AN INDEX

-- what the record says that stands at an index, and what is left before it
pub record SaidAt (log strings : List ℕ) (f : Fields) (is : List Placed) (k : ℕ) : Type 0 where
  pub before : Left
  pub next : Placed × Left
  pub inside : Inside log strings before
  pub said : Said f before next
  pub here : drop k is ≡ next.0 ∷ drop (suc k) is

-- no record is none
cons_none : {X : Type 0} (f : Fields) (fs : List Fields) → [] ≡ f ∷ fs → X
cons_none f fs e = let z : 0 ≡ suc (length fs) = ap length e in absurd (omega arith)

-- as many instructions as records
scan_length : {lc sc : ℕ} {l : Left} {fs : List Fields} {is : List Placed} → Scans lc sc l fs is → length is ≡ length fs
scan_length (ends d e) = refl
scan_length (says s more) = ap suc (scan_length more)

module _ (lc sc : ℕ) (log strings : List ℕ) where
  -- each record of a scan without fault
  scan_said : {l : Left} {fs : List Fields} {is : List Placed} → Scans lc sc l fs is → Inside log strings l
      → (k : ℕ) (f : Fields) (gs : List Fields) → drop k fs ≡ f ∷ gs → SaidAt log strings f is k
  scan_said (ends d e) i k f gs q = cons_none f gs (sym (drop-nil k) ∙ q)
  scan_said (says {f = c} {l = l} {x = x} s more) i zero f gs q =
      let same : c ≡ f = cc in
      record { before = l; next = x; inside = i; said = subst (λ (y : Fields). Said y l x) same s; here = refl }
  scan_said (says s more) i (suc k) f gs q =
      let r = scan_said more (said_reach log strings i s).inside k f gs q in
      record { before = r.before; next = r.next; inside = r.inside; said = r.said; here = r.here }

  -- both counts lie in the stores
  scan_counts : {l : Left} {fs : List Fields} {is : List Placed} → Scans lc sc l fs is → Inside log strings l
      → (lc ≤ length log) × (sc ≤ length strings)
  scan_counts (ends d e) i = (omega (arith, i.in_log), omega (arith, i.in_strings))
  scan_counts (says s more) i = scan_counts more (said_reach log strings i s).inside

-- each record of a fold without fault
fields_said : (fs : List Fields) (i at : ℕ) → fields_fault i at fs ≡ None → (k : ℕ) (f : Fields) (gs : List Fields) → drop k fs ≡ f ∷ gs → f.words ≤ 65535
unfolding fields_fault
fields_said [] i at n k f gs e = cons_none f gs (sym (drop-nil k) ∙ e)
fields_said (c ∷ fs) i at n zero f gs e =
    let q : c ≡ f = cc in
    let t = fields_told at c (none_if i (fields_good at c) (fields_fault (suc i) (at + 4 * c.words) fs) n).0 in
    subst (λ (y : Fields). y.words ≤ 65535) q t.1
fields_said (c ∷ fs) i at n (suc k) f gs e =
    fields_said fs (suc i) (at + 4 * c.words) (none_if i (fields_good at c) (fields_fault (suc i) (at + 4 * c.words) fs) n).1 k f gs e

-- the first record of a fold without fault is at its offset
fields_first : (fs : List Fields) (i at : ℕ) → fields_fault i at fs ≡ None → (f : Fields) (gs : List Fields) → fs ≡ f ∷ gs → f.offset ≡ at
unfolding fields_fault
fields_first [] i at n f gs e = cons_none f gs e
fields_first (c ∷ fs) i at n f gs e =
    let q : c ≡ f = cc in
    subst (λ (y : Fields). y.offset ≡ at) q
    (fields_told at c (none_if i (fields_good at c) (fields_fault (suc i) (at + 4 * c.words) fs) n).0).0

-- each later one is behind the one before it
fields_next : (fs : List Fields) (i at : ℕ) → fields_fault i at fs ≡ None → (k : ℕ) (f : Fields) (gs : List Fields) → drop k fs ≡ f ∷ gs
    → (g : Fields) (hs : List Fields) → drop (suc k) fs ≡ g ∷ hs → g.offset ≡ f.offset + 4 * f.words
unfolding fields_fault
fields_next [] i at n k f gs e g hs h = cons_none f gs (sym (drop-nil k) ∙ e)
fields_next (c ∷ fs) i at n zero f gs e g hs h =
    let q : c ≡ f = cc in
    let t = none_if i (fields_good at c) (fields_fault (suc i) (at + 4 * c.words) fs) n in
    subst (λ (y : Fields). g.offset ≡ y.offset + 4 * y.words) q
    (omega (arith, (fields_told at c t.0).0, fields_first fs (suc i) (at + 4 * c.words) t.1 g hs h))
fields_next (c ∷ fs) i at n (suc k) f gs e g hs h =
    fields_next fs (suc i) (at + 4 * c.words) (none_if i (fields_good at c) (fields_fault (suc i) (at + 4 * c.words) fs) n).1 k f gs e g hs h

-- the first of some records
first_said : (t : Bool) → t ≡ true → (f : Fields) (fs : List Fields) → (if t then f ∷ fs else []) ≡ f ∷ drop 1 (if t then f ∷ fs else [])
first_said t e f fs = rw e

-- a later one
later_said : (t : Bool) → t ≡ true → (c : Fields) (fs : List Fields) (k : ℕ) (f : Fields) → drop k fs ≡ f ∷ drop (suc k) fs
    → drop (suc k) (if t then c ∷ fs else []) ≡ f ∷ drop (suc (suc k)) (if t then c ∷ fs else [])
later_said t e c fs k f h = rw e h

-- the records of the store
records_if : (t : Bool) (n : ℕ) (f : Fields) (fs : List Fields) → length (if t then f ∷ fs else []) ≡ suc n → (t ≡ true) × (length fs ≡ n)
records_if true n f fs e = (refl, omega (arith, e))
records_if false n f fs e = absurd (omega (arith, e))

-- each record of those asked for, where none is missing
records_said : (n : ℕ) (ws : List ℕ) → length (records_of record_size n ws) ≡ n → (k : ℕ) → k < n
    → (drop k (records_of record_size n ws) ≡ fields_at (drop (record_size * k) ws) ∷ drop (suc k) (records_of record_size n ws)) × (record_size * k + record_size ≤ length ws)
unfolding records_of
records_said zero ws e k h = absurd (omega arith)
records_said (suc n) ws e zero h =
    let r = records_if (has record_size ws) n (fields_at ws) (records_of record_size n (drop record_size ws)) e in
    (first_said (has record_size ws) r.0 (fields_at ws) (records_of record_size n (drop record_size ws)), omega (arith, has_true record_size ws r.0))
records_said (suc n) ws e (suc k) h =
    let r = records_if (has record_size ws) n (fields_at ws) (records_of record_size n (drop record_size ws)) e in
    let x = records_said n (drop record_size ws) r.1 k (omega arith) in
    let q : record_size + record_size * k ≡ record_size * suc k = omega arith in (
      later_said (has record_size ws) r.0 (fields_at ws) (records_of record_size n (drop record_size ws)) k (fields_at (drop (record_size * suc k) ws))
          (x.0 ∙ ap (λ (l : List ℕ). fields_at l ∷ drop (suc k) (records_of record_size n (drop record_size ws))) (drop-drop (record_size * k) record_size ws ∙ ap (λ (j : ℕ). drop j ws) q)),
      omega (arith, x.1, length-drop record_size ws, has_true record_size ws r.0),
    )

-- NO FAULT

-- what good records give at an index, log and strings being those up to their counts
pub record GoodAt (x : Given) (i : ℕ) : Type 0 where
  pub in_store : record_size * i + record_size ≤ length x.instructions
  pub few : (fields_at (drop (record_size * i) x.instructions)).words ≤ 65535
  pub said : SaidAt (take x.log_count x.log) (take x.string_count x.strings) (fields_at (drop (record_size * i) x.instructions)) (scan_of record_size x).instrs i

module _ (x : Given) (good_x : Good x) where
  -- no fold finds a fault
  faultless : Faultless record_size false x
  unfolding Good
  faultless = no_faults record_size false x good_x

  -- as many records as are asked for
  record_count : length (records_in record_size x) ≡ x.count
  unfolding missing
  record_count = eqb-true _ _ (none_if (length (records_in record_size x) + 1) (eqb (length (records_in record_size x)) x.count) None faultless.present).0

  -- log and strings from their first bytes on
  abbrev whole_left : Left
  whole_left = left_at (take x.log_count x.log) (take x.string_count x.strings) 0 0

  -- they lie in themselves
  whole_inside : Inside (take x.log_count x.log) (take x.string_count x.strings) whole_left
  whole_inside = left_inside _ _ 0 0 (omega arith) (omega arith)

  -- what the records say
  all_scans : Scans x.log_count x.string_count whole_left (records_in record_size x) (scan_of record_size x).instrs
  unfolding left_at
  all_scans = scans x.log_count x.string_count (records_in record_size x) 1 _ faultless.scan

  -- the instructions are as many as the count
  pub good_length : length (scan_of record_size x).instrs ≡ x.count
  good_length = scan_length all_scans ∙ record_count

  -- both counts lie in the stores
  pub good_counts : (x.log_count ≤ length x.log) × (x.string_count ≤ length x.strings)
  good_counts =
      let r = scan_counts _ _ _ _ all_scans whole_inside in
      (omega (arith, r.0, length-take x.log_count x.log), omega (arith, r.1, length-take x.string_count x.strings))

  -- each index
  pub good_at : (i : ℕ) → i < x.count → GoodAt x i
  good_at i h =
      let r = records_said x.count x.instructions record_count i h in
      record {
        in_store = r.1;
        few = fields_said (records_in record_size x) 1 20 faultless.fields i _ _ r.0;
        said = scan_said _ _ _ _ all_scans whole_inside i _ _ r.0;
      }

  -- the first record is behind a header
  pub good_first : 0 < x.count → (fields_at (drop (record_size * 0) x.instructions)).offset ≡ 20
  good_first h = fields_first (records_in record_size x) 1 20 faultless.fields _ _ (records_said x.count x.instructions record_count 0 h).0

  -- each later one is behind the one before it
  pub good_next : (i : ℕ) → suc i < x.count
      → (fields_at (drop (record_size * suc i) x.instructions)).offset
      ≡ (fields_at (drop (record_size * i) x.instructions)).offset + 4 * (fields_at (drop (record_size * i) x.instructions)).words
  good_next i h =
      fields_next (records_in record_size x) 1 20 faultless.fields i
      _ _ (records_said x.count x.instructions record_count i (omega arith)).0
      _ _ (records_said x.count x.instructions record_count (suc i) h).0

-- WHAT THE CHECK SAYS

-- the answer that all is good
pub check_is_good : (whole : Bool) (x : Given) (r : Option ℕ) → r ≡ fault_of record_size whole x → r ≡ None → check record_size whole x ≡ good (scan_of record_size x).instrs
unfolding check
check_is_good whole x r e q = ap (λ (o : Option ℕ). checked_by o (scan_of record_size x).instrs) (sym e ∙ q)

-- the answer that a record is bad
pub check_is_bad : (whole : Bool) (x : Given) (r : Option ℕ) (i : ℕ) → r ≡ fault_of record_size whole x → r ≡ Some i → check record_size whole x ≡ bad i
unfolding check
check_is_bad whole x r i e q = ap (λ (o : Option ℕ). checked_by o (scan_of record_size x).instrs) (sym e ∙ q)

-- whatever the order, records that pass are good
pub good_by : (whole : Bool) (x : Given) (r : Option ℕ) → r ≡ fault_of record_size whole x → r ≡ None → Good x
unfolding Good
good_by false x r e q = sym e ∙ q
good_by true x r e q = part_faultless record_size x (sym e ∙ q)
