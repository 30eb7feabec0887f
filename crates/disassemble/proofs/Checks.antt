-- Laws of the check: the records before the first that is bad can be read, and the lowest that is bad in either way is named.
use Prim.Native.Nat.{ℕ, zero, suc, ◌+◌, ◌*◌, ◌-◌, ◌%◌, ◌<◌, ◌≤◌}
use mathlib.Core.Path.{◌≡◌, refl, ap, sym, subst, ◌∙◌}
use mathlib.Core.Bool.{Bool, true, false, ◌&&◌}
use mathlib.Core.List.{List, [], ◌∷◌}
use Rattle.std.specs.Prelude.{Option, None, Some}
use native.Mathlib.Omega.{arith}
use native.Mathlib.Numerals.{add-one}
use borrow.Author.Tests.{eqb-true, leb-true, leb-false, le-leb}
use lib.Dec.{leb, eqb}
use lib.ListN.{length, take, drop, length-drop}
use lib.Seq.{drop-nil, drop-drop, take_all}
use Rattle.spec.specs.declared.State.{State}
use Rattle.spec.specs.declared.State.TheVariants.{Outside}
use Rattle.spec.specs.declared.Fields.{Fields}
use Rattle.spec.specs.declared.Written.{Written}
use Rattle.std.specs.Prelude.{if◌then◌else◌}
use Rattle.spec.specs.Base.{has, implies}
use Rattle.spec.specs.Layout.{layout_of, end_number}
use Rattle.spec.specs.Records.{Operand, Placed, record_size, fields_at}
use Rattle.spec.specs.Check.{Given, lower, records_of, missing, fields_good, fields_fault, Left, take_operands, take_record, Scan, on_record, scan_from, on_tag, tags_fault, records_in, scan_of, fault_of, Checked, bad, good}
use Rattle.spec.specs.Disassembly.{is_named, unnamed, check_named, disassemble, module_text}
use Rattle.spec.proofs.Choice.{IfSome}
use Rattle.spec.proofs.Faultless.{none_if, no_faults, Said, record_said}
use Rattle.records.specs.Steps.{given, left_at, at_most}
use Rattle.records.proofs.Operands.{has_true, Inside, left_inside, said_reach, operands_taken}
use Rattle.records.proofs.Lowest.{AtLeast, fields_late, scan_late, tags_late}
use Rattle.spelled.specs.Spelled.{AllReadable, operand_after, operands_from, said_by}
use Rattle.spelled.specs.Placing.{GoodStores, instrs_of}
use Rattle.assemble.specs.Writes.{Writes}
use Rattle.assemble.proofs.Writing.{lent_good, lent_check}
use Rattle.records.proofs.Good.{check_is_good, good_by, good_length}
use Rattle.records.proofs.Fields.{take_most}
use Rattle.lookup.specs.Run.{name_run, Indexed}
use Rattle.disassemble.specs.Listed.{said_from, Told, named_count, BadFromOne, before_bad, text_over}
use Rattle.spec.specs.Layout.{Cell}
use Rattle.std.specs.Prelude.{Err, Ok}

-- LOWER

-- the lower of two is late where both are, and both are where it is
lower_late : (i : ℕ) (x y : Option ℕ) → AtLeast i (lower x y) → AtLeast i x × AtLeast i y
unfolding AtLeast
lower_late i None y h = (tt, h)
lower_late i (Some j) None h = (h, tt)
lower_late i (Some j) (Some k) h = by (leb j k) refl h
  where
    by : (t : Bool) → leb j k ≡ t → AtLeast i (if t then Some j else Some k) → (i ≤ j) × (i ≤ k)
    by true e h = (h, omega (arith, leb-true j k e))
    by false e h = (omega (arith, leb-false j k e), h)

-- late enough
late_less : (i j : ℕ) (x : Option ℕ) → i ≤ j → AtLeast j x → AtLeast i x
unfolding AtLeast
late_less i j None h g = tt
late_less i j (Some k) h g = omega arith

-- the second is the lower
lower_second : (i : ℕ) (x : Option ℕ) → AtLeast i x → lower x (Some i) ≡ Some i
unfolding AtLeast
lower_second i None g = refl
lower_second i (Some j) g = by (leb j i) refl
  where
    by : (t : Bool) → leb j i ≡ t → (if t then Some j else Some i) ≡ Some i
    by true e = ap Some (let h : j ≤ i = leb-true j i e in omega arith)
    by false e = refl

-- the first is
lower_first : (i : ℕ) (y : Option ℕ) → AtLeast i y → lower (Some i) y ≡ Some i
unfolding AtLeast
lower_first i None g = refl
lower_first i (Some j) g = ap (λ (t : Bool). if t then Some i else Some j) (le-leb i j g)

-- NO FOLD NAMES AN INDEX PAST THE END

-- no fault, or one at an index or before it
unfoldable AtMost : ℕ → Option ℕ → Type 0
AtMost m None = Unit
AtMost m (Some j) = j ≤ m

-- one of two
most_if : (m : ℕ) (t : Bool) (x y : Option ℕ) → AtMost m x → AtMost m y → AtMost m (if t then x else y)
most_if m true x y h g = h
most_if m false x y h g = g

-- the lower of two
most_lower : (m : ℕ) (x y : Option ℕ) → AtMost m x → AtMost m y → AtMost m (lower x y)
unfolding AtMost
most_lower m None y h g = g
most_lower m (Some j) None h g = h
most_lower m (Some j) (Some k) h g = most_if m (leb j k) (Some j) (Some k) h g

-- fields
most_fields : (m i at : ℕ) (fs : List Fields) → i + length fs ≤ m → AtMost m (fields_fault i at fs)
unfolding AtMost fields_fault
most_fields m i at [] h = tt
most_fields m i at (f ∷ fs) h = most_if m (fields_good at f) (fields_fault (suc i) (at + 4 * f.words) fs) (Some i) (most_fields m (suc i) (at + 4 * f.words) fs (omega arith)) (omega arith)

-- after a record's operands
most_record : (m i : ℕ) (o : Option (Placed × Left)) (more : Left → Scan) → i ≤ m → ((l : Left) → AtMost m (more l).fault) → AtMost m (on_record i o more).fault
unfolding AtMost
most_record m i None more h g = h
most_record m i (Some x) more h g = g x.1

-- log and strings
most_scan : (m lc sc i : ℕ) (l : Left) (fs : List Fields) → i + length fs ≤ m → AtMost m (scan_from lc sc i l fs).fault
unfolding AtMost scan_from
most_scan m lc sc i l [] h = most_if m (eqb l.log_at lc && eqb l.strings_at sc) None (Some i) tt (omega arith)
most_scan m lc sc i l (f ∷ fs) h = most_record m i (take_record f l) (λ k. scan_from lc sc (suc i) k fs) (omega arith) (λ k. most_scan m lc sc (suc i) k fs (omega arith))

-- after a record's tag
most_tag : (m i tag : ℕ) (c : Cell) (more : State → Option ℕ) → i ≤ m → ((s : State) → AtMost m (more s)) → AtMost m (on_tag i tag c more)
unfolding AtMost
most_tag m i tag (Ok (t, s)) more h g = most_if m (eqb tag t) (more s) (Some i) (g s) h
most_tag m i tag (Err n) more h g = h

-- tags
most_tags : (m : ℕ) (whole : Bool) (i : ℕ) (s : State) (fs : List Fields) → i + length fs ≤ m → AtMost m (tags_fault whole i s fs)
unfolding AtMost tags_fault
most_tags m whole i s [] h = most_if m (implies whole (eqb (end_number s) 0)) None (Some i) tt (omega arith)
most_tags m whole i s (f ∷ fs) h =
    most_tag m i f.tag (layout_of (f.head % 65536) s) (λ t. tags_fault whole (suc i) t fs) (omega arith) (λ t. most_tags m whole (suc i) t fs (omega arith))

-- log and strings from their first bytes on
abbrev start_left : Given → Left
start_left x = record { log_at = 0; log = take x.log_count x.log; strings_at = 0; strings = take x.string_count x.strings }

-- the lowest of all
most_fault : (whole : Bool) (x : Given) → AtMost (1 + length (records_in record_size x)) (fault_of record_size whole x)
unfolding AtMost fault_of missing
most_fault whole x =
    let fs = records_in record_size x in
    let m = 1 + length (records_in record_size x) in
    most_lower m (missing x.count fs) (lower (fields_fault 1 20 fs) (lower (scan_of record_size x).fault (tags_fault whole 1 Outside fs)))
    (most_if m (eqb (length fs) x.count) None (Some (length fs + 1)) tt (omega arith))
    (most_lower m (fields_fault 1 20 fs) (lower (scan_of record_size x).fault (tags_fault whole 1 Outside fs)) (most_fields m 1 20 fs (omega arith))
    (most_lower m (scan_of record_size x).fault (tags_fault whole 1 Outside fs) (most_scan m x.log_count x.string_count 1 (start_left x) fs (omega arith))
    (most_tags m whole 1 Outside fs (omega arith))))

-- THE RECORDS BEFORE THE FIRST THAT IS BAD

-- no record is none
cons_none : {X : Type 0} (f : Fields) (fs : List Fields) → [] ≡ f ∷ fs → X
cons_none f fs e = let z : 0 ≡ suc (length fs) = ap length e in absurd (omega arith)

-- what a record that was passed says
pub record Passed (ws log strings : List ℕ) (is : List Placed) (k : ℕ) : Type 0 where
  pub inside : record_size * k + record_size ≤ length ws
  pub readable : AllReadable (fields_at (drop (record_size * k) ws)).count log strings (fields_at (drop (record_size * k) ws)).start
  pub here : drop k is ≡ said_by log strings (fields_at (drop (record_size * k) ws)) ∷ drop (suc k) is

-- operands are those from a place on, and each can be read
abbrev From : List ℕ → List ℕ → ℕ → ℕ → List Operand × Left → Type 0
From log strings n a x = (x.0 ≡ operands_from n log strings a) × AllReadable n log strings a

-- so are those that were taken
taken_from : (log strings : List ℕ) (n : ℕ) (l : Left) → Inside log strings l → IfSome (From log strings n l.log_at) (take_operands n l)
unfolding operands_from AllReadable operand_after
taken_from log strings =
    operands_taken log strings (λ n l. From log strings n l.log_at) (λ l i. (refl, tt))
    (λ n l x xs t q. rw (t.is, q.0, t.next) (refl, (record { whole = t.whole; string = t.string }, rw t.next at q.1)))

-- what a record of a list of them says
record SaidIn (log strings : List ℕ) (f : Fields) (is : List Placed) (k : ℕ) : Type 0 where
  pub readable : AllReadable f.count log strings f.start
  pub here : drop k is ≡ said_by log strings f ∷ drop (suc k) is

-- the first
said_first : (log strings : List ℕ) (f : Fields) (l : Left) (x : Placed × Left) → Inside log strings l → Said f l x → (is : List Placed) → SaidIn log strings f (x.0 ∷ is) 0
unfolding said_by
said_first log strings f l x i s is =
    let taken = taken_from log strings f.count l i in
    let from : From log strings f.count f.start (s.operands, x.1) =
    rw s.start (subst (IfSome (From log strings f.count l.log_at)) s.taken taken) in
    record { readable = from.1; here = rw (s.is, from.0) }

module _ (lc sc : ℕ) (log strings : List ℕ) where
  -- by whether the record was taken
  said_by_lem : (c : Fields) (fs : List Fields) (i : ℕ) (l : Left) → Inside log strings l → (o : Option (Placed × Left)) → IfSome (Said c l) o
      → (more : Left → Scan) → (k : ℕ) (f : Fields) (gs : List Fields) → drop k (c ∷ fs) ≡ f ∷ gs → AtLeast (i + k + 1) (on_record i o more).fault
      → ((m : Left) → Inside log strings m → (j : ℕ) → drop j fs ≡ f ∷ gs → AtLeast (suc i + j + 1) (more m).fault → SaidIn log strings f (more m).instrs j)
      → SaidIn log strings f (on_record i o more).instrs k
  unfolding AtLeast
  said_by_lem c fs i l n None p more k f gs q h on = absurd (omega arith)
  said_by_lem c fs i l n (Some x) p more zero f gs q h on =
      let same : c ≡ f = cc in
      subst (λ (y : Fields). SaidIn log strings y (x.0 ∷ (more x.1).instrs) 0) same (said_first log strings c l x n p (more x.1).instrs)
  said_by_lem c fs i l n (Some x) p more (suc k) f gs q h on =
      let e : i + suc k + 1 ≡ suc i + k + 1 = omega arith in
      let r = on x.1 (said_reach log strings n p).inside k q (subst (λ (j : ℕ). AtLeast j (more x.1).fault) e h) in
      record { readable = r.readable; here = r.here }

  -- each record before the first that is bad
  said_before : (fs : List Fields) (i : ℕ) (l : Left) → Inside log strings l → (k : ℕ) (f : Fields) (gs : List Fields) → drop k fs ≡ f ∷ gs
      → AtLeast (i + k + 1) (scan_from lc sc i l fs).fault → SaidIn log strings f (scan_from lc sc i l fs).instrs k
  unfolding scan_from
  said_before [] i l n k f gs q h = cons_none f gs (sym (drop-nil k) ∙ q)
  said_before (c ∷ fs) i l n k f gs q h =
      said_by_lem c fs i l n (take_record c l) (record_said c l) (λ m. scan_from lc sc (suc i) m fs) k f gs q h
      (λ m r j e g. said_before fs (suc i) m r j f gs e g)

-- a record of those that lie in the store
in_by : (t : Bool) (c : Fields) (fs : List Fields) (k : ℕ) → k < length (if t then c ∷ fs else []) → (t ≡ true) × (k < suc (length fs))
in_by true c fs k h = (refl, h)
in_by false c fs k h = absurd (omega arith)

records_before : (n : ℕ) (ws : List ℕ) (k : ℕ) → k < length (records_of record_size n ws)
    → (drop k (records_of record_size n ws) ≡ fields_at (drop (record_size * k) ws) ∷ drop (suc k) (records_of record_size n ws)) × (record_size * k + record_size ≤ length ws)
unfolding records_of
records_before zero ws k h = absurd (omega arith)
records_before (suc n) ws zero h =
    let r = in_by (has record_size ws) (fields_at ws) (records_of record_size n (drop record_size ws)) 0 h in
    (rw r.0, omega (arith, has_true record_size ws r.0))
records_before (suc n) ws (suc k) h =
    let r = in_by (has record_size ws) (fields_at ws) (records_of record_size n (drop record_size ws)) (suc k) h in
    let x = records_before n (drop record_size ws) k (omega (arith, r.1)) in
    let q : record_size + record_size * k ≡ record_size * suc k = omega arith in (
      rw r.0 (x.0 ∙ ap (λ (l : List ℕ). fields_at l ∷ drop (suc k) (records_of record_size n (drop record_size ws))) (drop-drop (record_size * k) record_size ws ∙ ap (λ (j : ℕ). drop j ws) q)),
      omega (arith, x.1, length-drop record_size ws, has_true record_size ws r.0),
    )

module _ (whole : Bool) (x : Given) (n : ℕ) (late : AtLeast (n + 1) (fault_of record_size whole x)) (few : n ≤ length (records_in record_size x)) where
  -- the scan's fault is as late
  scan_is_late : AtLeast (n + 1) (scan_of record_size x).fault
  unfolding fault_of
  scan_is_late =
      let fs = records_in record_size x in
      let scan-tags = lower (scan_of record_size x).fault (tags_fault whole 1 Outside fs) in
      (lower_late (n + 1) (scan_of record_size x).fault (tags_fault whole 1 Outside fs)
      (lower_late (n + 1) (fields_fault 1 20 fs) scan-tags (lower_late (n + 1) (missing x.count fs) (lower (fields_fault 1 20 fs) scan-tags) late).1).1).0

  -- each of the first n records
  pub passed_at : (k : ℕ) → k < n → Passed x.instructions (take x.log_count x.log) (take x.string_count x.strings) (scan_of record_size x).instrs k
  unfolding left_at
  passed_at k h =
      let r = records_before x.count x.instructions k (omega arith) in
      let s = said_before x.log_count x.string_count (take x.log_count x.log) (take x.string_count x.strings) (records_in record_size x) 1
      (start_left x) (left_inside (take x.log_count x.log) (take x.string_count x.strings) 0 0 (omega arith) (omega arith)) k _ _ r.0 (late_less (1 + k + 1) (n + 1) _ (omega arith) scan_is_late) in
      record { inside = r.1; readable = s.readable; here = s.here }

-- TOLD ONE BY ONE

module _ (ws log strings : List ℕ) (is : List Placed) (n : ℕ) (each : (k : ℕ) → k < n → Passed ws log strings is k) where
  -- from an index on
  told_from : (m k : ℕ) → k + m ≡ n → Told m (drop (record_size * k) ws) log strings × (said_from m (drop (record_size * k) ws) log strings ≡ take m (drop k is))
  unfolding Told said_from
  told_from zero k e = (tt, refl)
  told_from (suc m) k e =
      let p = each k (omega arith) in
      let j : record_size * k + record_size ≡ record_size * (k + 1) = omega arith in
      let d : drop record_size (drop (record_size * k) ws) ≡ drop (record_size * (k + 1)) ws = drop-drop record_size (record_size * k) ws ∙ ap (λ (i : ℕ). drop i ws) j in
      let more = told_from m (k + 1) (omega arith) in
      let next : drop (suc k) is ≡ drop (k + 1) is = ap (λ (i : ℕ). drop i is) (sym (add-one k)) in (
        (omega (arith, p.inside, length-drop (record_size * k) ws), p.readable, subst (λ (l : List ℕ). Told m l log strings) (sym d) more.0),
        ap (λ (l : List ℕ). said_by log strings (fields_at (drop (record_size * k) ws)) ∷ said_from m l log strings) d
            ∙ ap (λ (l : List Placed). said_by log strings (fields_at (drop (record_size * k) ws)) ∷ l) more.1
            ∙ ap (λ (l : List Placed). said_by log strings (fields_at (drop (record_size * k) ws)) ∷ take m l) (sym next)
            ∙ ap (take (suc m)) (sym p.here),
      )

  -- all
  pub told_all : Told n ws log strings
  told_all = (told_from n 0 (omega arith)).0

  -- they are the first n
  pub said_all : said_from n ws log strings ≡ take n is
  said_all = (told_from n 0 (omega arith)).1

  -- there are as many
  pub said_length : n ≤ length is
  said_length = by n refl
    where
      by : (m : ℕ) → n ≡ m → m ≤ length is
      by zero e = omega arith
      by (suc m) e = omega (arith, ap length (each m (omega arith)).here, length-drop m is)

-- THE FIRST WITHOUT A NAME

-- it is named where it is among the first n
unnamed_at : (n i : ℕ) (is : List Placed) → n ≤ length is → named_count (take n is) < n → unnamed i is ≡ Some (i + named_count (take n is))
unfolding named_count unnamed
unnamed_at zero i is h g = absurd (omega arith)
unnamed_at (suc n) i [] h g = absurd (omega arith)
unnamed_at (suc n) i (p ∷ ps) h g = by (is_named p) refl (unnamed_at n (suc i) ps (omega arith)) g
  where
    by : (t : Bool) → is_named p ≡ t → (named_count (take n ps) < n → unnamed (suc i) ps ≡ Some (suc i + named_count (take n ps)))
        → (if t then suc (named_count (take n ps)) else 0) < suc n → (if is_named p then unnamed (suc i) ps else Some i) ≡ Some (i + (if is_named p then suc (named_count (take n ps)) else 0))
    by true e on g =
        let k : suc i + named_count (take n ps) ≡ i + suc (named_count (take n ps)) = omega arith in
        rw e (on (omega arith) ∙ ap Some k)
    by false e on g = rw e (ap Some (sym (omega arith)))

-- it is none before those that are looked at
unnamed_from : (i : ℕ) (is : List Placed) → AtLeast i (unnamed i is)
unfolding AtLeast unnamed
unnamed_from i [] = tt
unnamed_from i (p ∷ ps) = by (is_named p) (late_less i (suc i) (unnamed (suc i) ps) (omega arith) (unnamed_from (suc i) ps))
  where
    by : (t : Bool) → AtLeast i (unnamed (suc i) ps) → AtLeast i (if t then unnamed (suc i) ps else Some i)
    by true h = h
    by false h = omega arith

-- it is later where the first n have their names
unnamed_late : (n i : ℕ) (is : List Placed) → n ≤ named_count (take n is) → AtLeast (i + n) (unnamed i is)
unfolding AtLeast named_count unnamed
unnamed_late zero i is g = late_less (i + 0) i (unnamed i is) (omega arith) (unnamed_from i is)
unnamed_late (suc n) i [] g = tt
unnamed_late (suc n) i (p ∷ ps) g = by (is_named p) (unnamed_late n (suc i) ps) g
  where
    by : (t : Bool) → (n ≤ named_count (take n ps) → AtLeast (suc i + n) (unnamed (suc i) ps)) → suc n ≤ (if t then suc (named_count (take n ps)) else 0)
        → AtLeast (i + suc n) (if t then unnamed (suc i) ps else Some i)
    by true on g = late_less (i + suc n) (suc i + n) (unnamed (suc i) ps) (omega arith) (on (omega arith))
    by false on g = absurd (omega arith)

-- there is none where all have theirs
unnamed_none : (i : ℕ) (is : List Placed) → length is ≤ named_count is → unnamed i is ≡ None
unfolding named_count unnamed
unnamed_none i [] g = refl
unnamed_none i (p ∷ ps) g = by (is_named p) (unnamed_none (suc i) ps) g
  where
    by : (t : Bool) → (length ps ≤ named_count ps → unnamed (suc i) ps ≡ None) → suc (length ps) ≤ (if t then suc (named_count ps) else 0) → (if t then unnamed (suc i) ps else Some i) ≡ None
    by true on g = on (omega arith)
    by false on g = absurd (omega arith)

-- both are late, and so is the lower
late_both : (i : ℕ) (x y : Option ℕ) → AtLeast i x → AtLeast i y → AtLeast i (lower x y)
unfolding AtLeast
late_both i None y h g = g
late_both i (Some j) None h g = h
late_both i (Some j) (Some k) h g = by (leb j k)
  where
    by : (t : Bool) → AtLeast i (if t then Some j else Some k)
    by true = h
    by false = g

-- no fault is before the first record
all_late : (x : Given) → AtLeast 1 (fault_of record_size true x)
unfolding AtLeast fault_of missing
all_late x =
    let fs = records_in record_size x in
    late_both 1 (missing x.count fs) (lower (fields_fault 1 20 fs) (lower (scan_of record_size x).fault (tags_fault true 1 Outside fs))) (by (eqb (length fs) x.count))
    (late_both 1 (fields_fault 1 20 fs) (lower (scan_of record_size x).fault (tags_fault true 1 Outside fs)) (fields_late 1 20 fs)
    (late_both 1 (scan_of record_size x).fault (tags_fault true 1 Outside fs) (scan_late x.log_count x.string_count 1 (start_left x) fs) (tags_late true 1 Outside fs)))
  where
    by : (t : Bool) → AtLeast 1 (if t then None else Some (length (records_in record_size x) + 1))
    by true = tt
    by false = omega arith

-- THE CALL

-- what is bad, by the lowest fault
bad_writes : (h : List ℕ) (x : Given) (out : List ℕ) (i : ℕ) (w : Written) → lower (fault_of record_size true x) (unnamed 1 (scan_of record_size x).instrs) ≡ Some i
    → w ≡ record { number = 30; index = i; bytes = 0 } → Writes (disassemble h x out) out w
unfolding disassemble check_named
bad_writes h x out i w e q = rw e (record { said = q; output = refl })

-- what is good
good_writes : (h : List ℕ) (x : Given) (out out' : List ℕ) (w : Written) (is : List Placed) → lower (fault_of record_size true x) (unnamed 1 (scan_of record_size x).instrs) ≡ None
    → (scan_of record_size x).instrs ≡ is → Writes (text_over out (module_text h is)) out' w → Writes (disassemble h x out) out' w
unfolding disassemble check_named text_over
good_writes h x out out' w is e s p = rw e (subst (λ (l : List Placed). Writes (text_over out (module_text h l)) out' w) (sym s) p)

-- an index from 1 on
pub from_one : (x : Given) (r : Option ℕ) → r ≡ fault_of record_size true x → BadFromOne r
unfolding BadFromOne AtLeast
from_one x None e = tt
from_one x (Some i) e = subst (AtLeast 1) (sym e) (all_late x)

-- the instructions of a check that is passed
abbrev instrs_in : Checked → List Placed
instrs_in (good is) = is
instrs_in (bad i) = []

module _ (ws log strings : List ℕ) (count lc sc : ℕ) (r : Option ℕ) (e : r ≡ fault_of record_size true (given ws log strings count lc sc)) (log' strings' : List ℕ)
    (el : log' ≡ take lc log) (es : strings' ≡ take sc strings) (n : ℕ) (q : n ≡ before_bad r count) where
  abbrev x : Given
  x = given ws log strings count lc sc

  -- the fault is past the first n records
  fault_past : AtLeast (n + 1) (fault_of record_size true x)
  unfolding AtLeast before_bad BadFromOne
  fault_past = subst (AtLeast (n + 1)) e (by r (from_one x r e) q)
    where
      by : (r : Option ℕ) → BadFromOne r → n ≡ before_bad r count → AtLeast (n + 1) r
      by None h q = tt
      by (Some i) h q = omega (arith, q, h)

  -- they lie in the store
  few_records : n ≤ length (records_in record_size x)
  unfolding AtMost before_bad missing
  few_records = by r e q
    where
      by : (r : Option ℕ) → r ≡ fault_of record_size true x → n ≡ before_bad r count → n ≤ length (records_in record_size x)
      by None e q = omega (arith, q, eqb-true (length (records_in record_size x)) count (none_if (length (records_in record_size x) + 1) (eqb (length (records_in record_size x)) count) None (no_faults record_size true x (sym e)).present).0)
      by (Some i) e q = omega (arith, q, subst (AtMost (1 + length (records_in record_size x))) (sym e) (most_fault true x))

  -- each was passed
  each_passed : (k : ℕ) → k < n → Passed ws log' strings' (scan_of record_size x).instrs k
  each_passed k h =
      subst (λ (l : List ℕ). Passed ws l strings' (scan_of record_size x).instrs k) (sym el)
      (subst (λ (l : List ℕ). Passed ws (take lc log) l (scan_of record_size x).instrs k) (sym es) (passed_at true x n fault_past few_records k h))

  -- they can be read
  pub call_told : Told n ws log' strings'
  call_told = told_all ws log' strings' (scan_of record_size x).instrs n each_passed

  -- good stores
  pub call_stores : r ≡ None → GoodStores ws log' strings' count
  call_stores b =
      subst (λ (l : List ℕ). GoodStores ws l strings' count) (sym el)
      (subst (λ (l : List ℕ). GoodStores ws (take lc log) l count) (sym es) (lent_good true ws log strings count lc sc r e b))

  -- their instructions
  stores_say : r ≡ None → (scan_of record_size x).instrs ≡ instrs_of ws log' strings' count
  stores_say b =
      ap instrs_in (sym (check_is_good true x r e b) ∙ lent_check true ws log strings count lc sc r e b)
      ∙ ap (λ (l : List ℕ). instrs_of ws l (take sc strings) count) (sym el)
      ∙ ap (λ (l : List ℕ). instrs_of ws log' l count) (sym es)

  module _ (m : ℕ) (c : m ≡ named_count (said_from n ws log' strings')) where
    -- how many have their names
    counted : m ≡ named_count (take n (scan_of record_size x).instrs)
    counted = c ∙ ap named_count (said_all ws log' strings' (scan_of record_size x).instrs n each_passed)

    -- there are n
    enough : n ≤ length (scan_of record_size x).instrs
    enough = said_length ws log' strings' (scan_of record_size x).instrs n each_passed

    -- one lacks a name
    pub call_unnamed : (h out : List ℕ) (w : Written) → m < n → w ≡ record { number = 30; index = m + 1; bytes = 0 } → Writes (disassemble h x out) out w
    call_unnamed h out w g s =
        let is = (scan_of record_size x).instrs in
        let k : 1 + named_count (take n is) ≡ m + 1 = omega (arith, counted) in
        bad_writes h x out (m + 1) w
        (ap (lower (fault_of record_size true x)) (unnamed_at n 1 is enough (omega (arith, counted)) ∙ ap Some k)
        ∙ lower_second (m + 1) (fault_of record_size true x) (late_less (m + 1) (n + 1) _ (omega arith) fault_past))
        s

    -- a record is bad
    pub call_bad : (h out : List ℕ) (w : Written) (i : ℕ) → n ≤ m → r ≡ Some i → w ≡ record { number = 30; index = i; bytes = 0 } → Writes (disassemble h x out) out w
    unfolding before_bad BadFromOne
    call_bad h out w i g b s =
        let is = (scan_of record_size x).instrs in
        let before : n ≡ i - 1 = q ∙ ap (λ (a : Option ℕ). before_bad a count) b in
        let some-index : 1 ≤ i = subst BadFromOne b (from_one x r e) in
        bad_writes h x out i w
        (ap (λ (o : Option ℕ). lower o (unnamed 1 is)) (sym e ∙ b)
        ∙ lower_first i (unnamed 1 is) (late_less i (1 + n) (unnamed 1 is) (omega arith) (unnamed_late n 1 is (omega (arith, counted)))))
        s

    -- all is good
    pub call_good : (h out out' : List ℕ) (w : Written) → n ≤ m → r ≡ None → Writes (text_over out (module_text h (instrs_of ws log' strings' count))) out' w → Writes (disassemble h x out) out' w
    unfolding before_bad
    call_good h out out' w g b p =
        let is = (scan_of record_size x).instrs in
        let long : length is ≡ count = good_length x (good_by true x r e b) in
        let before : n ≡ count = q ∙ ap (λ (a : Option ℕ). before_bad a count) b in
        let all : take n is ≡ is = take_all n is (omega arith) in
        good_writes h x out out' w (instrs_of ws log' strings' count)
        (ap (λ (o : Option ℕ). lower o (unnamed 1 is)) (sym e ∙ b) ∙ unnamed_none 1 is (omega (arith, counted, ap named_count all)))
        (stores_say b) p

-- a part of a store up to a count that lies in it
pub part_is : (l : List ℕ) (c k : ℕ) → k ≡ at_most c (length l) → take k l ≡ take c l
part_is l c k e = ap (λ (j : ℕ). take j l) e ∙ take_most c l

-- names that are looked up
pub indexed_by : (run index : List ℕ) → run ≡ name_run → Indexed name_run index → Indexed run index
indexed_by run index e i = subst (λ (l : List ℕ). Indexed l index) (sym e) i
