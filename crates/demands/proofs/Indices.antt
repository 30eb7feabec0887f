-- The index of the first bad record is small, whatever the stores and counts: the offset of a good record is a 32-bit word, and each
-- good record moves the offset by four bytes or more, so that no more than 2 ^ 30 records are good.
use Prim.Native.Nat.{ℕ, zero, suc, ◌+◌, ◌*◌, ◌%◌, ◌≤◌, ◌<◌}
use mathlib.Core.Path.{◌≡◌}
use mathlib.Core.Bool.{Bool, true, false, ◌&&◌}
use mathlib.Core.List.{List, [], ◌∷◌}
use Rattle.std.specs.Prelude.{Option, None, Some}
use native.Mathlib.Omega.{arith}
use borrow.Author.Tests.{eqb-true, leb-true, leb-false}
use lib.Dec.{leb, ltb, eqb}
use lib.ListN.{length, drop, get_or}
use lib.Seq.{get_or-drop}
use Rattle.spec.specs.declared.State.{State}
use Rattle.spec.specs.declared.State.TheVariants.{Outside}
use Rattle.spec.specs.declared.Fields.{Fields}
use Rattle.spec.specs.Base.{implies, has}
use Rattle.spec.specs.Records.{Operand, Placed, fields_at, record_size}
use Rattle.spec.specs.Layout.{layout_of, end_number}
use Rattle.spec.specs.Check.{Given, lower, records_of, missing, fields_good, fields_fault, Left, placed_of, words_good, take_record, Scan, on_record, scan_from, on_tag, tags_fault, records_in, scan_of, fault_of, Checked, bad, good, checked_by, check}
use Rattle.spec.specs.Write.{parse_bytes, module_bytes, write_parse, write_module, Writing, write_by, standing, stands_by}
use Rattle.spec.specs.Disassembly.{module_text, is_named, unnamed, check_named, list_by, disassemble}
use Rattle.spec.proofs.Choice.{either, IfSome}
use Rattle.spec.proofs.Faultless.{fields_told, Said, record_said}
use Rattle.spec.specs.Layout.{Cell}
use Rattle.std.specs.Prelude.{Err, Ok}

-- AN INDEX OR NONE

-- the highest index that there can be
abbrev most : ℕ
most = 1073741825

-- an index that is at most that, or none
abbrev AtMost : Option ℕ → Type 0
AtMost o = IfSome (λ i. i ≤ most) o

-- an index that is at most that
abbrev There : Option ℕ → Type 0
There None = ⊥
There (Some i) = i ≤ most

-- it is there or not
there_most : (o : Option ℕ) → There o → AtMost o
there_most None p = tt
there_most (Some i) p = p

-- the lower of two
lower_most : (a b : Option ℕ) → AtMost a → AtMost b → AtMost (lower a b)
lower_most None b p q = q
lower_most (Some i) None p q = p
lower_most (Some i) (Some j) p q = either AtMost (leb i j) (Some i) (Some j) (λ e. p) (λ e. q)

-- the lower of two, of which the first is there
lower_first : (a b : Option ℕ) → There a → There (lower a b)
lower_first None b p = absurd p
lower_first (Some i) None p = p
lower_first (Some i) (Some j) p = either There (leb i j) (Some i) (Some j) (λ e. p) (λ e. omega (arith, leb-false i j e))

-- of which the second is there
lower_second : (a b : Option ℕ) → There b → There (lower a b)
lower_second None b p = p
lower_second (Some i) None p = absurd p
lower_second (Some i) (Some j) p = either There (leb i j) (Some i) (Some j) (λ e. omega (arith, leb-true i j e)) (λ e. p)

-- THE RECORDS

-- each offset is a 32-bit word
abbrev OffsetsFit : List Fields → Type 0
OffsetsFit [] = Unit
OffsetsFit (f ∷ fs) = (f.offset < 4294967296) × OffsetsFit fs

-- each word is one of 32 bits
abbrev pub WordsFit : List ℕ → Type 0
WordsFit ws = (i : ℕ) → get_or ws i 0 < 4294967296

-- so it is in records of such words
offsets_fit : (size n : ℕ) (ws : List ℕ) → WordsFit ws → OffsetsFit (records_of size n ws)
unfolding records_of fields_at
offsets_fit size zero ws p = tt
offsets_fit size (suc n) ws p =
    either OffsetsFit (has size ws) (fields_at ws ∷ records_of size n (drop size ws)) []
    (λ e. (p 2, offsets_fit size n (drop size ws) (λ i. rw get_or-drop (p (size + i))))) (λ e. tt)

-- records of which fields or scan find a bad one soon, or none and the records are few
data Soon (fields scan : Option ℕ) (end : ℕ) : Type 0 where
  bad_fields : There fields → Soon fields scan end
  bad_scan : There scan → Soon fields scan end
  few : AtMost fields → AtMost scan → end ≤ most → Soon fields scan end

-- a word count that is right is one or more
words_some : (f : Fields) (os : List Operand) → words_good (placed_of f os) ≡ true → 1 ≤ f.words
unfolding words_good placed_of
words_some f os e = omega (arith, eqb-true f.words _ e)

module _ (log_count string_count : ℕ) where
  -- what fields and scan find from an index and an offset on
  abbrev SoonFrom : List Fields → ℕ → ℕ → Left → Type 0
  SoonFrom fs index at l = Soon (fields_fault index at fs) (scan_from log_count string_count index l fs).fault (index + length fs)

  -- a record and those after it, where these are so after a record of one word or more
  module _ (f : Fields) (fs : List Fields) (index at : ℕ) (fits : f.offset < 4294967296) (low : 4 * index ≤ at) (here : index ≤ most)
      (on : 4 * suc index ≤ at + 4 * f.words → suc index ≤ most → (m : Left) → SoonFrom fs (suc index) (at + 4 * f.words) m) where
    -- the records after it
    abbrev Later : Scan → Type 0
    Later s = Soon (fields_fault (suc index) (at + 4 * f.words) fs) s.fault (index + length (f ∷ fs))

    -- by what it says
    said_soon : (l : Left) → fields_good at f ≡ true → (o : Option (Placed × Left)) → IfSome (Said f l) o
        → Later (on_record index o (λ m. scan_from log_count string_count (suc index) m fs))
    said_soon l g None p = bad_scan here
    said_soon l g (Some x) p =
        let is = (fields_told at f g).0 in
        let one = words_some f p.operands p.words in
        let same : suc index + length fs ≡ index + length (f ∷ fs) = omega arith in
        rw same at (on (omega arith) (omega arith) x.1)

    -- by its fields
    record_soon : (l : Left) → SoonFrom (f ∷ fs) index at l
    unfolding fields_fault scan_from
    record_soon l =
        either
        (λ (o : Option ℕ). Soon o (scan_from log_count string_count index l (f ∷ fs)).fault (index + length (f ∷ fs)))
        (fields_good at f) (fields_fault (suc index) (at + 4 * f.words) fs) (Some index)
        (λ g. said_soon l g (take_record f l) (record_said f l))
        (λ g. bad_fields here)

  -- the records from an index and an offset on
  soon : (fs : List Fields) (index at : ℕ) (l : Left) → OffsetsFit fs → 4 * index ≤ at → index ≤ most → SoonFrom fs index at l
  unfolding fields_fault scan_from
  soon [] index at l p h e =
      few tt
      (either AtMost (eqb l.log_at log_count && eqb l.strings_at string_count) None (Some index) (λ t. tt) (λ t. e))
      (omega arith)
  soon (f ∷ fs) index at l p h e =
      record_soon f fs index at p.0 h e (λ a b m. soon fs (suc index) (at + 4 * f.words) m p.1 a b) l

-- a record's tag, where the tags after it are so
tag_most : (index tag : ℕ) (c : Cell) (more : State → Option ℕ) → index ≤ most → ((s : State) → AtMost (more s))
    → AtMost (on_tag index tag c more)
tag_most index tag (Ok (t, s)) more e on = either AtMost (eqb tag t) (more s) (Some index) (λ x. on s) (λ x. e)
tag_most index tag (Err n) more e on = e

-- the first record with a bad tag, or the end
tags_most : (whole : Bool) (fs : List Fields) (index : ℕ) (s : State) → index + length fs ≤ most
    → AtMost (tags_fault whole index s fs)
unfolding tags_fault
tags_most whole [] index s e =
    either AtMost (implies whole (eqb (end_number s) 0)) None (Some index) (λ t. tt) (λ t. omega arith)
tags_most whole (f ∷ fs) index s e =
    tag_most index f.tag (layout_of (f.head % 65536) s) (λ t. tags_fault whole (suc index) t fs) (omega arith)
    (λ t. tags_most whole fs (suc index) t (omega arith))

-- the first record that is missing
missing_most : (count : ℕ) (fs : List Fields) → 1 + length fs ≤ most → AtMost (missing count fs)
unfolding missing
missing_most count fs e = either AtMost (eqb (length fs) count) None (Some (length fs + 1)) (λ t. tt) (λ t. omega arith)

-- THE INDEX

-- an index is there, or there may be one and the records are few
data Low (o : Option ℕ) (end : ℕ) : Type 0 where
  is_there : There o → Low o end
  fewer : AtMost o → end ≤ most → Low o end

-- the lowest of four, by what fields and scan find
lowest_low : (lacks fields scan tags : Option ℕ) (end : ℕ) → Soon fields scan end → (end ≤ most → AtMost lacks × AtMost tags)
    → Low (lower lacks (lower fields (lower scan tags))) end
lowest_low lacks fields scan tags end (bad_fields p) others =
    is_there (lower_second lacks (lower fields (lower scan tags)) (lower_first fields (lower scan tags) p))
lowest_low lacks fields scan tags end (bad_scan p) others =
    is_there (lower_second lacks (lower fields (lower scan tags)) (lower_second fields (lower scan tags) (lower_first scan tags p)))
lowest_low lacks fields scan tags end (few p q e) others =
    fewer
    (lower_most lacks (lower fields (lower scan tags)) (others e).0
    (lower_most fields (lower scan tags) p (lower_most scan tags q (others e).1)))
    e

-- it is at most that
low_most : (o : Option ℕ) (end : ℕ) → Low o end → AtMost o
low_most o end (is_there p) = there_most o p
low_most o end (fewer p e) = p

-- and so is the lower of it and another, where that is so of few records
low_lower : (o names : Option ℕ) (end : ℕ) → Low o end → (end ≤ most → AtMost names) → AtMost (lower o names)
low_lower o names end (is_there p) others = there_most (lower o names) (lower_first o names p)
low_lower o names end (fewer p e) others = lower_most o names p (others e)

-- an index that a check names is at most that
abbrev BadSoon : Checked → Type 0
BadSoon (bad i) = i ≤ most
BadSoon (good is) = Unit

-- by the first fault
checked_soon : (o : Option ℕ) (is : List Placed) → AtMost o → BadSoon (checked_by o is)
checked_soon None is p = tt
checked_soon (Some i) is p = p

-- the first fault in stores whose words are of 32 bits
fault_low : (size : ℕ) (whole : Bool) (x : Given) → WordsFit x.instructions
    → Low (fault_of size whole x) (1 + length (records_in size x))
unfolding fault_of
fault_low size whole x fit =
    let fs : List Fields = records_in size x in
    lowest_low (missing x.count fs) (fields_fault 1 20 fs) (scan_of size x).fault (tags_fault whole 1 Outside fs) (1 + length fs)
    (soon x.log_count x.string_count fs 1 20 _ (offsets_fit size x.count x.instructions fit) (omega arith) (omega arith))
    (λ e. (missing_most x.count fs e, tags_most whole fs 1 Outside e))

-- its index is one of 32 bits
pub fault_index : (size : ℕ) (whole : Bool) (x : Given) → WordsFit x.instructions → IfSome (λ i. i < 4294967296) (fault_of size whole x)
fault_index size whole x fit = by (fault_of size whole x) (low_most (fault_of size whole x) _ (fault_low size whole x fit))
  where
    by : (o : Option ℕ) → AtMost o → IfSome (λ i. i < 4294967296) o
    by None p = tt
    by (Some i) p = omega arith

-- where there is none the records are few
pub good_few : (size : ℕ) (whole : Bool) (x : Given) → WordsFit x.instructions → fault_of size whole x ≡ None
    → length (records_in size x) ≤ 1073741824
good_few size whole x fit e = by (fault_of size whole x) e (fault_low size whole x fit)
  where
    by : (o : Option ℕ) → o ≡ None → Low o (1 + length (records_in size x)) → length (records_in size x) ≤ 1073741824
    by None e (is_there p) = absurd p
    by None e (fewer p h) = omega arith
    by (Some i) e l = let z : ◌≡◌ {A = ℕ} 0 1 = cc in absurd (omega arith)

-- a check of them
check_soon : (size : ℕ) (whole : Bool) (x : Given) → WordsFit x.instructions → BadSoon (check size whole x)
unfolding check
check_soon size whole x fit =
    checked_soon (fault_of size whole x) (scan_of size x).instrs (low_most (fault_of size whole x) _ (fault_low size whole x fit))

-- an index of 32 bits, by a check
written_fits : (c : Checked) (f : List Placed → List ℕ) (out : List ℕ) → BadSoon c → (write_by c f out).said.index < 4294967296
written_fits (bad i) f out p = omega arith
written_fits (good is) f out p =
    either (λ (w : Writing). w.said.index < 4294967296) (ltb (length out) (length (f is))) _ _ (λ e. omega arith) (λ e. omega arith)

-- the index of a writer in parse order
pub parse_index : (h : List ℕ) (x : Given) (out : List ℕ) → WordsFit x.instructions → (write_parse h x out).said.index < 4294967296
unfolding write_parse
parse_index h x out fit = written_fits (check record_size false x) (parse_bytes h) out (check_soon record_size false x fit)

-- the index of a writer in module order
pub module_index : (h : List ℕ) (x : Given) (out : List ℕ) → WordsFit x.instructions → (write_module h x out).said.index < 4294967296
unfolding write_module
module_index h x out fit = written_fits (check record_size true x) (module_bytes h) out (check_soon record_size true x fit)

-- the index of standing
pub standing_index : (x : Given) → WordsFit x.instructions → (standing x).index < 4294967296
unfolding standing
standing_index x fit = by (check record_size true x) (check_soon record_size true x fit)
  where
    by : (c : Checked) → BadSoon c → (stands_by c).index < 4294967296
    by (bad i) p = omega arith
    by (good is) p = omega arith

-- THE LISTING

-- a scan says no more instructions than there are records
scan_few : (log_count string_count : ℕ) (fs : List Fields) (index : ℕ) (l : Left)
    → length (scan_from log_count string_count index l fs).instrs ≤ length fs
unfolding scan_from
scan_few log_count string_count [] index l = omega arith
scan_few log_count string_count (f ∷ fs) index l = by (take_record f l) (λ m. scan_few log_count string_count fs (suc index) m)
  where
    by : (o : Option (Placed × Left)) → ((m : Left) → length (scan_from log_count string_count (suc index) m fs).instrs ≤ length fs)
        → length (on_record index o (λ m. scan_from log_count string_count (suc index) m fs)).instrs ≤ length (f ∷ fs)
    by None later = omega arith
    by (Some x) later = omega (arith, later x.1)

-- the first of some instructions that lacks a name
unnamed_most : (is : List Placed) (index : ℕ) → index + length is ≤ most → AtMost (unnamed index is)
unfolding unnamed
unnamed_most [] index e = tt
unnamed_most (p ∷ ps) index e =
    either AtMost (is_named p) (unnamed (suc index) ps) (Some index)
    (λ t. unnamed_most ps (suc index) (omega arith)) (λ t. omega arith)

-- the index of the listing
pub text_index : (h : List ℕ) (x : Given) (out : List ℕ) → WordsFit x.instructions → (disassemble h x out).said.index < 4294967296
unfolding disassemble check_named
text_index h x out fit =
    let fs : List Fields = records_in record_size x in
    let is : List Placed = (scan_of record_size x).instrs in
    let few : length is ≤ length fs = scan_few x.log_count x.string_count fs 1 _ in
    by (checked_by (lower (fault_of record_size true x) (unnamed 1 is)) is)
    (checked_soon (lower (fault_of record_size true x) (unnamed 1 is)) is
    (low_lower (fault_of record_size true x) (unnamed 1 is) (1 + length fs) (fault_low record_size true x fit)
    (λ e. unnamed_most is 1 (omega (arith, few, e)))))
  where
    by : (c : Checked) → BadSoon c → (list_by c h out).said.index < 4294967296
    by (bad i) p = omega arith
    by (good is) p =
        either (λ (w : Writing). w.said.index < 4294967296) (ltb (length out) (length (module_text h is))) _ _ (λ e. omega arith)
        (λ e. omega arith)
