-- How the pass over the records goes: past a record that is good in each fold, and to the end or to the first that is bad.
use Prim.Native.Nat.{ℕ, suc, ◌+◌, ◌*◌, ◌-◌, ◌/◌, ◌%◌, ◌<◌, ◌≤◌}
use mathlib.Core.Path.{◌≡◌, refl, ap, sym, ◌∙◌}
use mathlib.Core.Bool.{Bool, true, false, not, ◌&&◌, ◌||◌}
use mathlib.Core.List.{List, [], ◌∷◌}
use Rattle.std.specs.Prelude.{Option, None, Some}
use native.Mathlib.Nat.{zero-add, le-div_iff_mul-le, div-lt_iff_lt-mul}
use native.Mathlib.Numerals.{add-one}
use native.Mathlib.Omega.{arith}
use lib.Dec.{eqb, eqb-zero-suc, eqb-suc-suc}
use lib.ListN.{length, take, drop, length-drop}
use lib.Seq.{drop-drop}
use Rattle.spec.specs.declared.State.{State}
use Rattle.spec.specs.declared.State.TheVariants.{Outside}
use Rattle.spec.specs.declared.Fields.{Fields}
use Rattle.std.specs.Prelude.{if◌then◌else◌}
use Rattle.spec.specs.Records.{Placed, field_size, fields_at}
use Rattle.spec.specs.Layout.{layout_of, end_number}
use Rattle.spec.specs.Check.{lower, records_of, missing, fields_good, fields_fault, Left, take_record, on_record, scan_from, on_tag, tags_fault, fault_of}
use Rattle.records.specs.declared.Asked.{Asked}
use Rattle.records.specs.declared.Passed.{Passed}
use Rattle.records.specs.Steps.{given, end_answer, at_most, left_at, offset_after, operands_after, tag_by, tag_after, is_outside, missing_from, faults_from, fault_in}
use Rattle.records.proofs.Fields.{take_most}
use Rattle.records.proofs.Operands.{has_yes, has_no, passes_none, record_passes}
use Rattle.records.proofs.Lowest.{lowest_1, lowest_2, lowest_3, lowest_4, both_ends, missing_late, fields_late, scan_late, tags_late}
use Rattle.spec.specs.Layout.{Cell}
use Rattle.std.specs.Prelude.{Err, Ok}

-- THE RECORDS

-- a record that lies wholly in the store
pub in_store_lem : (size i n : ℕ) → field_size ≤ size → i < n / size → size * i + size ≤ n
in_store_lem size i n h g =
    let z : 0 < size = omega arith in
    let m : suc i * size ≤ n = (le-div_iff_mul-le z).0 g in
    omega arith

-- one that does not
past_store : (size i n : ℕ) → field_size ≤ size → n / size ≤ i → n < size * i + size
past_store size i n h g =
    let z : 0 < size = omega arith in
    let m : n < suc i * size = (div-lt_iff_lt-mul z).0 (omega arith) in
    omega arith

module _ (size : ℕ) (ws : List ℕ) (i : ℕ) where
  -- the first of those left, and those after it
  pub records_by : (n m : ℕ) → m ≡ suc n → size * i + size ≤ length ws
      → records_of size m (drop (size * i) ws) ≡ fields_at (drop (size * i) ws) ∷ records_of size n (drop (size * (i + 1)) ws)
  unfolding records_of
  records_by n m e h =
      let k : size * i + size ≡ size * (i + 1) = omega arith in
      rw (e, has_yes size (drop (size * i) ws) (omega (arith, length-drop (size * i) ws)), drop-drop, k)

  -- it does not lie in the store
  records_none : (n m : ℕ) → m ≡ suc n → field_size ≤ size → length ws < size * i + size → records_of size m (drop (size * i) ws) ≡ []
  unfolding records_of
  records_none n m e z h = rw (e, has_no size (drop (size * i) ws) (omega (arith, length-drop (size * i) ws)))

-- no more are asked for
pub records_end : (size : ℕ) (ws : List ℕ) (m : ℕ) → m ≡ 0 → records_of size m ws ≡ []
unfolding records_of
records_end size ws m e = rw e

-- ONE STEP OF EACH FOLD

-- one record more lies in the store
missing_next : (i n : ℕ) (f : Fields) (fs : List Fields) → missing_from i (suc n) (f ∷ fs) ≡ missing_from (suc i) n fs
unfolding missing_from
missing_next i n f fs =
    let k : suc (length fs) + i ≡ length fs + suc i = omega arith in
    ap (λ (t : Bool). if t then None else Some (suc (length fs) + i)) (eqb-suc-suc (length fs) n)
    ∙ ap (λ (x : ℕ). if eqb (length fs) n then None else Some x) k

-- none of those asked for does
missing_here : (i n m : ℕ) → m ≡ suc n → missing_from i m [] ≡ Some i
unfolding missing_from
missing_here i n m e =
    ap (λ (x : ℕ). if eqb 0 x then None else Some (0 + i)) e
    ∙ ap (λ (t : Bool). if t then None else Some (0 + i)) (eqb-zero-suc n)
    ∙ ap Some (zero-add i)

-- fields and offset
offset_told : (i at n : ℕ) (fs : List Fields) (t : Bool) (x : Option ℕ) → x ≡ (if t then Some n else None)
    → (x ≡ Some at → (if t then fields_fault (suc i) n fs else Some i) ≡ fields_fault (suc i) at fs)
    × (x ≡ None → (if t then fields_fault (suc i) n fs else Some i) ≡ Some i)
offset_told i at n fs true x e =
    (λ g. let q : n ≡ at = cc in ap (λ (k : ℕ). fields_fault (suc i) k fs) q, λ g. let z : ◌≡◌ {A = ℕ} 0 1 = cc in absurd (omega arith))
offset_told i at n fs false x e = (λ g. let z : ◌≡◌ {A = ℕ} 0 1 = cc in absurd (omega arith), λ g. refl)

-- tags
tag_if : (i : ℕ) (s : State) (more : State → Option ℕ) (t : Bool) (u : State) (x : Option State) → x ≡ (if t then Some u else None)
    → (x ≡ Some s → (if t then more u else Some i) ≡ more s) × (x ≡ None → (if t then more u else Some i) ≡ Some i)
tag_if i s more true u x e = (λ g. let q : u ≡ s = cc in ap more q, λ g. let z : ◌≡◌ {A = ℕ} 0 1 = cc in absurd (omega arith))
tag_if i s more false u x e = (λ g. let z : ◌≡◌ {A = ℕ} 0 1 = cc in absurd (omega arith), λ g. refl)

-- by the cell of the table
tag_told : (i tag : ℕ) (s : State) (more : State → Option ℕ) (c : Cell) (x : Option State) → x ≡ tag_by tag c
    → (x ≡ Some s → on_tag i tag c more ≡ more s) × (x ≡ None → on_tag i tag c more ≡ Some i)
unfolding tag_by
tag_told i tag s more (Ok (t, u)) x e = tag_if i s more (eqb tag t) u x e
tag_told i tag s more (Err n) x e = (λ g. let z : ◌≡◌ {A = ℕ} 0 1 = cc in absurd (omega arith), λ g. refl)

-- THE PASS

-- four folds that go on
lower_same : (m f s t m' f' s' t' : Option ℕ) → m ≡ m' → f ≡ f' → s ≡ s' → t ≡ t' → lower m (lower f (lower s t)) ≡ lower m' (lower f' (lower s' t'))
lower_same m f s t m' f' s' t' d e g h = rw (d, e, g, h)

-- one fold names the record at the index: no other names one before it
module _ (q : Asked) (i n at : ℕ) (l : Left) (s : State) (fs : List Fields) where
  by_missing : missing_from i n fs ≡ Some i → faults_from q i n at l s fs ≡ Some i
  unfolding faults_from
  by_missing = lowest_1 i _ _ _ _ (missing_late i n fs) (fields_late i at fs) (scan_late q.log q.strings i l fs) (tags_late q.whole i s fs)

  by_fields : fields_fault i at fs ≡ Some i → faults_from q i n at l s fs ≡ Some i
  unfolding faults_from
  by_fields = lowest_2 i _ _ _ _ (missing_late i n fs) (fields_late i at fs) (scan_late q.log q.strings i l fs) (tags_late q.whole i s fs)

  by_scan : (scan_from q.log q.strings i l fs).fault ≡ Some i → faults_from q i n at l s fs ≡ Some i
  unfolding faults_from
  by_scan = lowest_3 i _ _ _ _ (missing_late i n fs) (fields_late i at fs) (scan_late q.log q.strings i l fs) (tags_late q.whole i s fs)

  by_tags : tags_fault q.whole i s fs ≡ Some i → faults_from q i n at l s fs ≡ Some i
  unfolding faults_from
  by_tags = lowest_4 i _ _ _ _ (missing_late i n fs) (fields_late i at fs) (scan_late q.log q.strings i l fs) (tags_late q.whole i s fs)

module _ (q : Asked) (log strings : List ℕ) (i at a b : ℕ) (s : State) (f : Fields) (fs : List Fields) (n : ℕ) where
  -- a record whose fields are bad
  faults_fields : (x : Option ℕ) → x ≡ offset_after at f → x ≡ None
      → faults_from q i (suc n) at (left_at log strings a b) s (f ∷ fs) ≡ Some i
  unfolding offset_after fields_fault
  faults_fields x e g =
      by_fields q i (suc n) at (left_at log strings a b) s (f ∷ fs) ((offset_told i at (at + 4 * f.words) fs (fields_good at f) x e).1 g)

  -- one whose operands are bad
  faults_operands : (x : Option Passed) → x ≡ operands_after f (left_at log strings a b) → x ≡ None
      → faults_from q i (suc n) at (left_at log strings a b) s (f ∷ fs) ≡ Some i
  unfolding operands_after scan_from
  faults_operands x e g =
      by_scan q i (suc n) at (left_at log strings a b) s (f ∷ fs)
      (ap (λ (o : Option (Placed × Left)). (on_record i o (λ m. scan_from q.log q.strings (suc i) m fs)).fault) (passes_none _ _ x e g))

  -- one whose tag is bad
  faults_tag : (x : Option State) → x ≡ tag_after s f → x ≡ None
      → faults_from q i (suc n) at (left_at log strings a b) s (f ∷ fs) ≡ Some i
  unfolding tag_after tags_fault
  faults_tag x e g =
      by_tags q i (suc n) at (left_at log strings a b) s (f ∷ fs)
      ((tag_told i f.tag s (λ t. tags_fault q.whole (suc i) t fs) (layout_of (f.head % 65536) s) x e).1 g)

  -- one that is good in each fold
  faults_next : (x : Option ℕ) (at' : ℕ) → x ≡ offset_after at f → x ≡ Some at'
      → (y : Placed) (a' b' : ℕ) → take_record f (left_at log strings a b) ≡ Some (y, left_at log strings a' b')
      → (z : Option State) (s' : State) → z ≡ tag_after s f → z ≡ Some s'
      → faults_from q i (suc n) at (left_at log strings a b) s (f ∷ fs) ≡ faults_from q (suc i) n at' (left_at log strings a' b') s' fs
  unfolding faults_from offset_after fields_fault scan_from tag_after tags_fault
  faults_next x at' ex gx y a' b' ey z s' ez gz =
      lower_same _ _ _ _ _ _ _ _
      (missing_next i n f fs)
      ((offset_told i at' (at + 4 * f.words) fs (fields_good at f) x ex).0 gx)
      (ap (λ (o : Option (Placed × Left)). (on_record i o (λ m. scan_from q.log q.strings (suc i) m fs)).fault) ey)
      ((tag_told i f.tag s' (λ t. tags_fault q.whole (suc i) t fs) (layout_of (f.head % 65536) s) z ez).0 gz)

-- the end: log, strings and state decide
faults_end : (q : Asked) (log strings : List ℕ) (i at a b : ℕ) (s : State) (m : ℕ) → m ≡ 0
    → faults_from q i m at (left_at log strings a b) s []
    ≡ (if eqb a q.log && eqb b q.strings && (not q.whole || is_outside s) then None else Some i)
unfolding faults_from missing_from fields_fault scan_from tags_fault left_at is_outside
faults_end q log strings i at a b s m e = rw e (both_ends i (eqb a q.log && eqb b q.strings) (not q.whole || eqb (end_number s) 0))

-- at a record: the fault is that of the records from it on
pub record Checking (q : Asked) (ws log strings : List ℕ) (i at a b : ℕ) (s : State) : Type 0 where
  pub fault : fault_in q ws log strings
      ≡ faults_from q (suc i) (q.count - i) at (left_at log strings a b) s (records_of q.size (q.count - i) (drop (q.size * i) ws))
  pub within : i ≤ length ws / q.size
  pub few : i ≤ q.count
  pub in_log : a ≤ length log
  pub in_strings : b ≤ length strings

-- the fault that the answer at the end names
end_is : (t : Bool) (i : ℕ) → end_answer t (i + 1) ≡ (if t then None else Some (suc i))
unfolding end_answer
end_is true i = refl
end_is false i = ap Some (add-one i)

-- before the first
pub check_starts : (q : Asked) (ws log strings : List ℕ) → Checking q ws log strings 0 20 0 0 Outside
unfolding fault_in
check_starts q ws log strings =
    let n : q.count ≡ q.count - 0 = omega arith in
    let z : 0 ≡ q.size * 0 = omega arith in
    record {
      fault =
          ap (λ (n : ℕ). faults_from q 1 n 20 (left_at log strings 0 0) Outside (records_of q.size n ws)) n
          ∙ ap (λ (k : ℕ). faults_from q 1 (q.count - 0) 20 (left_at log strings 0 0) Outside (records_of q.size (q.count - 0) (drop k ws))) z;
      within = omega arith;
      few = omega arith;
      in_log = omega arith;
      in_strings = omega arith;
    }

module _ {q : Asked} {ws log strings : List ℕ} {i at a b : ℕ} {s : State} (some_size : field_size ≤ q.size)
    (r : Checking q ws log strings i at a b s) where
  -- an answer that names the record
  bad_here : faults_from q (suc i) (q.count - i) at (left_at log strings a b) s (records_of q.size (q.count - i) (drop (q.size * i) ws)) ≡ Some (suc i)
      → Some (i + 1) ≡ fault_in q ws log strings
  bad_here e = ap Some (add-one i) ∙ sym (r.fault ∙ e)

  -- a record that does not lie wholly in the store
  pub check_missing : i < q.count → length ws / q.size ≤ i → Some (i + 1) ≡ fault_in q ws log strings
  check_missing h g =
      let n : q.count - i ≡ suc (q.count - (i + 1)) = omega arith in
      bad_here
      (ap (faults_from q (suc i) (q.count - i) at (left_at log strings a b) s)
      (records_none q.size ws i (q.count - (i + 1)) (q.count - i) n some_size (past_store _ _ _ some_size g))
      ∙ by_missing q (suc i) (q.count - i) at (left_at log strings a b) s [] (missing_here (suc i) (q.count - (i + 1)) (q.count - i) n))

  module _ (h : i < q.count) (g : i < length ws / q.size) (f : Fields) (e : f ≡ fields_at (drop (q.size * i) ws)) where
    -- the record is the first of those that are left
    first : faults_from q (suc i) (q.count - i) at (left_at log strings a b) s (records_of q.size (q.count - i) (drop (q.size * i) ws))
        ≡ faults_from q (suc i) (suc (q.count - (i + 1))) at (left_at log strings a b) s
        (f ∷ records_of q.size (q.count - (i + 1)) (drop (q.size * (i + 1)) ws))
    first =
        let n : q.count - i ≡ suc (q.count - (i + 1)) = omega arith in
        ap (faults_from q (suc i) (q.count - i) at (left_at log strings a b) s)
        (records_by q.size ws i (q.count - (i + 1)) (q.count - i) n (in_store_lem _ _ _ some_size g)
        ∙ ap (λ (x : Fields). x ∷ records_of q.size (q.count - (i + 1)) (drop (q.size * (i + 1)) ws)) (sym e))
        ∙ ap (λ (n : ℕ). faults_from q (suc i) n at (left_at log strings a b) s (f ∷ records_of q.size (q.count - (i + 1)) (drop (q.size * (i + 1)) ws))) n

    -- its fields are bad
    pub check_fields : (x : Option ℕ) → x ≡ offset_after at f → x ≡ None → Some (i + 1) ≡ fault_in q ws log strings
    check_fields x c d = bad_here (first ∙ faults_fields q log strings (suc i) at a b s f _ (q.count - (i + 1)) x c d)

    -- its operands are bad
    pub check_operands : (x : Option Passed) → x ≡ operands_after f (left_at log strings a b) → x ≡ None
        → Some (i + 1) ≡ fault_in q ws log strings
    check_operands x c d = bad_here (first ∙ faults_operands q log strings (suc i) at a b s f _ (q.count - (i + 1)) x c d)

    -- its tag is bad
    pub check_tag : (x : Option State) → x ≡ tag_after s f → x ≡ None → Some (i + 1) ≡ fault_in q ws log strings
    check_tag x c d = bad_here (first ∙ faults_tag q log strings (suc i) at a b s f _ (q.count - (i + 1)) x c d)

    -- it is good
    pub check_goes_on : (x : Option ℕ) (at' : ℕ) → x ≡ offset_after at f → x ≡ Some at'
        → (y : Option Passed) (p : Passed) → y ≡ operands_after f (left_at log strings a b) → y ≡ Some p
        → (z : Option State) (s' : State) → z ≡ tag_after s f → z ≡ Some s'
        → Checking q ws log strings (i + 1) at' p.log p.strings s'
    check_goes_on x at' ex gx y p ey gy z s' ez gz =
        let k : suc i ≡ i + 1 = omega arith in
        let fs : List Fields = records_of q.size (q.count - (i + 1)) (drop (q.size * (i + 1)) ws) in
        let t = record_passes log strings a b f r.in_log r.in_strings y p ey gy in
        record {
          fault =
              r.fault ∙ first
              ∙ faults_next q log strings (suc i) at a b s f fs (q.count - (i + 1)) x at' ex gx t.value p.log p.strings t.is z s' ez gz
              ∙ ap (λ (n : ℕ). faults_from q (suc n) (q.count - (i + 1)) at' (left_at log strings p.log p.strings) s' fs) k;
          within = omega arith;
          few = omega arith;
          in_log = t.in_log;
          in_strings = t.in_strings;
        }

  -- all are passed: log, strings and state decide
  module _ (h : q.count ≤ i) (o : Bool) (e : o ≡ is_outside s) where
    -- the test of the end
    abbrev ended : Bool
    ended = eqb a q.log && eqb b q.strings && (not q.whole || o)

    -- it decides
    ends : (if ended then None else Some (suc i)) ≡ fault_in q ws log strings
    ends =
        let z : q.count - i ≡ 0 = omega arith in
        sym (r.fault
        ∙ ap (faults_from q (suc i) (q.count - i) at (left_at log strings a b) s) (records_end q.size (drop (q.size * i) ws) (q.count - i) z)
        ∙ faults_end q log strings (suc i) at a b s (q.count - i) z
        ∙ ap (λ (x : Bool). if eqb a q.log && eqb b q.strings && (not q.whole || x) then None else Some (suc i)) (sym e))

    -- the answer
    pub check_ends : (x : Option ℕ) → x ≡ end_answer ended (i + 1) → x ≡ fault_in q ws log strings
    check_ends x c = c ∙ end_is ended i ∙ ends

-- log and strings up to their counts
pub check_whole : (q : Asked) (ws log strings : List ℕ) (le se : ℕ) → le ≡ at_most q.log (length log) → se ≡ at_most q.strings (length strings)
    → (x : Option ℕ) → x ≡ fault_in q ws (take le log) (take se strings)
    → x ≡ fault_of q.size q.whole (given ws log strings q.count q.log q.strings)
unfolding fault_of fault_in faults_from missing_from missing left_at
check_whole q ws log strings le se c d x e =
    let a : take le log ≡ take q.log log = ap (λ (n : ℕ). take n log) c ∙ take_most q.log log in
    let b : take se strings ≡ take q.strings strings = ap (λ (n : ℕ). take n strings) d ∙ take_most q.strings strings in
    e ∙ ap (λ (l : List ℕ). fault_in q ws l (take se strings)) a ∙ ap (fault_in q ws (take q.log log)) b
