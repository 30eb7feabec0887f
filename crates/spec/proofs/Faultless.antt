-- Records in which the check finds no fault: what its folds say of them.
use Prim.Native.Nat.{ℕ, suc, ◌%◌, ◌≤◌}
use mathlib.Core.Path.{◌≡◌, refl, ap, sym}
use mathlib.Core.Bool.{Bool, true, false, ◌&&◌}
use mathlib.Core.List.{List, [], ◌∷◌}
use Rattle.std.specs.Prelude.{Option, None, Some}
use Rattle.std.proofs.lemmas.Option.{none-some}
use native.Mathlib.Omega.{arith}
use borrow.Author.Tests.{eqb-true, eq-eqb, leb-true}
use lib.Dec.{leb, ltb, eqb}
use Rattle.spec.specs.declared.State.{State}
use Rattle.spec.specs.declared.State.TheVariants.{Outside}
use Rattle.spec.specs.declared.Fields.{Fields}
use Rattle.std.specs.Prelude.{if◌then◌else◌}
use Rattle.spec.specs.Base.{implies}
use Rattle.spec.specs.Records.{Operand, Placed}
use Rattle.spec.specs.Layout.{layout_of}
use Rattle.spec.specs.Check.{Given, lower, missing, bits_in, fields_good, fields_fault, Left, take_operands, placed_of, words_good, take_record, Scan, on_record, scan_from, on_tag, tags_fault, records_in, scan_of, fault_of, good, checked_by, check}
use Rattle.spec.proofs.Choice.{left, right, either, IfSome, if_then}
use Rattle.spec.specs.Layout.{Cell}
use Rattle.std.specs.Prelude.{Err, Ok}

-- THE FOLDS

-- the lower of two faults is none where both are
none_lower : (a b : Option ℕ) → lower a b ≡ None → (a ≡ None) × (b ≡ None)
none_lower None b e = (refl, e)
none_lower (Some i) None e = absurd (none-some i (sym e))
none_lower (Some i) (Some j) e =
    absurd
    (either (λ (o : Option ℕ). o ≡ None → ⊥) (leb i j) (Some i) (Some j) (λ c e. none-some i (sym e))
    (λ c e. none-some j (sym e)) e)

-- a test without fault holds, and what it goes on with is without fault
pub none_if : (i : ℕ) (t : Bool) (x : Option ℕ) → (if t then x else Some i) ≡ None → (t ≡ true) × (x ≡ None)
none_if i true x e = (refl, e)
none_if i false x e = absurd (none-some i (sym e))

-- where there is no fault, no fold finds one
pub record Faultless (size : ℕ) (whole : Bool) (x : Given) : Type 0 where
  pub present : missing x.count (records_in size x) ≡ None
  pub fields : fields_fault 1 20 (records_in size x) ≡ None
  pub scan : (scan_of size x).fault ≡ None
  pub tags : tags_fault whole 1 Outside (records_in size x) ≡ None

-- that is what no fault says
pub no_faults : (size : ℕ) (whole : Bool) (x : Given) → fault_of size whole x ≡ None → Faultless size whole x
unfolding fault_of
no_faults size whole x e =
    let others = none_lower (missing x.count (records_in size x)) _ e in
    let scans = none_lower (fields_fault 1 20 (records_in size x)) _ others.1 in
    let tags = none_lower (scan_of size x).fault _ scans.1 in
    record { present = others.0; fields = scans.0; scan = tags.0; tags = tags.1 }

-- where the check is passed, there is no fault
pub good_told : (size : ℕ) (whole : Bool) (x : Given) (is : List Placed) → check size whole x ≡ good is
    → (fault_of size whole x ≡ None) × ((scan_of size x).instrs ≡ is)
unfolding check
good_told size whole x is e = by (fault_of size whole x) e
  where
    by : (o : Option ℕ) → checked_by o (scan_of size x).instrs ≡ good is → (o ≡ None) × ((scan_of size x).instrs ≡ is)
    by None e = (refl, (cc))
    by (Some i) e = let z : ◌≡◌ {A = ℕ} 0 1 = cc in absurd (omega arith)

-- THE FIELDS

-- what good fields hold
pub fields_told : (at : ℕ) (f : Fields) → fields_good at f ≡ true → (f.offset ≡ at) × (f.words ≤ 65535)
unfolding fields_good
fields_told at f e =
    let known : Bool =
    leb (bits_in f) 3 && implies (eqb (bits_in f % 2) 0) (eqb f.rtype 0) && implies (ltb (bits_in f) 2) (eqb f.rid 0) in
    let follows = right known (eqb f.offset at) (left (known && eqb f.offset at) (leb f.words 65535) e) in
    (eqb-true f.offset at follows, leb-true f.words 65535 (right (known && eqb f.offset at) (leb f.words 65535) e))

-- THE SCAN

-- what a record that was taken says, and what is left after it
pub record Said (f : Fields) (l : Left) (x : Placed × Left) : Type 0 where
  pub operands : List Operand
  pub taken : take_operands f.count l ≡ Some (operands, x.1)
  pub start : f.start ≡ l.log_at
  pub words : words_good (placed_of f operands) ≡ true
  pub is : x.0 ≡ placed_of f operands

-- that is what taking a record gives
pub record_said : (f : Fields) (l : Left) → IfSome (Said f l) (take_record f l)
unfolding take_record
record_said f l =
    if_then (Said f l) (take_operands f.count l) _
    (λ y e. either (IfSome (Said f l)) (eqb f.start l.log_at && words_good (placed_of f y.0)) _ None
    (λ t. record {
      operands = y.0;
      taken = e;
      start = eqb-true _ _ (left _ _ t);
      words = right (eqb f.start l.log_at) _ t;
      is = refl;
    })
    (λ t. tt))

-- records each of which was taken, what they say, and both counts taken in the end
pub data Scans (log_count string_count : ℕ) : Left → List Fields → List Placed → Type 0 where
  ends : {l : Left} → l.log_at ≡ log_count → l.strings_at ≡ string_count → Scans log_count string_count l [] []
  says : {f : Fields} {l : Left} {x : Placed × Left} {fs : List Fields} {is : List Placed} → Said f l x
      → Scans log_count string_count x.1 fs is → Scans log_count string_count l (f ∷ fs) (x.0 ∷ is)

module _ (log_count string_count : ℕ) where
  -- a record and those after it
  scans_on : (index : ℕ) (f : Fields) (fs : List Fields) (l : Left) (more : Left → Scan) (o : Option (Placed × Left))
      → IfSome (Said f l) o
      → ((m : Left) → (more m).fault ≡ None → Scans log_count string_count m fs (more m).instrs)
      → (on_record index o more).fault ≡ None → Scans log_count string_count l (f ∷ fs) (on_record index o more).instrs
  scans_on index f fs l more None p on e = absurd (none-some index (sym e))
  scans_on index f fs l more (Some x) p on e = says p (on x.1 e)

  -- records without fault
  pub scans : (fs : List Fields) (index : ℕ) (l : Left) → (scan_from log_count string_count index l fs).fault ≡ None
      → Scans log_count string_count l fs (scan_from log_count string_count index l fs).instrs
  unfolding scan_from
  scans [] index l e =
      let t = (none_if index (eqb l.log_at log_count && eqb l.strings_at string_count) None e).0 in
      ends (eqb-true _ _ (left _ _ t)) (eqb-true _ _ (right (eqb l.log_at log_count) _ t))
  scans (f ∷ fs) index l e =
      scans_on index f fs l (λ m. scan_from log_count string_count (suc index) m fs) (take_record f l) (record_said f l)
      (scans fs (suc index)) e

-- THE TAGS

-- a tag without fault is the one that the table gives, and so on after it
pub tag_told : (index tag : ℕ) (c : Cell) (more : State → Option ℕ) → on_tag index tag c more ≡ None
    → (s : State) × (c ≡ Ok (tag, s)) × (more s ≡ None)
tag_told index tag (Err n) more e = absurd (none-some index (sym e))
tag_told index tag (Ok (t, s)) more e =
    let same = none_if index (eqb tag t) (more s) e in
    (s, ap (λ (k : ℕ). Ok (k, s)) (sym (eqb-true tag t same.0)), same.1)

-- tags without fault that end outside functions are so wherever they may end
tags_part : (fs : List Fields) (index : ℕ) (s : State) → tags_fault true index s fs ≡ None → tags_fault false index s fs ≡ None
unfolding tags_fault
tags_part [] index s e = refl
tags_part (f ∷ fs) index s e =
    let t = tag_told index f.tag (layout_of (f.head % 65536) s) _ e in
    rw (t.1, eq-eqb f.tag f.tag refl) (tags_part fs (suc index) t.0 t.2)

-- so are the records
pub part_faultless : (size : ℕ) (x : Given) → fault_of size true x ≡ None → fault_of size false x ≡ None
unfolding fault_of
part_faultless size x e =
    let z = no_faults size true x e in
    rw (z.present, z.fields, z.scan, tags_part (records_in size x) 1 Outside z.tags)
