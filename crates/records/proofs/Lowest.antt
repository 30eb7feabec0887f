-- The lowest of the faults that the folds of the check name: a record that is bad in one of them is the lowest, where the faults from
-- it on are all at it or later.
use Prim.Native.Nat.{ℕ, suc, ◌+◌, ◌*◌, ◌%◌, ◌≤◌}
use mathlib.Core.Path.{◌≡◌, refl, ap, ◌∙◌}
use mathlib.Core.Bool.{Bool, true, false, ◌&&◌}
use mathlib.Core.List.{List, [], ◌∷◌}
use Rattle.std.specs.Prelude.{Option, None, Some}
use native.Mathlib.Omega.{arith}
use borrow.Author.Tests.{leb-true, le-leb}
use lib.Dec.{leb, eqb}
use lib.ListN.{length}
use Rattle.spec.specs.declared.State.{State}
use Rattle.spec.specs.declared.Fields.{Fields}
use Rattle.std.specs.Prelude.{if◌then◌else◌}
use Rattle.spec.specs.Base.{implies}
use Rattle.spec.specs.Layout.{layout_of, end_number}
use Rattle.spec.specs.Records.{Placed}
use Rattle.spec.specs.Check.{lower, fields_good, fields_fault, Left, take_record, Scan, on_record, scan_from, on_tag, tags_fault}
use Rattle.records.specs.Steps.{missing_from}
use Rattle.spec.specs.Layout.{Cell}
use Rattle.std.specs.Prelude.{Err, Ok}

-- no fault, or one at an index or later
unfoldable pub AtLeast : ℕ → Option ℕ → Type 0
AtLeast i None = Unit
AtLeast i (Some j) = i ≤ j

-- so it is from one index less on
earlier : (i : ℕ) (o : Option ℕ) → AtLeast (suc i) o → AtLeast i o
unfolding AtLeast
earlier i None h = tt
earlier i (Some j) h = omega arith

-- one of two
late_if : (i : ℕ) (t : Bool) (x y : Option ℕ) → AtLeast i x → AtLeast i y → AtLeast i (if t then x else y)
late_if i true x y h g = h
late_if i false x y h g = g

-- the lower of two
late_lower : (i : ℕ) (x y : Option ℕ) → AtLeast i x → AtLeast i y → AtLeast i (lower x y)
unfolding AtLeast
late_lower i None y h g = g
late_lower i (Some j) None h g = h
late_lower i (Some j) (Some k) h g = late_if i (leb j k) (Some j) (Some k) h g

-- a fault at an index is the lowest where no other is earlier
lower_left : (i : ℕ) (y : Option ℕ) → AtLeast i y → lower (Some i) y ≡ Some i
unfolding AtLeast
lower_left i None g = refl
lower_left i (Some j) g = ap (λ (t : Bool). if t then Some i else Some j) (le-leb i j g)

-- by whether the other is no later
right_by : (i j : ℕ) (t : Bool) → leb j i ≡ t → i ≤ j → (if t then Some j else Some i) ≡ Some i
right_by i j true e h = ap Some (let g : j ≤ i = leb-true j i e in omega arith)
right_by i j false e h = refl

-- nor where it is the second
lower_right : (i : ℕ) (x : Option ℕ) → AtLeast i x → lower x (Some i) ≡ Some i
unfolding AtLeast
lower_right i None g = refl
lower_right i (Some j) g = right_by i j (leb j i) refl g

-- four folds whose faults are at an index or later
module _ (i : ℕ) (m f s t : Option ℕ) (hm : AtLeast i m) (hf : AtLeast i f) (hs : AtLeast i s) (ht : AtLeast i t) where
  -- the first names it
  pub lowest_1 : m ≡ Some i → lower m (lower f (lower s t)) ≡ Some i
  lowest_1 e =
      ap (λ (x : Option ℕ). lower x (lower f (lower s t))) e
      ∙ lower_left i (lower f (lower s t)) (late_lower i f (lower s t) hf (late_lower i s t hs ht))

  -- the second does
  pub lowest_2 : f ≡ Some i → lower m (lower f (lower s t)) ≡ Some i
  lowest_2 e =
      ap (λ (x : Option ℕ). lower m (lower x (lower s t))) e
      ∙ ap (lower m) (lower_left i (lower s t) (late_lower i s t hs ht))
      ∙ lower_right i m hm

  -- the third does
  pub lowest_3 : s ≡ Some i → lower m (lower f (lower s t)) ≡ Some i
  lowest_3 e =
      ap (λ (x : Option ℕ). lower m (lower f (lower x t))) e
      ∙ ap (λ (x : Option ℕ). lower m (lower f x)) (lower_left i t ht)
      ∙ ap (lower m) (lower_right i f hf)
      ∙ lower_right i m hm

  -- the fourth does
  pub lowest_4 : t ≡ Some i → lower m (lower f (lower s t)) ≡ Some i
  lowest_4 e =
      ap (λ (x : Option ℕ). lower m (lower f (lower s x))) e
      ∙ ap (λ (x : Option ℕ). lower m (lower f x)) (lower_right i s hs)
      ∙ ap (lower m) (lower_right i f hf)
      ∙ lower_right i m hm

-- two tests of the end
pub both_ends : (i : ℕ) (x y : Bool) → lower (if x then None else Some i) (if y then None else Some i) ≡ (if x && y then None else Some i)
unfolding AtLeast
both_ends i true true = refl
both_ends i true false = refl
both_ends i false true = refl
both_ends i false false = lower_left i (Some i) (omega arith)

-- EACH FOLD NAMES NO RECORD BEFORE THOSE THAT IT SEES

-- records that do not lie in the store
pub missing_late : (i count : ℕ) (fs : List Fields) → AtLeast i (missing_from i count fs)
unfolding AtLeast missing_from
missing_late i count fs = late_if i (eqb (length fs) count) None (Some (length fs + i)) tt (omega arith)

-- fields and offsets
pub fields_late : (i at : ℕ) (fs : List Fields) → AtLeast i (fields_fault i at fs)
unfolding AtLeast fields_fault
fields_late i at [] = tt
fields_late i at (f ∷ fs) =
    late_if i (fields_good at f) (fields_fault (suc i) (at + 4 * f.words) fs) (Some i)
    (earlier i (fields_fault (suc i) (at + 4 * f.words) fs) (fields_late (suc i) (at + 4 * f.words) fs)) (omega arith)

-- after a record's operands
late_record : (i : ℕ) (o : Option (Placed × Left)) (more : Left → Scan) → ((m : Left) → AtLeast i (more m).fault)
    → AtLeast i (on_record i o more).fault
unfolding AtLeast
late_record i None more h = omega arith
late_record i (Some x) more h = h x.1

-- log and strings
pub scan_late : (lc sc i : ℕ) (l : Left) (fs : List Fields) → AtLeast i (scan_from lc sc i l fs).fault
unfolding AtLeast scan_from
scan_late lc sc i l [] = late_if i (eqb l.log_at lc && eqb l.strings_at sc) None (Some i) tt (omega arith)
scan_late lc sc i l (f ∷ fs) =
    late_record i (take_record f l) (λ m. scan_from lc sc (suc i) m fs)
    (λ m. earlier i (scan_from lc sc (suc i) m fs).fault (scan_late lc sc (suc i) m fs))

-- after the tag of a record
late_tag : (i tag : ℕ) (c : Cell) (more : State → Option ℕ) → ((s : State) → AtLeast i (more s)) → AtLeast i (on_tag i tag c more)
unfolding AtLeast
late_tag i tag (Ok (t, s)) more h = late_if i (eqb tag t) (more s) (Some i) (h s) (omega arith)
late_tag i tag (Err n) more h = omega arith

-- tags
pub tags_late : (whole : Bool) (i : ℕ) (s : State) (fs : List Fields) → AtLeast i (tags_fault whole i s fs)
unfolding AtLeast tags_fault
tags_late whole i s [] = late_if i (implies whole (eqb (end_number s) 0)) None (Some i) tt (omega arith)
tags_late whole i s (f ∷ fs) =
    late_tag i f.tag (layout_of (f.head % 65536) s) (λ t. tags_fault whole (suc i) t fs) (λ t. earlier i (tags_fault whole (suc i) t fs) (tags_late whole (suc i) t fs))
