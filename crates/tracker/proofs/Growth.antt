-- Laws of how many entries there are: an instruction adds one at most, and takes none away.
use Prim.Native.Nat.{ℕ, ◌+◌, ◌*◌, ◌≤◌}
use mathlib.Core.Bool.{Bool, true, false}
use mathlib.Core.List.{List, [], ◌∷◌}
use Rattle.std.specs.Prelude.{Option, None, Some}
use native.Mathlib.Omega.{arith}
use lib.Dec.{leb, eqb}
use lib.ListN.{length}
use Rattle.std.specs.Prelude.{if◌then◌else◌}
use Rattle.spec.specs.Records.{Entry, entry}
use Rattle.spec.specs.Types.{is_type, entry_of, define, define_int, define_float, inherit, track_value}
use Rattle.tracker.specs.Entries.{entries_of}
use Rattle.tracker.specs.declared.Told.{Told}
use Rattle.tracker.specs.Track.{int_of, float_of, type_of, track_of, told_with, told_of}
use Rattle.tracker.proofs.Laws.{length_entries}

-- as many entries, or one more
pub record Grown (es after : List Entry) : Type 0 where
  pub least : length es ≤ length after
  pub most : length after ≤ length es + 1

-- nothing changes
grown_same : (es : List Entry) → Grown es es
grown_same es = record { least = omega arith; most = omega arith }

-- by a test
grown_if : (es x y : List Entry) (t : Bool) → Grown es x → Grown es y → Grown es (if t then x else y)
grown_if es x y true p q = p
grown_if es x y false p q = q

-- after an entry that stays
grown_later : (e : Entry) (es x : List Entry) → Grown es x → Grown (e ∷ es) (e ∷ x)
grown_later e es x g = record { least = omega (arith, g.least); most = omega (arith, g.most) }

-- an id is defined
grown_define : (i w s : ℕ) (es : List Entry) → Grown es (define i w s es)
unfolding define
grown_define i w s [] = record { least = omega arith; most = omega arith }
grown_define i w s (entry id x y ∷ es) =
    grown_if (entry id x y ∷ es) (entry i w s ∷ es) (entry id x y ∷ define i w s es) (eqb id i)
    (record { least = omega arith; most = omega arith }) (grown_later (entry id x y) es (define i w s es) (grown_define i w s es))

-- an integer type
grown_int : (i : ℕ) (a b : Option ℕ) (es : List Entry) → Grown es (define_int i a b es)
grown_int i (Some w) (Some sign) es = grown_define i w (if eqb sign 1 then 2 else 1) es
grown_int i (Some w) None es = grown_same es
grown_int i None b es = grown_same es

-- a float type
grown_float : (i : ℕ) (a : Option ℕ) (es : List Entry) → Grown es (define_float i a es)
grown_float i (Some w) es = grown_define i w 3 es
grown_float i None es = grown_same es

-- a value that inherits an entry
grown_inherit : (i : ℕ) (e : Option Entry) (es : List Entry) → Grown es (inherit i e es)
grown_inherit i None es = grown_same es
grown_inherit i (Some (entry id w s)) es = grown_define i w s es

-- a value
grown_value : (i : ℕ) (t : Option ℕ) (es : List Entry) → Grown es (track_value i t es)
grown_value i None es = grown_same es
grown_value i (Some t) es = grown_inherit i (entry_of t es) es

-- a type
grown_type : (op i count : ℕ) (a b : Option ℕ) (es : List Entry) → Grown es (type_of op i count a b es)
unfolding type_of int_of float_of
grown_type op i count a b es =
    grown_if es (int_of i count a b es) (if eqb op 22 then float_of i count a es else es) (eqb op 21)
    (grown_if es (define_int i a b es) es (leb 2 count) (grown_int i a b es) (grown_same es))
    (grown_if es (float_of i count a es) es (eqb op 22)
    (grown_if es (define_float i a es) es (leb 1 count) (grown_float i a es) (grown_same es)) (grown_same es))

-- tracking adds an entry at most, and takes none away
pub track_grows : (op : ℕ) (t rid : Option ℕ) (count : ℕ) (a b : Option ℕ) (es : List Entry) → Grown es (track_of op t rid count a b es)
unfolding track_of
track_grows op t None count a b es = grown_same es
track_grows op t (Some i) count a b es =
    grown_if es (type_of op i count a b es) (track_value i t es) (is_type op) (grown_type op i count a b es) (grown_value i t es)

-- so it does by what is told of an instruction
told_grows : (t : Told) (es : List Entry) → Grown es (told_of t es)
unfolding told_of told_with
told_grows t es = track_grows _ _ _ _ _ _ es

-- a store with room for the entries after an instruction has room for those before it
pub room_before : (t : Told) (n : ℕ) (l : List ℕ) → 3 * length (told_of t (entries_of n l)) ≤ length l → 3 * n ≤ length l
room_before t n l h = omega (arith, (told_grows t (entries_of n l)).least, length_entries n l)
