-- Laws of the whole text: header, lines in module order, measured and written.
use Prim.Native.Nat.{ℕ, zero, suc, ◌*◌, ◌-◌, ◌<◌, ◌≤◌}
use mathlib.Core.Path.{◌≡◌, refl, ap, sym, subst, ◌∙◌}
use mathlib.Core.Bool.{Bool, true, false}
use mathlib.Core.List.{List, [], ◌∷◌, ◌++◌, append-nil, append_assoc}
use native.Mathlib.Omega.{arith}
use borrow.Author.Tests.{lt-ltb, le-ltb}
use lib.Dec.{ltb}
use lib.ListN.{length, get_or, length-append}
use lib.Seq.{sets}
use Rattle.spec.specs.declared.Fields.{Fields}
use Rattle.spec.specs.declared.Written.{Written}
use Rattle.std.specs.Prelude.{if◌then◌else◌}
use Rattle.spec.specs.Base.{joined, ascii}
use Rattle.spec.specs.Words.{major, minor}
use Rattle.spec.specs.Digits.{decimal}
use Rattle.spec.specs.Records.{Placed, record_size}
use Rattle.spec.specs.Load.{laid_over}
use Rattle.spec.specs.Write.{module_order, Writing, unwritten}
use Rattle.spec.specs.Disassembly.{header_text, instr_text, lines_text, module_text}
use Rattle.operand.specs.Log.{kept}
use Rattle.spelled.specs.Spelled.{said_by}
use Rattle.spelled.specs.Placing.{GoodStores, instrs_of, one_at}
use Rattle.assemble.specs.Writes.{Writes}
use Rattle.spelled.proofs.Spell.{joined_append}
use Rattle.spelled.proofs.Stores.{At, one_is, stores_in}
use Rattle.disassemble.specs.declared.walk.Cursor.{Cursor}
use Rattle.std.specs.Prelude.{Option, None, Some}
use Rattle.pieces.specs.Putting.{largest, Room, Wrote}
use Rattle.disassemble.specs.Listed.{left_of, Follows, BadFromOne, before_bad, text_over}
use Rattle.pieces.proofs.Put.{Going, going_starts}
use Rattle.disassemble.proofs.Cursors.{left_all}
use Rattle.std.specs.Prelude.{None, Option, Some}

-- THE HEADER

-- six pieces, one after the other
six_pieces : (a b c d e f : List ℕ) → a ++ b ++ c ++ d ++ e ++ f ≡ a ++ (b ++ (c ++ (d ++ (e ++ f))))
six_pieces a b c d e f =
    append_assoc (a ++ b ++ c ++ d) e f
    ∙ append_assoc (a ++ b ++ c) d (e ++ f)
    ∙ append_assoc (a ++ b) c (d ++ (e ++ f))
    ∙ append_assoc a b (c ++ (d ++ (e ++ f)))

-- those of the header
pub header_is : (h : List ℕ) → header_text h
    ≡ ascii "; SPIR-V\n; Version: " ++ (decimal (major (get_or h 1 0)) ++ (ascii "." ++ (decimal (minor (get_or h 1 0)) ++ (ascii "\n; Generator: rspirv\n; Bound: " ++ decimal (get_or h 3 0)))))
unfolding header_text
header_is h = six_pieces (ascii "; SPIR-V\n; Version: ") (decimal (major (get_or h 1 0))) (ascii ".") (decimal (minor (get_or h 1 0))) (ascii "\n; Generator: rspirv\n; Bound: ") (decimal (get_or h 3 0))

-- THE LINES

-- header and lines; of the header version and bound alone
pub module_text_lem : (h : List ℕ) (is : List Placed) → module_text h is ≡ header_text (0 ∷ get_or h 1 0 ∷ 0 ∷ get_or h 3 0 ∷ 0 ∷ []) ++ lines_text is (module_order is)
unfolding module_text header_text
module_text_lem h is = refl

-- all are left at first
pub lines_start : (keep : Bool) (out : List ℕ) (at : ℕ) (is : List Placed) → at ≤ largest → Room keep out at (lines_text is (module_order is))
    → Going keep out at (lines_text is (module_order is)) (lines_text is (left_of (record { tag = 1; at = 0; back = 0 }) is)) at out
lines_start keep out at is l r =
    subst (λ (z : List Placed). Going keep out at (lines_text is (module_order is)) (lines_text is z) at out) (left_all is) (going_starts keep out at (lines_text is (module_order is)) l r)

-- the next that there is
pub next_told : (is : List Placed) (count : ℕ) (x : List Placed) (r : Option (ℕ × Cursor)) (i : ℕ) (c : Cursor) → Follows is count x r → r ≡ Some (i, c) → (i < count) × (x ≡ one_at is i ++ left_of c is)
unfolding Follows
next_told is count x r i c f q = subst (Follows is count x) q f

-- there is none
pub lines_end : (is : List Placed) (count : ℕ) (x : List Placed) (r : Option (ℕ × Cursor)) → Follows is count x r → r ≡ None → lines_text is x ≡ []
unfolding Follows lines_text
lines_end is count x r f q = ap (lines_text is) (subst (Follows is count x) q f)

module _ {ws log strings : List ℕ} {count i : ℕ} {f : Fields} (a : At ws log strings count i f) (x y : List Placed) (e : x ≡ one_at (instrs_of ws log strings count) i ++ y) where
  -- the next line, and those after it
  pub lines_more : lines_text (instrs_of ws log strings count) x
      ≡ (ascii "\n" ++ instr_text (instrs_of ws log strings count) (said_by log strings f)) ++ lines_text (instrs_of ws log strings count) y
  unfolding lines_text
  lines_more =
      let is = instrs_of ws log strings count in
      let g : Placed → List ℕ = λ p. ascii "\n" ++ instr_text is p in
      ap (joined g) e
      ∙ joined_append g (one_at is i) y
      ∙ ap (λ (z : List Placed). joined g z ++ joined g y) (one_is a)
      ∙ ap (λ (z : List ℕ). z ++ joined g y) (append-nil (g (said_by log strings f)))

  -- they are fewer
  pub lines_fewer : length y < length x
  lines_fewer =
      omega (arith, ap length e ∙ length-append (one_at (instrs_of ws log strings count) i) y, ap length (one_is a))

-- MEASURED AND WRITTEN

-- the records lie in the store
pub stores_fit : (ws log strings : List ℕ) (count : ℕ) → GoodStores ws log strings count → record_size * count ≤ length ws
stores_fit ws log strings zero g = omega arith
stores_fit ws log strings (suc n) g = omega (arith, stores_in ws log strings (suc n) g n (omega arith))

-- measuring needs no room
pub measure_room : (out : List ℕ) (at : ℕ) (bs : List ℕ) → length out < largest → Room false out at bs
measure_room out at bs h = record { small = h; room = λ e. let z : ◌≡◌ {A = ℕ} 0 1 = cc in absurd (omega arith) }

-- one of two, by a test that holds
pick_yes : (t : Bool) (x y : Writing) → t ≡ true → x ≡ (if t then x else y)
pick_yes t x y e = rw e

-- the other, by a test that fails
pick_no : (t : Bool) (x y : Writing) → t ≡ false → y ≡ (if t then x else y)
pick_no t x y e = rw e

-- what one writing comes to, another comes to that is it
writes_as : {x y : Writing} {out : List ℕ} {w : Written} → x ≡ y → Writes x out w → Writes y out w
writes_as {out = out} {w = w} e h = subst (λ (z : Writing). Writes z out w) e h

-- a text that does not fit
over_full : (out bs : List ℕ) → length out < length bs → unwritten 32 0 out ≡ text_over out bs
unfolding text_over
over_full out bs h = pick_yes (ltb (length out) (length bs)) (unwritten 32 0 out) _ (lt-ltb (length out) (length bs) h)

-- one that does
over_done : (out bs : List ℕ) → length bs ≤ length out
    → ◌≡◌ {A = Writing} (record { said = record { number = 0; index = 0; bytes = length bs }; output = laid_over out bs }) (text_over out bs)
unfolding text_over
over_done out bs h = pick_no (ltb (length out) (length bs)) (unwritten 32 0 out) _ (le-ltb (length out) (length bs) h)

module _ (out bs : List ℕ) (small : length out < largest) (need : ℕ) (l : List ℕ) (m : Wrote false out 0 bs need l) where
  -- the output is as it was
  pub measured_same : l ≡ out
  unfolding kept
  measured_same = m.stored

  -- "32, exactly when the text does not fit"
  pub text_full : length l < need → Writes (text_over out bs) l (record { number = 32; index = 0; bytes = 0 })
  text_full g =
      writes_as (over_full out bs (omega (arith, g, ap length measured_same, m.place))) (record { said = refl; output = measured_same })

  module _ (g : need ≤ length l) where
    -- there is room for what was measured
    pub text_room : (keep : Bool) → Room keep l 0 bs
    text_room keep = record { small = omega (arith, ap length measured_same); room = λ _. omega (arith, g, small, m.place, ap length measured_same) }

    -- it is written
    pub text_done : (end : ℕ) (l' : List ℕ) → Wrote true l 0 bs end l' → Writes (text_over out bs) l' (record { number = 0; index = 0; bytes = end })
    unfolding kept laid_over
    text_done end l' w =
        let fits : length bs ≤ length out = omega (arith, g, small, m.place, ap length measured_same) in
        writes_as (over_done out bs fits)
        (record {
          said = ap (λ (n : ℕ). record { number = 0; index = 0; bytes = n }) (omega (arith, w.place, fits, small));
          output = w.stored ∙ ap (λ (z : List ℕ). sets z 0 bs) measured_same;
        })

-- THE FIRST THAT IS BAD

-- good records
pub before_good : (r : Option ℕ) (count : ℕ) → r ≡ None → count ≡ before_bad r count
unfolding before_bad
before_good r count e = sym (ap (λ (x : Option ℕ). before_bad x count) e)

-- a bad one
pub before_bad_lem : (r : Option ℕ) (count i : ℕ) → r ≡ Some i → i - 1 ≡ before_bad r count
unfolding before_bad
before_bad_lem r count i e = sym (ap (λ (x : Option ℕ). before_bad x count) e)

-- its index is one at least
pub bad_some : (r : Option ℕ) (i : ℕ) → BadFromOne r → r ≡ Some i → 1 ≤ i
unfolding BadFromOne
bad_some r i h e = subst BadFromOne e h
