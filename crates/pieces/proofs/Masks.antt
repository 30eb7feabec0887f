-- Laws of the loops over a mask's bits and over operands: what is written, and what is left.
use Prim.Native.Nat.{ℕ, ◌*◌, ◌-◌, ◌/◌, ◌%◌, ◌^◌, ◌<◌, ◌≤◌}
use mathlib.Core.Path.{◌≡◌, sym, subst}
use mathlib.Core.Bool.{Bool, false, ◌||◌}
use mathlib.Core.List.{List, [], ◌∷◌, ◌++◌}
use lib.Dec.{eqb}
use Rattle.spec.specs.Words.{bits_of}
use Rattle.spec.specs.Disassembly.{barred, operand_text, spaced}
use Rattle.records.specs.Good.{operand_at}
use Rattle.spelled.specs.Spelled.{AllReadable, operand_after, operands_from}
use Rattle.pieces.specs.Putting.{largest, Room, Wrote, bit_text}
use Rattle.pieces.proofs.Put.{Going, going_starts, going_on}
use Rattle.pieces.proofs.Texts.{Bits, bits_start, bits_left, bits_more, bits_turn, spaced_more, readable_more}

-- A MASK

-- the names of a mask's lower bits are written
pub record Masking (set mask : ℕ) (keep : Bool) (out₀ : List ℕ) (at₀ rest bit : ℕ) (bar : Bool) (at : ℕ) (out : List ℕ) : Type 0 where
  pub left : List ℕ
  pub bits : Bits set mask rest bit bar left
  pub going : Going keep out₀ at₀ (barred set (bits_of mask)) left at out

-- none at first
pub masking_starts : (set mask : ℕ) (keep : Bool) (out : List ℕ) (at : ℕ) → mask < 2 ^ 32 → at ≤ largest → Room keep out at (barred set (bits_of mask))
    → Masking set mask keep out at mask 1 false at out
masking_starts set mask keep out at h l r = record { left = barred set (bits_of mask); bits = bits_start set mask h; going = going_starts keep out at (barred set (bits_of mask)) l r }

-- one bit on
pub masking_on : {set mask : ℕ} {keep : Bool} {out₀ : List ℕ} {at₀ rest bit : ℕ} {bar : Bool} {at : ℕ} {out : List ℕ} (m : Masking set mask keep out₀ at₀ rest bit bar at out)
    (z : rest ≡ 0 → ⊥) (bar' : Bool) → bar' ≡ (bar || eqb (rest % 2) 1) → {at' : ℕ} {out' : List ℕ} → Wrote keep out at (bit_text set (rest % 2) bit bar) at' out'
    → Masking set mask keep out₀ at₀ (rest / 2) (2 * bit) bar' at' out'
masking_on m z bar' e w =
    record {
      left = bits_left m.bits z;
      bits = bits_turn m.bits z bar' e;
      going = going_on m.going _ _ (bits_more m.bits z) w;
    }

-- OPERANDS

-- the texts of the first operands are written
pub record Spacing (log strings : List ℕ) (first count : ℕ) (keep : Bool) (out₀ : List ℕ) (at₀ a left at : ℕ) (out : List ℕ) : Type 0 where
  pub readable : AllReadable left log strings a
  pub going : Going keep out₀ at₀ (spaced (operands_from count log strings first)) (spaced (operands_from left log strings a)) at out

-- none at first
pub spacing_starts : (log strings : List ℕ) (first count : ℕ) (keep : Bool) (out : List ℕ) (at : ℕ) → at ≤ largest → AllReadable count log strings first
    → Room keep out at (spaced (operands_from count log strings first)) → Spacing log strings first count keep out at first count at out
spacing_starts log strings first count keep out at l r h = record { readable = r; going = going_starts keep out at (spaced (operands_from count log strings first)) l h }

-- one operand on
pub spacing_on : {log strings : List ℕ} {first count : ℕ} {keep : Bool} {out₀ : List ℕ} {at₀ a left at : ℕ} {out : List ℕ}
    (s : Spacing log strings first count keep out₀ at₀ a left at out) (h : 0 < left) (a' left' : ℕ) → a' ≡ operand_after log a → left' ≡ left - 1
    → {at' : ℕ} {out' : List ℕ} → Wrote keep out at ((32 ∷ []) ++ operand_text (operand_at log strings a)) at' out'
    → Spacing log strings first count keep out₀ at₀ a' left' at' out'
spacing_on {log} {strings} {first} {count} {keep} {out₀} {at₀} {a} {left} s h a' left' e d {at'} {out'} w =
    rw d record {
      readable = subst (AllReadable (left - 1) log strings) (sym e) (readable_more left log strings a h s.readable).1;
      going = subst (λ (k : ℕ). Going keep out₀ at₀ (spaced (operands_from count log strings first)) (spaced (operands_from (left - 1) log strings k)) at' out') (sym e) (going_on s.going _ _ (spaced_more left log strings a h) w);
    }
