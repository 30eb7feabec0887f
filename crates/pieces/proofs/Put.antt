-- Laws of texts placed in an output one after the other.
use Prim.Native.Nat.{ℕ, ◌+◌, ◌≤◌, min}
use mathlib.Core.Path.{◌≡◌, refl, ap, sym, subst, ◌∙◌}
use mathlib.Core.Bool.{Bool, true, false}
use mathlib.Core.List.{List, [], ◌++◌, append_assoc, append-nil}
use native.Mathlib.Omega.{arith}
use lib.ListN.{length, length-append}
use lib.Seq.{sets}
use Rattle.spec.specs.Digits.{hex_digits}
use Rattle.spec.proofs.Store.{sets_append}
use Rattle.operand.specs.Log.{kept}
use Rattle.operand.proofs.LogLaws.{kept_yes, kept_no, kept_nil, length_kept}
use Rattle.texts.specs.Wrote.{Wrote as WroteText}
use Rattle.texts.proofs.Filling.{hex_length}
use Rattle.pieces.specs.Putting.{largest, Room, Wrote}

-- nothing is written
pub wrote_none : (keep : Bool) (out : List ℕ) (at : ℕ) → at ≤ largest → Wrote keep out at [] at out
wrote_none keep out at h = record { place = omega arith; stored = kept_nil keep out at }

-- an output keeps its length
pub wrote_length : {keep : Bool} {out : List ℕ} {at : ℕ} {bs : List ℕ} {r : ℕ} {out' : List ℕ} → Wrote keep out at bs r out' → length out' ≡ length out
wrote_length {keep} {out} {at} {bs} w = ap length w.stored ∙ length_kept keep out at bs

-- room for the first of two
pub room_first : {keep : Bool} {out : List ℕ} {at : ℕ} (xs ys : List ℕ) → Room keep out at (xs ++ ys) → Room keep out at xs
room_first xs ys r = record { small = r.small; room = λ e. omega (arith, r.room e, length-append xs ys) }

-- room for the second
pub room_next : {keep : Bool} {out : List ℕ} {at : ℕ} {r : ℕ} {out' : List ℕ} (xs ys : List ℕ) → Room keep out at (xs ++ ys)
    → Wrote keep out at xs r out' → Room keep out' r ys
room_next xs ys h w = record {
  small = omega (arith, h.small, wrote_length w);
  room = λ e. omega (arith, h.room e, h.small, length-append xs ys, wrote_length w, w.place);
}

-- the second follows the first where it is kept
follows : (keep : Bool) (out out' out'' xs ys : List ℕ) (at r : ℕ) → (keep ≡ true → r ≡ at + length xs) → out' ≡ kept keep out at xs → out'' ≡ kept keep out' r ys
    → out'' ≡ kept keep out at (xs ++ ys)
unfolding kept
follows true out out' out'' xs ys at r h e f =
    f ∙ ap (λ (z : List ℕ). kept true z r ys) e ∙ ap (λ (k : ℕ). kept true (kept true out at xs) k ys) (h refl) ∙ sets_append xs ys out at
follows false out out' out'' xs ys at r h e f = f ∙ e

-- one after the other
pub wrote_both : {keep : Bool} {out : List ℕ} {at : ℕ} {r : ℕ} {out' : List ℕ} {r' : ℕ} {out'' : List ℕ} (xs ys : List ℕ) → Room keep out at (xs ++ ys)
    → Wrote keep out at xs r out' → Wrote keep out' r ys r' out'' → Wrote keep out at (xs ++ ys) r' out''
wrote_both {keep} {out} {at} {r} {out'} {r'} {out''} xs ys h w v = record {
  place = omega (arith, w.place, v.place, length-append xs ys);
  stored = follows keep out out' out'' xs ys at r (λ e. omega (arith, h.room e, h.small, length-append xs ys, w.place)) w.stored v.stored;
}

-- another name for the same text
pub wrote_as : {keep : Bool} {out : List ℕ} {at : ℕ} {r : ℕ} {out' : List ℕ} (xs ys : List ℕ) → xs ≡ ys → Wrote keep out at xs r out' → Wrote keep out at ys r out'
wrote_as {keep} {out} {at} {r} {out'} xs ys e w = subst (λ (z : List ℕ). Wrote keep out at z r out') e w

-- room for it
pub room_as : {keep : Bool} {out : List ℕ} {at : ℕ} (xs ys : List ℕ) → xs ≡ ys → Room keep out at xs → Room keep out at ys
room_as {keep} {out} {at} xs ys e r = subst (Room keep out at) e r

-- a text that is kept
pub wrote_yes : (keep : Bool) (out : List ℕ) (at : ℕ) (bs : List ℕ) (r : ℕ) (out' : List ℕ) → keep ≡ true → r ≡ min (at + length bs) largest → out' ≡ sets out at bs
    → Wrote keep out at bs r out'
wrote_yes keep out at bs r out' e p s = record { place = p; stored = kept_yes keep out at bs out' e s }

-- a text in a buffer is kept
pub text_yes : (keep : Bool) (out : List ℕ) (at : ℕ) (bs : List ℕ) (r : ℕ) (out' : List ℕ) → Room keep out at bs → keep ≡ true → WroteText out out' at r bs
    → Wrote keep out at bs r out'
text_yes keep out at bs r out' h e w = wrote_yes keep out at bs r out' e (omega (arith, w.ends, h.room e, h.small)) w.is

-- a text that is not
pub wrote_no : (keep : Bool) (out : List ℕ) (at : ℕ) (bs : List ℕ) (r : ℕ) → keep ≡ false → r ≡ min (at + length bs) largest → Wrote keep out at bs r out
wrote_no keep out at bs r e p = record { place = p; stored = kept_no keep out at bs e }

-- hexadecimal digits have room where so many bytes have it
pub hex_room : (keep : Bool) (out : List ℕ) (at n v : ℕ) → Room keep out at (hex_digits n v) → keep ≡ true → at + n ≤ length out
hex_room keep out at n v h e = omega (arith, h.room e, hex_length n v)

-- hexadecimal digits that are not kept
pub hex_no : (keep : Bool) (out : List ℕ) (at n v r : ℕ) → keep ≡ false → r ≡ min (at + n) largest → Wrote keep out at (hex_digits n v) r out
hex_no keep out at n v r e p = wrote_no keep out at (hex_digits n v) r e (omega (arith, p, hex_length n v))

-- A WALK

-- of a text some is written, and the rest is known
pub record Going (keep : Bool) (out₀ : List ℕ) (at₀ : ℕ) (all rest : List ℕ) (at : ℕ) (out : List ℕ) : Type 0 where
  pub acc : List ℕ
  pub whole : all ≡ acc ++ rest
  pub room : Room keep out₀ at₀ all
  pub wrote : Wrote keep out₀ at₀ acc at out

-- none at first
pub going_starts : (keep : Bool) (out : List ℕ) (at : ℕ) (all : List ℕ) → at ≤ largest → Room keep out at all → Going keep out at all all at out
going_starts keep out at all h r = record { acc = []; whole = refl; room = r; wrote = wrote_none keep out at h }

module _ {keep : Bool} {out₀ : List ℕ} {at₀ : ℕ} {all rest : List ℕ} {at : ℕ} {out : List ℕ} (g : Going keep out₀ at₀ all rest at out) where
  -- the output keeps its length
  pub going_length : length out ≡ length out₀
  going_length = wrote_length g.wrote

  -- all is written
  pub going_ends : rest ≡ [] → Wrote keep out₀ at₀ all at out
  going_ends e = wrote_as g.acc all (sym (g.whole ∙ ap (λ (z : List ℕ). g.acc ++ z) e ∙ append-nil g.acc)) g.wrote

  module _ (part rest' : List ℕ) (e : rest ≡ part ++ rest') where
    -- the next after what went before
    split : all ≡ (g.acc ++ part) ++ rest'
    split = g.whole ∙ ap (λ (z : List ℕ). g.acc ++ z) e ∙ sym (append_assoc g.acc part rest')

    -- there is room for what went before and the next
    more_room : Room keep out₀ at₀ (g.acc ++ part)
    more_room = room_first (g.acc ++ part) rest' (room_as all ((g.acc ++ part) ++ rest') split g.room)

    -- there is room for the next where it is written
    pub going_room : Room keep out at part
    going_room = room_next g.acc part more_room g.wrote

    -- the next is written
    pub going_on : {at' : ℕ} {out' : List ℕ} → Wrote keep out at part at' out' → Going keep out₀ at₀ all rest' at' out'
    going_on w = record { acc = g.acc ++ part; whole = split; room = g.room; wrote = wrote_both g.acc part more_room g.wrote w }
