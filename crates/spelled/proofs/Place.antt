-- Laws of instructions placed in an output one after the other.
use Prim.Native.Nat.{ℕ, ◌+◌}
use mathlib.Core.Path.{◌≡◌, refl, ap, sym, subst, ◌∙◌}
use mathlib.Core.List.{List, [], ◌++◌, append_assoc, append-nil}
use native.Mathlib.Omega.{arith}
use native.Mathlib.Nat.{add-zero}
use lib.ListN.{length, length-append}
use lib.Seq.{sets, length-sets}
use Rattle.spec.specs.Records.{Placed, instr_bytes}
use Rattle.spec.specs.Write.{bytes_of_all}
use Rattle.spec.proofs.Store.{sets_append}
use Rattle.spelled.specs.Placing.{Room, Wrote}
use Rattle.spelled.proofs.Spell.{joined_append}

-- the bytes of instructions after others
pub bytes_append : (ps qs : List Placed) → bytes_of_all (ps ++ qs) ≡ bytes_of_all ps ++ bytes_of_all qs
unfolding bytes_of_all
bytes_append ps qs = joined_append (λ p. instr_bytes p.instr) ps qs

-- how many they are
pub length_bytes : (ps qs : List Placed) → length (bytes_of_all (ps ++ qs)) ≡ length (bytes_of_all ps) + length (bytes_of_all qs)
length_bytes ps qs = ap length (bytes_append ps qs) ∙ length-append (bytes_of_all ps) (bytes_of_all qs)

-- nothing is written
pub wrote_none : (out : List ℕ) (at : ℕ) → Wrote out at [] at out
unfolding bytes_of_all
wrote_none out at = record { place = sym (add-zero at); stored = refl }

-- an output keeps its length
pub wrote_length : {out : List ℕ} {at : ℕ} {ps : List Placed} {r : ℕ} {out' : List ℕ} → Wrote out at ps r out' → length out' ≡ length out
wrote_length {out} {at} {ps} w = ap length w.stored ∙ length-sets out at (bytes_of_all ps)

-- room for the first of two
pub room_first : {out : List ℕ} {at : ℕ} (ps qs : List Placed) → Room out at (ps ++ qs) → Room out at ps
room_first ps qs r = record { room = omega (arith, r.room, length_bytes ps qs) }

-- room for the second
pub room_next : {out : List ℕ} {at : ℕ} {r : ℕ} {out' : List ℕ} (ps qs : List Placed) → Room out at (ps ++ qs) → Wrote out at ps r out' → Room out' r qs
room_next ps qs h w = record { room = omega (arith, h.room, length_bytes ps qs, wrote_length w, w.place) }

-- one after the other
pub wrote_both : {out : List ℕ} {at : ℕ} {r : ℕ} {out' : List ℕ} {r' : ℕ} {out'' : List ℕ} (ps qs : List Placed)
    → Wrote out at ps r out' → Wrote out' r qs r' out'' → Wrote out at (ps ++ qs) r' out''
wrote_both {out} {at} {r} {out'} {r'} {out''} ps qs w v = record {
  place = omega (arith, w.place, v.place, length_bytes ps qs);
  stored =
      v.stored
      ∙ ap (λ (z : List ℕ). sets z r (bytes_of_all qs)) w.stored
      ∙ ap (λ (k : ℕ). sets (sets out at (bytes_of_all ps)) k (bytes_of_all qs)) w.place
      ∙ sets_append (bytes_of_all ps) (bytes_of_all qs) out at
      ∙ ap (sets out at) (sym (bytes_append ps qs));
}

-- other names for the same instructions
pub wrote_as : {out : List ℕ} {at : ℕ} {r : ℕ} {out' : List ℕ} (ps qs : List Placed) → ps ≡ qs → Wrote out at ps r out' → Wrote out at qs r out'
wrote_as {out} {at} {r} {out'} ps qs e w = subst (λ (z : List Placed). Wrote out at z r out') e w

-- room for them
pub room_as : {out : List ℕ} {at : ℕ} (ps qs : List Placed) → ps ≡ qs → Room out at ps → Room out at qs
room_as {out} {at} ps qs e r = subst (Room out at) e r

-- A WALK

-- of the instructions to write some are written, and the rest is known
pub record Going (out₀ : List ℕ) (at₀ : ℕ) (all rest : List Placed) (at : ℕ) (out : List ℕ) : Type 0 where
  pub acc : List Placed
  pub whole : all ≡ acc ++ rest
  pub room : Room out₀ at₀ all
  pub wrote : Wrote out₀ at₀ acc at out

-- none at first
pub going_starts : (out : List ℕ) (at : ℕ) (all rest : List Placed) → all ≡ rest → Room out at all → Going out at all rest at out
going_starts out at all rest e r = record { acc = []; whole = e; room = r; wrote = wrote_none out at }

module _ {out₀ : List ℕ} {at₀ : ℕ} {all rest : List Placed} {at : ℕ} {out : List ℕ} (g : Going out₀ at₀ all rest at out) where
  -- the output keeps its length
  pub going_length : length out ≡ length out₀
  going_length = wrote_length g.wrote

  -- all are written
  pub going_ends : rest ≡ [] → Wrote out₀ at₀ all at out
  going_ends e = wrote_as g.acc all (sym (g.whole ∙ ap (λ (z : List Placed). g.acc ++ z) e ∙ append-nil g.acc)) g.wrote

  module _ (Some rest' : List Placed) (e : rest ≡ Some ++ rest') where
    -- the next after those before
    split : all ≡ (g.acc ++ Some) ++ rest'
    split = g.whole ∙ ap (λ (z : List Placed). g.acc ++ z) e ∙ sym (append_assoc g.acc Some rest')

    -- there is room for the next where it is written
    pub going_room : Room out at Some
    going_room =
        let more = room_first (g.acc ++ Some) rest' (room_as all ((g.acc ++ Some) ++ rest') split g.room) in
        room_next g.acc Some more g.wrote

    -- the next is written
    pub going_on : {at' : ℕ} {out' : List ℕ} → Wrote out at Some at' out' → Going out₀ at₀ all rest' at' out'
    going_on w = record { acc = g.acc ++ Some; whole = split; room = g.room; wrote = wrote_both g.acc Some g.wrote w }
