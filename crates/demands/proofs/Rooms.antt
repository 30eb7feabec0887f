-- Room changes nothing but refusals for room: a module loads to the same in any two rooms, where neither load is refused for room.
use Prim.Native.Nat.{ℕ, zero, suc, ◌/◌}
use mathlib.Core.Path.{◌≡◌, refl, ap, sym, ◌∙◌}
use mathlib.Core.Bool.{Bool, true, false, true≢false}
use mathlib.Core.List.{List}
use borrow.Author.Tests.{le-leb}
use lib.Dec.{ltb, eqb}
use lib.ListN.{length, drop}
use Rattle.spec.specs.declared.Counts.{Counts}
use Rattle.std.specs.Prelude.{if◌then◌else◌}
use Rattle.spec.specs.Base.{has, within}
use Rattle.spec.specs.Records.{Instr}
use Rattle.spec.specs.Reader.{Reader, reader, Read, got, refused, Parse, after, ◌>>=◌}
use Rattle.spec.specs.Header.{header_from}
use Rattle.spec.specs.Grammar.{Grammar, grammar_of, well_formed}
use Rattle.spec.specs.Layout.{layout_of}
use Rattle.spec.specs.Match.{read_instr}
use Rattle.spec.specs.Load.{room_fault, Book, empty_book, entered, Outcome, lacks_room, placed, roomed, on_book, load_from, with_plain, load_with, load}
use Rattle.demands.proofs.Choice.{both, cases}
use Rattle.demands.proofs.Numbers.{room_number}
use Rattle.spec.specs.Layout.{Cell}
use Rattle.std.specs.Prelude.{Err, None, Ok}

-- a load is not refused for room
abbrev pub Roomy : Outcome → Type 0
Roomy o = lacks_room o.said ≡ false

-- two loads are the same, where neither is refused for room
abbrev pub Alike : Outcome → Outcome → Type 0
Alike x y = Roomy x → Roomy y → x ≡ y

-- a load and itself
itself : {x : Outcome} → Alike x x
itself f k = refl

-- whatever is said of plain
alike_plain : (s : List ℕ) {x y : Outcome} → Alike x y → Alike (with_plain s x) (with_plain s y)
alike_plain s a f k = ap (with_plain s) (a f k)

-- what a test chooses of loads that are alike
alike_if : (c : Bool) {x y u v : Outcome} → Alike x y → Alike u v → Alike (if c then x else u) (if c then y else v)
alike_if true p q = p
alike_if false p q = q

-- room that lacks has a number of room
room_refused : (room need : Counts) → eqb (room_fault room need) 0 ≡ false → within 25 (room_fault room need) 28 ≡ false → ⊥
room_refused room need e f =
    let n = room_number room need e in
    true≢false (sym (both (le-leb 25 (room_fault room need) n.0) (le-leb (room_fault room need) 28 n.1)) ∙ f)

module _ (g : Grammar) (room other : Counts) (h : List ℕ) (b : Book) {x y : Book → Reader → Outcome}
    (alike : (c : Book) (t : Reader) → Alike (x c t) (y c t)) where
  -- by room
  alike_room : (i : Instr) (c : Book) (t : Reader) → Alike (on_book h b (roomed room i c t) x) (on_book h b (roomed other i c t) y)
  alike_room i c t =
      let need = c.used in
      cases (eqb (room_fault room need) 0)
      (λ d. cases (eqb (room_fault other need) 0) (λ e. rw (d, e) (alike c t))
      (λ e. rw e (λ f k. absurd (room_refused other need e k))))
      (λ d. rw d (λ f k. absurd (room_refused room need d f)))

  -- by layout
  alike_cell : (i : Instr) (c : Cell) (t : Reader)
      → Alike (on_book h b ((placed b i c >>= roomed room i) t) x) (on_book h b ((placed b i c >>= roomed other i) t) y)
  alike_cell i (Ok (tag, s)) t = alike_room i (entered b i tag s) t
  alike_cell i (Err n) t = itself

  -- what follows decoding, in a room
  abbrev admitted : Counts → Instr → Parse Book
  admitted c i = placed b i (layout_of i.opcode b.state) >>= roomed c i

  -- by reading
  alike_instr : (z : Read Instr) → Alike (on_book h b (after z (admitted room)) x) (on_book h b (after z (admitted other)) y)
  alike_instr (got i t) = alike_cell i (layout_of i.opcode b.state) t
  alike_instr (refused x t) = itself

-- the instructions
alike_from : (g : Grammar) (room other : Counts) (h : List ℕ) (n : ℕ) (b : Book) (r : Reader)
    → Alike (load_from g room h n b r) (load_from g other h n b r)
unfolding load_from
alike_from g room other h zero b r = itself
alike_from g room other h (suc n) b r =
    alike_if (has 4 r.rest) (alike_instr g room other h b (alike_from g room other h n) (read_instr g b.types r)) itself

-- a module loads to the same in any two rooms, where neither load is refused for room
pub any_room : (grammar : List ℕ) (room other : Counts) (s : List ℕ) → Alike (load grammar room s) (load grammar other s)
unfolding load load_with
any_room grammar room other s =
    alike_if (well_formed grammar)
    (alike_if (ltb 67108864 (length s)) itself
    (alike_if (eqb (header_from s).refusal.number 0)
    (alike_plain s
    (alike_from (grammar_of grammar) room other (header_from s).words (length s / 4) empty_book (reader 20 None (drop 20 s))))
    itself))
    itself
