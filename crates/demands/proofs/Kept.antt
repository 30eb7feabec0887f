-- What a run keeps, and what it reads that from: the bytes in front, from which alone it comes to the same book and ends there.
-- Where these are bytes, the instructions follow on as records can hold them, and the run comes to the same book from the bytes
-- written for them too.
use Prim.Native.Nat.{ℕ, ◌+◌, ◌*◌, ◌≤◌, ◌<◌}
use mathlib.Core.Path.{◌≡◌, refl, ap, sym, ◌∙◌, subst}
use mathlib.Core.Bool.{true}
use mathlib.Core.List.{List, [], ◌∷◌, ◌++◌, append_assoc, append-nil}
use native.Mathlib.Omega.{arith}
use native.Mathlib.Nat.{add-zero}
use borrow.Author.Tests.{leb-false, le-leb, eqb-false}
use lib.ListN.{length, length-append}
use Rattle.spec.specs.declared.State.{State}
use Rattle.spec.specs.declared.State.TheVariants.{Outside, Function, Block}
use Rattle.spec.specs.declared.Counts.{Counts}
use Rattle.spec.specs.Grammar.{Grammar}
use Rattle.spec.specs.Reader.{Reader, reader}
use Rattle.spec.specs.Layout.{layout_of, end_number}
use Rattle.spec.specs.Records.{Placed, instr_bytes}
use Rattle.spec.specs.Load.{Book, Outcome, stop}
use Rattle.spec.specs.Plain.{instr_break, kept_break}
use Rattle.spec.proofs.Breaks.{first_none, neither}
use Rattle.spec.specs.Write.{bytes_of_all}
use Rattle.spec.specs.Words.{AllBytes}
use Rattle.demands.proofs.Lists.{has_leb}
use Rattle.demands.proofs.Bytes.{all_append, all_left, all_right}
use Rattle.demands.proofs.Cells.{layout_refuses}
use Rattle.demands.proofs.Formed.{GrammarGood}
use Rattle.demands.proofs.Instructions.{InstrGood, ReadFrom, InstrSure, InstrRead, Frames, instr_read}
use Rattle.demands.proofs.Runs.{Enters, next, placed_of, with, Fits, Stops, ends, unread, misplaced, crowded, Run, stops, keeps, entered_read}
use Rattle.std.specs.Prelude.{None, Ok}

-- INSTRUCTIONS THAT FOLLOW ON

-- instructions that follow on from an offset and a state, and the state after them
pub data Follow : ℕ → State → List Placed → State → Type 0 where
  last : {at : ℕ} {s : State} → Follow at s [] s
  leading : {at : ℕ} {s t e : State} {p : Placed} {ps : List Placed}
      → InstrGood p.instr
      → p.instr.offset ≡ at
      → layout_of p.instr.opcode s ≡ Ok (p.tag, t)
      → Follow (at + 4 * p.instr.words) t ps e
      → Follow at s (p ∷ ps) e

-- how many words some instructions take
unfoldable pub words_in : List Placed → ℕ
words_in [] = 0
words_in (p ∷ ps) = p.instr.words + words_in ps

-- WHAT A RUN READS

-- the end of a load there
abbrev pub end_at : List ℕ → Book → ℕ → Outcome
end_at h b at = stop h b (end_number b.state) at 0

-- instructions that were kept from the bytes x, where these are bytes, and y, the bytes written for them
pub record RunSure (g : Grammar) (room : Counts) (h : List ℕ) (b : Book) (at : ℕ) (new : List Placed) (c : Book)
    (x y : List ℕ) : Type 0 where
  pub follow : Follow at b.state new c.state
  pub long : length y ≡ 4 * words_in new
  pub bytes : AllBytes y
  pub back : Run g room h b at y (end_at h c (at + 4 * words_in new))
  pub plain : (pre : List ℕ) → length pre ≡ at → kept_break (pre ++ y) new ≡ 0
  pub exact : (pre t : List ℕ) → length pre ≡ at → kept_break (pre ++ (x ++ t)) new ≡ 0 → x ≡ y

-- a run keeps new instructions from the bytes in front, and stops with a book; an accepted one stops at the end
pub record RunRead (g : Grammar) (room : Counts) (h : List ℕ) (b : Book) (at : ℕ) (rest : List ℕ) (o : Outcome) : Type 0 where
  pub book : Book
  pub new : List Placed
  pub from : List ℕ
  pub behind : List ℕ
  pub takes : rest ≡ from ++ behind
  pub whole : length from ≡ 4 * words_in new
  pub kept : book.kept ≡ b.kept ++ new
  pub stopped : o ≡ stop h book o.said.number o.said.offset o.said.value
  pub accepted : o.said.number ≡ 0 → (length behind < 4) × (book.state ≡ Outside) × (o ≡ end_at h book (at + 4 * words_in new))
  pub again : Run g room h b at from (end_at h book (at + 4 * words_in new))
  pub sure : AllBytes from → RunSure g room h b at new book from (bytes_of_all new)

-- an instruction that is kept is kept from other bytes that it is read from
abbrev pub enters_from : {g : Grammar} {b : Book} {at : ℕ} {rest : List ℕ} (z : Enters g b at rest) (y t : List ℕ)
    → ReadFrom g b.types at z.instr y → 4 ≤ length y → Enters g b at (y ++ t)
enters_from z y t read h =
    record {
      instr = z.instr;
      behind = t;
      tag = z.tag;
      state = z.state;
      whole = has_leb 4 (y ++ t) ∙ le-leb 4 (length (y ++ t)) (omega (arith, length-append y t));
      read = read t;
      placed = z.placed;
    }

module _ (g : Grammar) (good : GrammarGood g) (room : Counts) (h : List ℕ) where
  -- a load that stops with 0 is at the end, outside functions
  stop_accepted : {b : Book} {at : ℕ} {rest : List ℕ} {n place v : ℕ} → Stops g room b at rest n place v → n ≡ 0
      → (length rest < 4) × (b.state ≡ Outside) × (stop h b n place v ≡ end_at h b at)
  stop_accepted {b} {at} {rest} (ends p) e = (leb-false 4 (length rest) (sym (has_leb 4 rest) ∙ p), outside b.state e, refl)
    where
      outside : (s : State) → end_number s ≡ 0 → s ≡ Outside
      outside Outside e = refl
      outside Function e = absurd (omega arith)
      outside Block e = absurd (omega arith)
  stop_accepted {b} {at} {rest} (unread x t p r) e =
      let z = subst (Frames g b.types at rest) r (instr_read g good b.types at rest) in
      absurd (omega arith)
  stop_accepted {b} (misplaced i t n p r f) e = let z = layout_refuses i.opcode n b.state f in absurd (omega arith)
  stop_accepted (crowded z f) e = absurd (eqb-false _ 0 f e)

  -- nothing is kept
  read_none : {b : Book} {at : ℕ} {rest : List ℕ} {n place v : ℕ} → Stops g room b at rest n place v
      → RunRead g room h b at rest (stop h b n place v)
  unfolding words_in bytes_of_all kept_break
  read_none {b} {at} {rest} x =
      let here : Run g room h b at [] (end_at h b (at + 0)) = rw add-zero (stops _ _ _ (ends refl)) in
      record {
        book = b;
        new = [];
        from = [];
        behind = rest;
        takes = refl;
        whole = refl;
        kept = sym (append-nil b.kept);
        stopped = refl;
        accepted = λ e. rw add-zero (stop_accepted x e);
        again = here;
        sure = λ by.
            record {
              follow = last;
              long = refl;
              bytes = tt;
              back = here;
              plain = λ pre e. refl;
              exact = λ pre t e p. refl;
            };
      }

  -- one instruction before others
  module _ {b : Book} {at : ℕ} {rest : List ℕ} {o : Outcome} (z : Enters g b at rest) (fits : Fits room z true)
      (m : RunRead g room h (with z) (next z) z.behind o) where
    -- as it was read
    abbrev x : InstrRead g b.types at rest z.instr (reader (next z) None z.behind)
    x = entered_read g good z

    -- where all end
    end_is : (b : Book) → end_at h b (next z + 4 * words_in m.new) ≡ end_at h b (at + 4 * words_in (placed_of z ∷ m.new))
    unfolding words_in
    end_is b = ap (end_at h b) (omega arith)

    -- they are kept from bytes that it is read from, and others that those after it are
    keeps_from : (y t : List ℕ) → length y ≡ 4 * z.instr.words → ReadFrom g b.types at z.instr y
        → Run g room h (with z) (next z) t (end_at h m.book (next z + 4 * words_in m.new))
        → Run g room h b at (y ++ t) (end_at h m.book (at + 4 * words_in (placed_of z ∷ m.new)))
    keeps_from y t e read run =
        rw (← end_is m.book) (keeps (enters_from z y t read (omega (arith, x.some_word))) fits run)

    -- what is sure of them
    more_sure : AllBytes (x.from ++ m.from)
        → RunSure g room h b at (placed_of z ∷ m.new) m.book (x.from ++ m.from) (bytes_of_all (placed_of z ∷ m.new))
    unfolding words_in bytes_of_all kept_break
    more_sure by =
        let y : List ℕ = instr_bytes z.instr in
        let ys : List ℕ = bytes_of_all m.new in
        let u : InstrSure g b.types at z.instr x.from y = x.sure (all_left x.from m.from by) in
        let v : RunSure g room h (with z) (next z) m.new m.book m.from ys = m.sure (all_right x.from m.from by) in
        record {
          follow = leading u.good x.offset z.placed v.follow;
          long = length-append y ys ∙ omega (arith, u.long, v.long);
          bytes = all_append y ys u.bytes v.bytes;
          back = keeps_from y ys u.long u.back v.back;
          plain = λ pre e.
              first_none _ _ (u.plain pre ys e)
              ∙ subst (λ (l : List ℕ). kept_break l m.new ≡ 0) (append_assoc pre y ys)
              (v.plain (pre ++ y) (length-append pre y ∙ omega (arith, u.long)));
          exact = λ pre t e p.
              let all : List ℕ = pre ++ (x.from ++ m.from ++ t) in
              let one : all ≡ pre ++ (x.from ++ (m.from ++ t)) =
              ap (λ (l : List ℕ). pre ++ l) (append_assoc x.from m.from t) in
              let others : all ≡ pre ++ x.from ++ (m.from ++ t) = one ∙ sym (append_assoc pre x.from (m.from ++ t)) in
              let none = neither (instr_break all z.instr) (kept_break all m.new) p in
              cc (
                u.exact pre (m.from ++ t) e (rw one at none.0),
                v.exact (pre ++ x.from) t (length-append pre x.from ∙ omega (arith, x.whole)) (rw others at none.1),
              );
        }

    -- all of it
    read_more : RunRead g room h b at rest o
    unfolding words_in
    read_more =
        let behind : z.behind ≡ x.behind = ap (λ (t : Reader). t.rest) x.to in
        record {
          book = m.book;
          new = placed_of z ∷ m.new;
          from = x.from ++ m.from;
          behind = m.behind;
          takes =
              x.takes ∙ ap (λ (l : List ℕ). x.from ++ l) (sym behind ∙ m.takes)
              ∙ sym (append_assoc x.from m.from m.behind);
          whole = length-append x.from m.from ∙ omega (arith, x.whole, m.whole);
          kept = m.kept ∙ append_assoc b.kept (placed_of z ∷ []) m.new;
          stopped = m.stopped;
          accepted = λ e. let a = m.accepted e in (a.0, a.1, a.2 ∙ end_is m.book);
          again = keeps_from x.from m.from x.whole x.again m.again;
          sure = more_sure;
        }

  -- every run is so
  pub run_read : {b : Book} {at : ℕ} {rest : List ℕ} {o : Outcome} → Run g room h b at rest o → RunRead g room h b at rest o
  run_read (stops n place v x) = read_none x
  run_read (keeps z e run) = read_more z e (run_read run)
