-- Loading as a run: what can become of each instruction, one case each, and no fuel. A load comes to what its run comes to, with
-- any fuel that is at least the whole words left.
use Prim.Native.Nat.{ℕ, zero, suc, ◌+◌, ◌*◌, ◌/◌, ◌≤◌, ◌<◌}
use mathlib.Core.Path.{◌≡◌, refl, ap, sym, ◌∙◌, subst}
use mathlib.Core.Bool.{Bool, true, false}
use mathlib.Core.List.{List}
use native.Mathlib.Omega.{arith}
use borrow.Author.Tests.{leb-true, lt-leb}
use lib.Dec.{eqb}
use lib.ListN.{length, length-append}
use Rattle.spec.specs.declared.Refusal.{Refusal}
use Rattle.spec.specs.declared.State.{State}
use Rattle.spec.specs.declared.Counts.{Counts}
use Rattle.std.specs.Prelude.{if◌then◌else◌}
use Rattle.spec.specs.Base.{has}
use Rattle.spec.specs.Records.{Instr, Placed}
use Rattle.spec.specs.Reader.{Reader, reader, Read, got, refused, after, ◌>>=◌, give, refuse}
use Rattle.spec.specs.Grammar.{Grammar}
use Rattle.spec.specs.Layout.{layout_of, end_number}
use Rattle.spec.specs.Match.{read_instr}
use Rattle.spec.specs.Load.{room_fault, Book, entered, Outcome, stop, placed, roomed, take_instr, on_book, finish, load_from}
use Rattle.demands.proofs.Lists.{has_leb}
use Rattle.demands.proofs.Formed.{GrammarGood}
use Rattle.demands.proofs.Instructions.{Frames, InstrRead, instr_read}
use Rattle.spec.specs.Layout.{Cell}
use Rattle.std.specs.Prelude.{Err, None, Ok}

-- THE RUN

-- an instruction is there, is read, and has its place: a tag and the state after it
pub record Enters (g : Grammar) (b : Book) (at : ℕ) (rest : List ℕ) : Type 0 where
  pub instr : Instr
  pub behind : List ℕ
  pub tag : ℕ
  pub state : State
  pub whole : has 4 rest ≡ true
  pub read : read_instr g b.types (reader at None rest) ≡ got instr (reader (at + 4 * instr.words) None behind)
  pub placed : layout_of instr.opcode b.state ≡ Ok (tag, state)

-- where the next one is read
abbrev pub next : {g : Grammar} {b : Book} {at : ℕ} {rest : List ℕ} → Enters g b at rest → ℕ
next {at = at} z = at + 4 * z.instr.words

-- the instruction with its tag
abbrev pub placed_of : {g : Grammar} {b : Book} {at : ℕ} {rest : List ℕ} → Enters g b at rest → Placed
placed_of z = record { instr = z.instr; tag = z.tag }

-- the book with it
abbrev pub with : {g : Grammar} {b : Book} {at : ℕ} {rest : List ℕ} → Enters g b at rest → Book
with {b = b} z = entered b z.instr z.tag z.state

-- no store lacks room for it, or one does
abbrev pub Fits : {g : Grammar} {b : Book} {at : ℕ} {rest : List ℕ} → Counts → Enters g b at rest → Bool → Type 0
Fits room z c = eqb (room_fault room (with z).used) 0 ≡ c

-- a load stops, with number, place and value: none is left; or the next instruction is not read, or has no place, or no room
pub data Stops (g : Grammar) (room : Counts) (b : Book) (at : ℕ) (rest : List ℕ) : ℕ → ℕ → ℕ → Type 0 where
  ends : has 4 rest ≡ false → Stops g room b at rest (end_number b.state) at 0
  unread : (x : Refusal) (t : Reader) → has 4 rest ≡ true → read_instr g b.types (reader at None rest) ≡ refused x t
      → Stops g room b at rest x.number x.place x.value
  misplaced : (i : Instr) (t : Reader) (n : ℕ) → has 4 rest ≡ true → read_instr g b.types (reader at None rest) ≡ got i t
      → layout_of i.opcode b.state ≡ Err n → Stops g room b at rest n i.offset 0
  crowded : (z : Enters g b at rest) → Fits room z false
      → Stops g room b at rest (room_fault room (with z).used) z.instr.offset 0

-- the instructions from a position on: the load stops, or keeps the next and goes on
pub data Run (g : Grammar) (room : Counts) (h : List ℕ) : Book → ℕ → List ℕ → Outcome → Type 0 where
  stops : {b : Book} {at : ℕ} {rest : List ℕ} (n place v : ℕ) → Stops g room b at rest n place v
      → Run g room h b at rest (stop h b n place v)
  keeps : {b : Book} {at : ℕ} {rest : List ℕ} {o : Outcome} (z : Enters g b at rest) → Fits room z true
      → Run g room h (with z) (next z) z.behind o → Run g room h b at rest o

module _ (g : Grammar) (good : GrammarGood g) where
  -- what was read
  pub entered_read : {b : Book} {at : ℕ} {rest : List ℕ} (z : Enters g b at rest)
      → InstrRead g b.types at rest z.instr (reader (next z) None z.behind)
  entered_read {b} {at} {rest} z = subst (Frames g b.types at rest) z.read (instr_read g good b.types at rest)

  -- the bytes behind an instruction are those after its words
  pub left_behind : {b : Book} {at : ℕ} {rest : List ℕ} (z : Enters g b at rest)
      → length rest ≡ 4 * z.instr.words + length z.behind
  left_behind z =
      let x = entered_read z in
      let same = ap (λ (t : Reader). length t.rest) x.to in
      ap length x.takes ∙ length-append x.from x.behind ∙ omega (arith, x.whole)

  -- fewer words are left
  fewer : {b : Book} {at : ℕ} {rest : List ℕ} (z : Enters g b at rest) → length z.behind / 4 < length rest / 4
  fewer z = omega (arith, left_behind z, (entered_read z).some_word)

  module _ (room : Counts) (h : List ℕ) where
    module _ (n : ℕ)
        (on : (b : Book) (at : ℕ) (rest : List ℕ) → length rest / 4 ≤ n
        → Run g room h b at rest (load_from g room h n b (reader at None rest)))
        (b : Book) (at : ℕ) (rest : List ℕ) (few : length rest / 4 ≤ suc n) where
      -- a step of `load_from`, by what became of the next book
      abbrev goes_on : Read Book → Outcome
      goes_on y = on_book h b y (load_from g room h n)

      -- by room
      room_runs : (z : Enters g b at rest) (c : Bool) → Fits room z c
          → Run g room h b at rest
          (goes_on ((if c then give (with z) else refuse (room_fault room (with z).used) z.instr.offset)
          (reader (next z) None z.behind)))
      room_runs z true e = keeps z e (on (with z) (next z) z.behind (omega (arith, fewer z)))
      room_runs z false e = stops _ _ _ (crowded z e)

      -- by layout
      cell_runs : has 4 rest ≡ true → (i : Instr) (behind : List ℕ)
          → read_instr g b.types (reader at None rest) ≡ got i (reader (at + 4 * i.words) None behind) → (c : Cell)
          → layout_of i.opcode b.state ≡ c
          → Run g room h b at rest (goes_on ((placed b i c >>= roomed room i) (reader (at + 4 * i.words) None behind)))
      cell_runs p i behind e (Ok (tag, s)) f =
          room_runs (record { instr = i; behind = behind; tag = tag; state = s; whole = p; read = e; placed = f }) _ refl
      cell_runs p i behind e (Err m) f = stops _ _ _ (misplaced i _ m p e f)

      -- by reading
      instr_runs : has 4 rest ≡ true → (y : Read Instr) → read_instr g b.types (reader at None rest) ≡ y
          → Frames g b.types at rest y
          → Run g room h b at rest (goes_on (after y (λ i. placed b i (layout_of i.opcode b.state) >>= roomed room i)))
      instr_runs p (got i t) e x =
          subst (λ (u : Reader). Run g room h b at rest (goes_on ((placed b i (layout_of i.opcode b.state) >>= roomed room i) u)))
          (sym x.to) (cell_runs p i x.behind (e ∙ ap (got i) x.to) (layout_of i.opcode b.state) refl)
      instr_runs p (refused x t) e y = stops _ _ _ (unread x t p e)

      -- by whether a word is left
      step_runs : (c : Bool) → has 4 rest ≡ c
          → Run g room h b at rest
          (if c then goes_on (take_instr g room b (reader at None rest)) else finish h b (reader at None rest))
      step_runs true p =
          instr_runs p (read_instr g b.types (reader at None rest)) refl (instr_read g good b.types at rest)
      step_runs false p = stops _ _ _ (ends p)

    -- a load is a run
    pub runs : (n : ℕ) (b : Book) (at : ℕ) (rest : List ℕ) → length rest / 4 ≤ n
        → Run g room h b at rest (load_from g room h n b (reader at None rest))
    unfolding load_from
    runs zero b at rest few = stops _ _ _ (ends (has_leb 4 rest ∙ lt-leb 4 (length rest) (omega arith)))
    runs (suc n) b at rest few = step_runs n (runs n) b at rest few (has 4 rest) refl

    -- there is fuel where a word is left
    some_fuel : (rest : List ℕ) → has 4 rest ≡ true → length rest / 4 ≤ 0 → ⊥
    some_fuel rest p few = let q = leb-true 4 (length rest) (sym (has_leb 4 rest) ∙ p) in omega arith

    -- a load stops where its run does
    stop_loads : {b : Book} {at : ℕ} {rest : List ℕ} {m place v : ℕ} → Stops g room b at rest m place v → (n : ℕ)
        → length rest / 4 ≤ n
        → load_from g room h n b (reader at None rest) ≡ stop h b m place v
    unfolding load_from
    stop_loads (ends p) zero few = refl
    stop_loads (ends p) (suc n) few = rw p
    stop_loads {rest = rest} (unread x t p e) zero few = absurd (some_fuel rest p few)
    stop_loads (unread x t p e) (suc n) few = rw (p, e)
    stop_loads {rest = rest} (misplaced i t m p e f) zero few = absurd (some_fuel rest p few)
    stop_loads (misplaced i t m p e f) (suc n) few = rw (p, e, f)
    stop_loads {rest = rest} (crowded z e) zero few = absurd (some_fuel rest z.whole few)
    stop_loads (crowded z e) (suc n) few = rw (z.whole, z.read, z.placed, e)

    -- and goes on where it does
    kept_on : {b : Book} {at : ℕ} {rest : List ℕ} (z : Enters g b at rest) → Fits room z true → (n : ℕ)
        → load_from g room h (suc n) b (reader at None rest)
        ≡ load_from g room h n (with z) (reader (next z) None z.behind)
    unfolding load_from
    kept_on z e n = rw (z.whole, z.read, z.placed, e)

    -- what a run comes to, a load comes to, with any fuel that is at least the whole words left
    pub loads : {b : Book} {at : ℕ} {rest : List ℕ} {o : Outcome} → Run g room h b at rest o → (n : ℕ) → length rest / 4 ≤ n
        → load_from g room h n b (reader at None rest) ≡ o
    loads (stops m place v x) n few = stop_loads x n few
    loads {rest = rest} (keeps z e run) zero few = absurd (some_fuel rest z.whole few)
    loads (keeps z e run) (suc n) few = kept_on z e n ∙ loads run n (omega (arith, fewer z))

    -- a run goes on after an instruction that is kept
    pub run_on : {b : Book} {at : ℕ} {rest : List ℕ} {o : Outcome} (z : Enters g b at rest) → Fits room z true
        → Run g room h b at rest o
        → Run g room h (with z) (next z) z.behind o
    run_on {rest = rest} z e run =
        let n = length rest / 4 in
        subst (Run g room h (with z) (next z) z.behind) (sym (kept_on z e n) ∙ loads run (suc n) (omega arith))
        (runs n (with z) (next z) z.behind (omega (arith, fewer z)))
