-- The laws of opcode kinds and of the layout table.
use Prim.Native.Nat.{ℕ, zero, suc, ◌+◌, ◌-◌, ◌<◌, ◌≤◌}
use mathlib.Core.Path.{◌≡◌, refl, ap, sym, ◌∙◌}
use mathlib.Core.Bool.{Bool, true, false}
use mathlib.Core.List.{List, [], ◌∷◌}
use native.Mathlib.Omega.{arith}
use native.Mathlib.Nat.{zero-add, add-zero, add-suc, suc-add}
use lib.Dec.{T, eqb, eqb→eq}
use lib.ListN.{length, get_or}
use mir.Facts.{and_yes}
use Rattle.std.specs.Prelude.{if◌then◌else◌}
use Rattle.spec.specs.Base.{is_in, every}
use Rattle.spec.specs.declared.State.{State}
use Rattle.spec.specs.declared.State.TheVariants.{Outside, Function, Block}
use Rattle.spec.specs.Layout.{Line, lines, opcode_kind, kind_from, layout_at, layout_of}
use Rattle.reflect.specs.Column.{column_of, code_of, line_of, listed, layout_table, kind_table}
use Rattle.reflect.proofs.Arms.{NoneOf, pass, passed, clear, absent}
use Rattle.spec.specs.Layout.{Cell}
use Rattle.std.specs.Prelude.{Err, Ok}

-- a list by a rule has at each place what the rule gives there
listed_at : {A : Type 0} (f : ℕ → A) (d : A) (n a i : ℕ) → i < n → get_or (listed f a n) i d ≡ f (a + i)
listed_at f d zero a i h = absurd (omega arith)
listed_at f d (suc n) a zero h = ap f (sym (add-zero a))
listed_at f d (suc n) a (suc i) h = listed_at f d n (suc a) i (omega arith) ∙ ap f (suc-add a i ∙ sym (add-suc a i))

-- OPCODE KINDS

-- an opcode that equals another has the other's kind
pub kind_of : {x y : ℕ} → x ≡ y → opcode_kind y ≡ opcode_kind x
kind_of e = sym (ap opcode_kind e)

-- is each of some lines clear: none of its opcodes lies from a up to b, but for the keys
abbrev pub all_clear : List (List ℕ) → ℕ → ℕ → List Line → Bool
all_clear arms a b ls = every (λ l. clear arms a b l.opcodes) ls

module _ (arms : List (List ℕ)) {a b x : ℕ} (none : NoneOf arms x) (low : a ≤ x) (high : x < b) where
  -- an opcode of a range whose opcodes, but for the keys, are all of one kind
  pub run_kind : {k : ℕ} → pass arms a b (λ y. eqb k (opcode_kind y)) ≡ true → k ≡ opcode_kind x
  run_kind {k} e = eqb→eq k (opcode_kind x) (passed arms none low high (λ y. eqb k (opcode_kind y)) e)

  -- an opcode that no line has is of the kind after them
  past : (n : ℕ) (ls : List Line) → T (all_clear arms a b ls) → kind_from x n ls ≡ n + length ls
  unfolding kind_from
  past n [] t = sym (add-zero n)
  past n (l ∷ ls) t =
      let u = and_yes (clear arms a b l.opcodes) (all_clear arms a b ls) t in
      rw (absent arms none low high l.opcodes u.0) (past (suc n) ls u.1 ∙ suc-add n (length ls) ∙ sym (add-suc n (length ls)))

  -- kind 19 has "every opcode of no line above"
  pub other_kind : T (all_clear arms a b lines) → 19 ≡ opcode_kind x
  unfolding opcode_kind
  other_kind t = sym (past 1 lines t)

-- of a number and one after it, either keeps the bounds
either : (t : Bool) (n later most : ℕ) → suc n ≤ later → later ≤ most → (n ≤ (if t then n else later)) × ((if t then n else later) ≤ most)
either true n later most h g = ((omega arith), (omega arith))
either false n later most h g = ((omega arith), g)

-- a kind that is counted from n is n at least, and at most the one after the lines
kind_counted : (x n : ℕ) (ls : List Line) → (n ≤ kind_from x n ls) × (kind_from x n ls ≤ n + length ls)
unfolding kind_from
kind_counted x n [] = ((omega arith), (omega arith))
kind_counted x n (l ∷ ls) =
    let c = kind_counted x (suc n) ls in either (is_in x l.opcodes) n (kind_from x (suc n) ls) (n + suc (length ls)) c.0 (omega (arith, c.1))

-- "the kind of an opcode, 1 to 19"
pub kind_within : (opcode : ℕ) → (1 ≤ opcode_kind opcode) × (opcode_kind opcode ≤ 19)
unfolding opcode_kind
kind_within opcode = kind_counted opcode 1 lines

-- so is what a call answers for it
pub kind_given : (opcode kind : ℕ) → kind ≡ opcode_kind opcode → (1 ≤ kind) × (kind ≤ 19)
kind_given opcode kind e = rw e (kind_within opcode)

-- the lent kinds have the kind of each of their opcodes
pub kind_listed : (t : List ℕ) (opcode : ℕ) → t ≡ kind_table → opcode < 256 → get_or t opcode 0 ≡ opcode_kind opcode
unfolding kind_table
kind_listed t opcode e h = rw e (listed_at opcode_kind 0 256 0 opcode h ∙ ap opcode_kind (zero-add opcode))

-- THE TABLE

-- a line has in each column the cell of its state
cell_at : (kind : ℕ) (s : State) → get_or (line_of kind) (column_of s) 0 ≡ code_of (layout_at kind s)
cell_at kind Outside = refl
cell_at kind Function = refl
cell_at kind Block = refl

-- the table has every cell of the layout
cell_is : (kind c : ℕ) (s : State) → (1 ≤ kind) × (kind ≤ 19) → c ≡ column_of s → get_or (get_or layout_table (kind - 1) []) c 0 ≡ code_of (layout_at kind s)
unfolding layout_table
cell_is kind c s h e =
    let k : 1 + (kind - 1) ≡ kind = omega arith in
    rw e (ap (λ (l : List ℕ). get_or l (column_of s) 0) (listed_at line_of [] 19 1 (kind - 1) (omega arith) ∙ ap line_of k) ∙ cell_at kind s)

-- the columns are three
column_low : (s : State) → column_of s < 3
column_low Outside = omega arith
column_low Function = omega arith
column_low Block = omega arith

-- states of one column are one
column_tells : (a b : State) → column_of a ≡ column_of b → a ≡ b
column_tells Outside Outside e = refl
column_tells Outside Function e = absurd (omega arith)
column_tells Outside Block e = absurd (omega arith)
column_tells Function Outside e = absurd (omega arith)
column_tells Function Function e = refl
column_tells Function Block e = absurd (omega arith)
column_tells Block Outside e = absurd (omega arith)
column_tells Block Function e = absurd (omega arith)
column_tells Block Block e = refl

-- cells of one number are one
code_tells : (a b : Cell) → code_of a ≡ code_of b → a ≡ b
unfolding code_of
code_tells (Ok (t, s)) (Ok (u, r)) e =
    let x : t ≡ u = omega (arith, column_low s, column_low r) in
    let y = column_tells s r (omega (arith, column_low s, column_low r)) in
    cc
code_tells (Ok (t, s)) (Err n) e = absurd (omega (arith, column_low s))
code_tells (Err n) (Ok (u, r)) e = absurd (omega (arith, column_low r))
code_tells (Err n) (Err m) e = let x : n ≡ m = omega arith in cc

-- so what a lent table has at a kind's line and a state's column is what the layout says
pub place_is : (t : List (List ℕ)) (kind c code : ℕ) (s : State) (r : Cell) → t ≡ layout_table → (1 ≤ kind) × (kind ≤ 19) → c ≡ column_of s
    → code ≡ get_or (get_or t (kind - 1) []) c 0 → code_of r ≡ code → r ≡ layout_at kind s
place_is t kind c code s r e f g h i = code_tells r (layout_at kind s) (i ∙ h ∙ (rw e (cell_is kind c s f g)))

-- and what it says of an opcode's kind it says of the opcode
pub place_by : (opcode kind : ℕ) (s : State) (r : Cell) → kind ≡ opcode_kind opcode → r ≡ layout_at kind s → r ≡ layout_of opcode s
unfolding layout_of
place_by opcode kind s r e f = f ∙ ap (λ (k : ℕ). layout_at k s) e
