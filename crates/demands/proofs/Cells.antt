-- What the layout table can give: tags and states that may follow a state, and refusals 15 to 23.
use Prim.Native.Nat.{ℕ, ◌-◌, ◌≤◌}
use mathlib.Core.Path.{◌≡◌, refl}
use mathlib.Core.Bool.{Bool, true, false, ◌&&◌, ◌||◌}
use lib.Dec.{eqb}
use lib.ListN.{get_or}
use Rattle.spec.specs.declared.State.{State}
use Rattle.spec.specs.declared.State.TheVariants.{Outside, Function, Block}
use Rattle.spec.specs.Base.{within}
use Rattle.spec.specs.Layout.{Line, lines, other_line, layout_at, opcode_kind, layout_of}
use Rattle.demands.proofs.Choice.{left, right, in_range}
use Rattle.demands.proofs.Lists.{every_at}
use Rattle.spec.specs.Layout.{Cell}
use Rattle.std.specs.Prelude.{Err, Ok}

-- the tags that lead from a state to another
abbrev pub leads : State → ℕ → State → Bool
leads Outside tag Outside = within 1 tag 11
leads Outside tag Function = eqb tag 12
leads Outside tag Block = false
leads Function tag Outside = eqb tag 16
leads Function tag Function = within 1 tag 11 || eqb tag 13
leads Function tag Block = eqb tag 14
leads Block tag Outside = false
leads Block tag Function = eqb tag 15
leads Block tag Block = within 1 tag 11 || (eqb tag 13 || eqb tag 15)

-- a cell that may stand in the column of a state
abbrev may_stand : State → Cell → Bool
may_stand s (Ok (tag, t)) = leads s tag t
may_stand s (Err n) = within 15 n 23

-- a line whose three cells may stand
abbrev line_stands : Line → Bool
line_stands l = may_stand Outside (l.cell Outside) && may_stand Function (l.cell Function) && may_stand Block (l.cell Block)

-- the cell of a line that stands, by its state
line_cell : (l : Line) (s : State) → line_stands l ≡ true → may_stand s (l.cell s) ≡ true
line_cell l Outside e = left (may_stand Outside (l.cell Outside)) (may_stand Function (l.cell Function)) (left _ (may_stand Block (l.cell Block)) e)
line_cell l Function e = right (may_stand Outside (l.cell Outside)) (may_stand Function (l.cell Function)) (left _ (may_stand Block (l.cell Block)) e)
line_cell l Block e = right (may_stand Outside (l.cell Outside) && may_stand Function (l.cell Function)) (may_stand Block (l.cell Block)) e

-- every cell of the table may stand
layout_stands : (op : ℕ) (s : State) → may_stand s (layout_of op s) ≡ true
unfolding layout_of layout_at
layout_stands op s =
    line_cell (get_or lines (opcode_kind op - 1) other_line) s (every_at line_stands lines other_line (opcode_kind op - 1) refl refl)

-- a tag that the table gives leads from the state to the next
pub tag_leads : (op : ℕ) (s t : State) (tag : ℕ) → layout_of op s ≡ Ok (tag, t) → leads s tag t ≡ true
tag_leads op s t tag e = rw e at (layout_stands op s)

-- the table refuses with 15 to 23
pub layout_refuses : (op n : ℕ) (s : State) → layout_of op s ≡ Err n → (15 ≤ n) × (n ≤ 23)
layout_refuses op n s e = in_range 15 n 23 (rw e at (layout_stands op s))
