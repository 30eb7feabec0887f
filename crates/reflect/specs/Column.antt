-- The tables as the code has them: the kinds of opcodes; and the layout, a line of cells for each kind, a column for each state.
use Rattle.std.specs.Prelude.{ℕ, zero, suc, ◌+◌, ◌*◌, List, [], ◌∷◌}
use Rattle.spec.specs.declared.State.{State}
use Rattle.spec.specs.declared.State.TheVariants.{Outside, Function, Block}
use Rattle.spec.specs.Layout.{opcode_kind, layout_at}
use Rattle.spec.specs.Layout.{Cell}
use Rattle.std.specs.Prelude.{Err, Ok}

-- the column of a state
abbrev pub column_of : State → ℕ
column_of Outside = 0
column_of Function = 1
column_of Block = 2

-- the number of a cell: four times a tag and the column of the state after it, or four times the number of a refusal and 3
unfoldable pub code_of : Cell → ℕ
code_of (Ok (tag, s)) = 4 * tag + column_of s
code_of (Err n) = 4 * n + 3

-- the cells of a kind, in the order of the columns
abbrev pub line_of : ℕ → List ℕ
line_of kind = code_of (layout_at kind Outside) ∷ code_of (layout_at kind Function) ∷ code_of (layout_at kind Block) ∷ []

-- what a rule gives for n numbers, from a on
abbrev pub listed : {A : Type 0} → (ℕ → A) → ℕ → ℕ → List A
listed f a zero = []
listed f a (suc n) = f a ∷ listed f (suc a) n

-- the lines of the nineteen kinds
unfoldable pub layout_table : List (List ℕ)
layout_table = listed line_of 1 19

-- the kinds of the opcodes below 256
unfoldable pub kind_table : List ℕ
kind_table = listed opcode_kind 0 256
