-- The rows of the UTF-8 test, and what it answers to the first byte of a character, by the definitions of what is due.
use Rattle.std.specs.Prelude.{ℕ, List, [], ◌∷◌, map}
use Rattle.std.specs.Prelude.{Option, option_map}
use Rattle.spec.specs.Text.{Utf8Row, lead, Due, due, utf8_table, lead_of}
use Rattle.text.specs.declared.Pending.{Pending}

-- a row as the code has it: the first byte from, to; how many bytes follow; the second byte from, to
abbrev pub row_of : Utf8Row → List ℕ
row_of (lead from to n lo hi) = from ∷ to ∷ n ∷ lo ∷ hi ∷ []

-- the rows of Unicode's table as the code has them
unfoldable pub utf8_rows : List (List ℕ)
utf8_rows = map row_of utf8_table

-- what a state says is due
abbrev pub due_of : Pending → Due
due_of p = due p.left p.low p.high

-- what is due as the code has it
abbrev pub pending_of : Due → Pending
pending_of (due n a b) = record { left = n; low = a; high = b }

-- the answer to the first byte of a character: what is due next, if anything may be
unfoldable pub first_of : ℕ → Option Pending
first_of b = option_map pending_of (lead_of b utf8_table)
