-- `reflect::opcode_kind` meets its contract. A number that has an arm of its own is of that arm's kind by computing; what is left lies in a
-- range, and one test, computed over the range or over the lists of opcodes, gives its kind.
-- Assumes nothing.
use mathlib.Core.Path.{refl}
use Prim.Native.Nat.{ℕ}
use mathlib.Core.List.{List, [], ◌∷◌}
use mathlib.Core.Logic.{⊎_elim}
use native.Mathlib.Omega.{arith}
use Rattle.spec.specs.Layout.{opcode_kind, kind_from}
use Rattle.reflect.proofs.Laws.{kind_of, run_kind, other_kind}
use Rattle.reflect.proofs.opcode_kind.Statement.{statement}
use Rattle.reflect.proofs.opcode_kind.Tie as tie

-- the numbers that have an arm of their own, the last first
abbrev own : List (List ℕ)
own =
    (56 ∷ []) ∷ (4416 ∷ []) ∷ (248 ∷ []) ∷ (55 ∷ []) ∷ (54 ∷ []) ∷ (1 ∷ 59 ∷ []) ∷ (8 ∷ 317 ∷ []) ∷ (4472 ∷ 5341 ∷ [])
    ∷ (330 ∷ []) ∷ (7 ∷ []) ∷ (16 ∷ []) ∷ (15 ∷ []) ∷ (14 ∷ []) ∷ (11 ∷ []) ∷ (10 ∷ []) ∷ (17 ∷ []) ∷ []

pub opcode_kind_spec : {M : Type 1} → statement M
unfolding opcode_kind kind_from
opcode_kind_spec =
    tie.close
    (tie.spec
    (λ c. kind_of c.in-17.is)
    (λ c. kind_of c.in-10.is)
    (λ c. kind_of c.in-11.is)
    (λ c. kind_of c.in-14.is)
    (λ c. kind_of c.in-15.is)
    (λ c. kind_of c.in-16.is)
    (λ c. kind_of c.in-330.is)
    (λ c. ⊎_elim kind_of kind_of c.in-8.is)
    (λ c. ⊎_elim kind_of kind_of c.in-1.is)
    (λ c. kind_of c.in-54.is)
    (λ c. kind_of c.in-55.is)
    (λ c. kind_of c.in-248.is)
    (λ c. kind_of c.in-56.is)
    (λ c. let at-match = c in run_kind own at-match.in-5.in_default-own.rest c.in-5.if-opcode-lt5-own.false c.in-5.if-opcode-lt7-own.true refl)
    (λ c. let at-match = c in run_kind own at-match.in-71-to-75.in_default-own.rest c.in-71-to-75.if-opcode-lt71-own.false c.in-71-to-75.if-opcode-lt76-own.true refl)
    (λ c. let at-match = c in run_kind own at-match.in-71-to-75.in_default-own.rest c.in-71-to-75.if-opcode-lt5632-own.false c.in-71-to-75.if-opcode-lt5634-own.true refl)
    (λ c. let at-match = c in other_kind own {a = 0} at-match.in_default.in_default-own.rest (omega arith) c.in_default.if-opcode-lt1-own.true tt)
    (λ c. let at-match = c in other_kind own at-match.in_default.in_default-own.rest c.in_default.if-opcode-lt7-own.false c.in_default.if-opcode-lt19-own.true tt)
    (λ c. let at-match = c in other_kind own at-match.in_default.in_default-own.rest c.in_default.if-opcode-lt40-own.false c.in_default.if-opcode-lt41-own.true tt)
    (λ c. let at-match = c in other_kind own at-match.in_default.in_default-own.rest c.in_default.if-opcode-lt47-own.false c.in_default.if-opcode-lt48-own.true tt)
    (λ c. let at-match = c in other_kind own at-match.in_default.in_default-own.rest c.in_default.if-opcode-lt53-own.false c.in_default.if-opcode-lt71-own.true tt)
    (λ c. let at-match = c in other_kind own at-match.in_default.in_default-own.rest c.in_default.if-opcode-lt76-own.false c.in_default.if-opcode-lt248-own.true tt)
    (λ c. let at-match = c in other_kind own at-match.in_default.in_default-own.rest c.in_default.if-opcode-lt256-own.false c.in_default.if-opcode-lt4448-own.true tt)
    (λ c. let at-match = c in other_kind own at-match.in_default.in_default-own.rest c.in_default.if-opcode-lt4450-own.false c.in_default.if-opcode-lt5632-own.true tt)
    (λ c. let at-match = c in other_kind own {b = 65536} at-match.in_default.in_default-own.rest c.in_default.if-opcode-lt5634-own.false (omega arith) tt)
    (λ c. kind_of c.in-249-to-255.in-249-to-255-own.keys15)
    (λ c. let at-match = c in run_kind own at-match.in-249-to-255.in_default-own.rest c.in-249-to-255.if-opcode-lt248-own.false c.in-249-to-255.if-opcode-lt256-own.true refl)
    (λ c. let at-match = c in run_kind own at-match.in-249-to-255.in_default-own.rest c.in-249-to-255.if-opcode-lt4448-own.false c.in-249-to-255.if-opcode-lt4450-own.true refl)
    (λ c. ⊎_elim kind_of kind_of c.in-19-to-39.in-19-to-39-own.keys9)
    (λ c. let at-match = c in run_kind own at-match.in-19-to-39.in_default-own.rest c.in-19-to-39.if-opcode-lt19-own.false c.in-19-to-39.if-opcode-lt40-own.true refl)
    (λ c. let at-match = c in run_kind own at-match.in-19-to-39.in_default-own.rest c.in-19-to-39.if-opcode-lt41-own.false c.in-19-to-39.if-opcode-lt47-own.true refl)
    (λ c. let at-if1 = c in let at-match = at-if1 in run_kind own at-match.in-19-to-39.in_default-own.rest c.in-19-to-39.if-opcode-lt48-own.false at-if1.in-19-to-39.if-opcode-lt53-own.true refl)
    (λ c. kind_of c.in-2.is)
    (λ c. let at-match = c in run_kind own at-match.in-2.in_default-own.rest c.in-2.if-opcode-lt1-own.false c.in-2.if-opcode-lt5-own.true refl))
