-- `reflect::cell` meets its contract: a number is four times its quarter and its rest.
-- Assumes nothing.
use native.Mathlib.Omega.{arith}
use Rattle.reflect.specs.Column.{code_of}
use Rattle.reflect.proofs.cell.Statement.{statement}
use Rattle.reflect.proofs.cell.Tie as tie

pub cell_spec : {M : Type 1} → statement M
unfolding code_of
cell_spec = tie.close (tie.spec (λ c. omega arith) (λ c. omega arith) (λ c. omega arith) (λ c. omega arith))
