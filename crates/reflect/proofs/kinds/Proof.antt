-- `reflect::kinds` meets its contract: the kinds are held to the definition by one equation, which antt computes.
-- Assumes nothing.
use mathlib.Core.Path.{refl}
use Rattle.spec.specs.Layout.{opcode_kind, kind_from}
use Rattle.reflect.specs.Column.{kind_table}
use Rattle.reflect.proofs.kinds.Statement.{statement}
use Rattle.reflect.proofs.kinds.Tie as tie

pub kinds_spec : {M : Type 1} → statement M
unfolding kind_table opcode_kind kind_from
kinds_spec = tie.close (tie.spec (λ c. refl))
