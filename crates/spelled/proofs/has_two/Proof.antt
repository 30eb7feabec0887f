-- `spelled::has_two` meets its contract: no kind below 36 has two words.
-- Assumes nothing.
use mathlib.Core.Path.{sym}
use Rattle.records.proofs.Operands.{one_below}
use borrow.Author.Rules.{rules}
use Rattle.spelled.proofs.has_two.Statement.{statement}
use Rattle.spelled.proofs.has_two.Tie as tie

pub has_two_spec : {M : Type 1} → statement M
has_two_spec = tie.close (tie.spec (λ c. sym (one_below _ c.if-kind-lt-INT64.true)) (λ c κs. search rules) (λ c. search rules))
