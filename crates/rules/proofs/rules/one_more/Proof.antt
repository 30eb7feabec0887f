-- `rules::rules::one_more` meets its contract.
use Rattle.rules.specs.Rules.{more}
use borrow.Author.Tests.{lt-ltb, le-ltb}
use borrow.Author.Rules.{rules}
use Rattle.rules.proofs.rules.one_more.Statement.{statement}
use Rattle.rules.proofs.rules.one_more.Tie as tie

returns : tie.Need-returns-then-count-lt4
unfolding more
returns c = simp (lt-ltb _ _ c.if-count-lt4.true)

returns-2 : tie.Need-returns-else-count-lt4
unfolding more
returns-2 c = simp (le-ltb _ _ c.if-count-lt4.false)

pub one_more_spec : {M : Type 1} → statement M
one_more_spec = tie.close (tie.spec (λ c. search rules) returns returns-2)
