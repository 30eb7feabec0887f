-- `rules::rules::may_follow` meets its contract.
use Rattle.rules.specs.Rules.{follows}
use borrow.Author.Rules.{rules}
use Rattle.rules.proofs.rules.may_follow.Statement.{statement}
use Rattle.rules.proofs.rules.may_follow.Tie as tie

returns : tie.Need-returns
unfolding follows
returns c = rw c.rises_to.ensures

pub may_follow_spec : {M : Type 1} → statement M
may_follow_spec = tie.close (tie.spec (λ c κs. search rules) returns)
