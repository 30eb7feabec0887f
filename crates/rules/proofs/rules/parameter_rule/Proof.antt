-- `rules::rules::parameter_rule` meets its contract.
use borrow.Author.Rules.{rules}
use Rattle.rules.proofs.rules.parameter_rule.Statement.{statement}
use Rattle.rules.proofs.rules.parameter_rule.Tie as tie

returns : tie.Need-returns
returns c = rw (c.is_mask.ensures, c.before.may_be_parameter.ensures)

pub parameter_rule_spec : {M : Type 1} → statement M
parameter_rule_spec = tie.close (tie.spec (λ c κs. search rules) (λ c κs. search rules) returns)
