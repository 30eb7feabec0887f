-- `rules::rules::enumerant_rule` meets its contract.
use Rattle.rules.proofs.RuleLaws.{bits_counted}
use native.Mathlib.Omega.{arith}
use borrow.Author.Rules.{rules}
use Rattle.rules.proofs.rules.enumerant_rule.Statement.{statement}
use Rattle.rules.proofs.rules.enumerant_rule.Tie as tie

returns : tie.Need-returns
returns c =
    let at-start = c.before.before in
    rw (c.is_mask.ensures, c.before.is_enum.ensures, bits_counted at-start.args.v (omega arith))

pub enumerant_rule_spec : {M : Type 1} → statement M
enumerant_rule_spec = tie.close (tie.spec (λ c κs. search rules) (λ c κs. search rules) returns)
