-- `rules::rules::with_one` meets its contract, with a result more and with another.
use Rattle.std.proofs.Common.{sym}
use Rattle.rules.specs.Rules.{passed_of}
use Rattle.rules.proofs.RuleLaws.{with_result_lem, with_other}
use Rattle.rules.proofs.rules.with_one.Goals as goal

pub returns-then-is_result : goal.returns-then-is_result
unfolding passed_of
returns-then-is_result c before e = rw (c.one_more-count.ensures, e) (with_result_lem _ _ (sym c.if-is_result.ensures) before)

pub returns : goal.returns
unfolding passed_of
returns c before e = rw (c.one_more-count.ensures, c.lead_with.ensures, e) (with_other _ _ (sym c.if-is_result.ensures) before)
