-- `listed::all_zero` meets its contract.
use borrow.Author.Rules.{rules}
use Rattle.listed.proofs.Sentences.{zero_all}
use Rattle.listed.proofs.all_zero.Goals as goal

pub returns : goal.returns
returns c = zero_all c.args.h (search rules)
