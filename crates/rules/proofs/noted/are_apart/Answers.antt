-- `rules::noted::are_apart` meets its contract: no pair of the two is noted twice.
use Rattle.std.proofs.Common.{ap, not, ◌&&◌, ◌∙◌, rules}
use borrow.Author.Tests.{tests}
use Rattle.std.proofs.lemmas.Iterator.{YieldsList-from_slice, YieldsList-from_zip}
use Rattle.std.proofs.lemmas.Iterator.Search.{any_from_yields_List}
use Rattle.rules.proofs.ApartLaws.{apart_zip}
use Rattle.rules.proofs.noted.are_apart.Goals as goal

pub returns : goal.returns
returns c =
    ap not
    (any_from_yields_List (λ p. p.0 && p.1) c.any.new.self _ c.any.result c.any.ensures.ran
    (YieldsList-from_zip (YieldsList-from_slice c.args.owners.now cc) (YieldsList-from_slice c.args.used.now cc)) (λ x b q k. search (rules, tests)))
    ∙ apart_zip c.args.owners.now c.args.used.now
