-- `tracker::index::is_marked` meets its contract.
use mathlib.Core.Path.{refl}
use borrow.Author.Rules.{rules}
use Rattle.tracker.specs.Hints.{is_marked}
use Rattle.tracker.proofs.index.is_marked.Statement.{statement}
use Rattle.tracker.proofs.index.is_marked.Tie as tie

returns : tie.Need-returns
unfolding is_marked
returns c = refl

pub is_marked_spec : {M : Type 1} → statement M
is_marked_spec =
    tie.close
    (tie.spec
    (λ c. search rules)
    (λ c. search rules)
    (λ c. search rules)
    (λ c. search rules)
    returns)
