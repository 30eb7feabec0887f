-- `grammar::items::item_length` meets its contract.
use Rattle.grammar.proofs.ItemLaws.{body_most}
use lib.ListN.{get_or}
use Rattle.grammar.specs.Items.{length_at}
use Prim.Native.Nat.{ℕ, ◌+◌}
use mathlib.Core.Path.{ap}
use native.Mathlib.Omega.{arith}
use borrow.Author.Rules.{rules}
use Rattle.grammar.proofs.items.item_length.Statement.{statement}
use Rattle.grammar.proofs.items.item_length.Tie as tie

add_result : tie.Need-overflow_add-result
add_result c =
    let at-start = c.before.before.before in
    omega (arith, body_most (get_or at-start.args.g.now at-start.args.at 0), c.body_length.ensures)

returns : tie.Need-returns
unfolding length_at
returns c = ap (λ (n : ℕ). 1 + n) c.body_length.ensures

pub item_length_spec : {M : Type 1} → statement M
item_length_spec =
    tie.close (tie.spec (λ c. search rules) (λ c κs. search rules) add_result returns)
