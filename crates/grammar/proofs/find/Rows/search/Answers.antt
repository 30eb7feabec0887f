-- `grammar::find::Rows::search` meets its contract.
use mathlib.Core.Path.{sym, ◌∙◌}
use native.Mathlib.Omega.{arith}
use Rattle.grammar.proofs.FindLaws.{search_up, search_down, search_hit}
use Rattle.grammar.proofs.SearchLaws.{halving_start, halving_end}
use Rattle.grammar.proofs.find.Rows.search.Goals as goal

pub loop-low-init : goal.loop-low-init
loop-low-init c = halving_start _ _ _ _ (c.mark_count-high.ensures ∙ c.args.self.indexed.count)

pub mark_at-m-requires-clause-rank_in_bounds : goal.mark_at-m-requires-clause-rank_in_bounds
mark_at-m-requires-clause-rank_in_bounds c = omega (arith, c.loop-low.invariant.most)

pub loop-low-preserved-then-rises_to : goal.loop-low-preserved-then-rises_to
loop-low-preserved-then-rises_to c =
    search_up _ _ _ _ c.args.self.indexed _ _ c.mark_at-m.ensures _ _ c.loop-low.invariant (omega arith) _ c.rises_to.ensures c.if-rises_to.true

pub loop-low-preserved : goal.loop-low-preserved
loop-low-preserved c =
    search_down _ _ _ _ c.args.self.indexed _ _ c.mark_at-m.ensures _ _ c.loop-low.invariant (omega arith) _ c.rises_to-else-rises_to.ensures c.if-rises_to-2.true

pub returns-else-rises_to-2 : goal.returns-else-rises_to-2
returns-else-rises_to-2 c =
    search_hit _ _ _ _ c.args.self.indexed _ _ c.mark_at-m.ensures _ _ c.loop-low.invariant (omega arith) _ _ c.rises_to.ensures c.rises_to-else-rises_to.ensures c.if-rises_to.false c.if-rises_to-2.false

pub returns : goal.returns
returns c = sym (halving_end _ _ _ _ _ c.loop-low.invariant c.loop-low-test.false)
