-- `disassemble::walk::next_function` meets its contract.
-- Assumes nothing.
use mathlib.Core.Path.{◌∙◌}
use Rattle.spelled.proofs.Stores.{stores_at, stores_in}
use Rattle.spelled.proofs.Orders.{functions_end, all_end}
use Rattle.disassemble.proofs.Cursors.{function_definition, function_part_lem, function_none, follows_end}
use Rattle.disassemble.proofs.walk.next_function.Goals as goal

pub record_at-f-requires : goal.record_at-f-requires
record_at-f-requires c =
    stores_in _ _ _ _ c.args.good.stores _ c.loop-i-test.true

pub returns-then-f-eq-FUNCTION : goal.returns-then-f-eq-FUNCTION
returns-then-f-eq-FUNCTION c =
    function_definition (stores_at _ _ _ _ c.args.good.stores _ c.loop-i-test.true _ c.record_at-f.ensures) c.args.start c.loop-i-test.true c.loop-i.invariant c.if-f-eq-FUNCTION.true

pub returns-then-f-ge-LABEL : goal.returns-then-f-ge-LABEL
returns-then-f-ge-LABEL c =
    function_part_lem (stores_at _ _ _ _ c.args.good.stores _ c.loop-i-test.true _ c.record_at-f.ensures) c.args.start c.loop-i-test.true c.loop-i.invariant c.if-f-eq-FUNCTION.false c.if-f-ge-LABEL.true

pub loop-i-preserved : goal.loop-i-preserved
loop-i-preserved c =
    function_none (stores_at _ _ _ _ c.args.good.stores _ c.loop-i-test.true _ c.record_at-f.ensures) c.args.start c.loop-i-test.true c.loop-i.invariant c.if-f-eq-FUNCTION.false c.if-f-ge-LABEL.false

pub returns : goal.returns
returns c =
    follows_end _ _ _ (c.loop-i.invariant ∙ functions_end _ (all_end _ _ _ _ c.args.good.stores _ c.loop-i-test.false))
