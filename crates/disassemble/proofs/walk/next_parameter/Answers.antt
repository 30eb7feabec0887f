-- `disassemble::walk::next_parameter` meets its contract.
-- Assumes nothing.
use Rattle.spelled.proofs.Stores.{stores_at, stores_in}
use Rattle.disassemble.proofs.Cursors.{parameter_end, parameter_yes, parameter_no, parameter_past, follows_as}
use Rattle.disassemble.proofs.walk.next_parameter.Goals as goal

pub record_at-f-requires : goal.record_at-f-requires
record_at-f-requires c =
    stores_in _ _ _ _ c.args.good.stores _ c.loop-i-test.true

pub returns-then-f-eq-FUNCTION_END : goal.returns-then-f-eq-FUNCTION_END
returns-then-f-eq-FUNCTION_END c =
    follows_as _ _ _ _ _ (parameter_end (stores_at _ _ _ _ c.args.good.stores _ c.loop-i-test.true _ c.record_at-f.ensures) _ _ c.loop-i.invariant c.if-f-eq-FUNCTION_END.true) c.next_function.ensures

pub returns-then-f-eq-PARAMETER : goal.returns-then-f-eq-PARAMETER
returns-then-f-eq-PARAMETER c =
    parameter_yes (stores_at _ _ _ _ c.args.good.stores _ c.loop-i-test.true _ c.record_at-f.ensures) _ _ c.loop-i.invariant c.if-f-eq-FUNCTION_END.false c.loop-i-test.true c.if-f-eq-PARAMETER.true

pub loop-i-preserved : goal.loop-i-preserved
loop-i-preserved c =
    parameter_no (stores_at _ _ _ _ c.args.good.stores _ c.loop-i-test.true _ c.record_at-f.ensures) _ _ c.loop-i.invariant c.if-f-eq-FUNCTION_END.false c.if-f-eq-PARAMETER.false

pub returns : goal.returns
returns c =
    follows_as _ _ _ _ _ (parameter_past _ _ _ _ c.args.good.stores _ _ _ c.loop-i-test.false c.loop-i.invariant) c.next_function-2.ensures
