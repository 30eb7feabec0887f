use Rattle.std.proofs.Common.{◌∙◌, arith}
use Rattle.records.proofs.Operands.{pass_goes_on, pass_room, pass_fails, pass_ends}
use Rattle.records.proofs.pass_operands.Goals as goal

-- an operand that is not good
pub returns-in_err-next : goal.returns-in_err-next
returns-in_err-next c = c.from_residual.ensures ∙ pass_fails c.loop.invariant c.loop-test.true _ c.pass_operand.ensures c.in_err-next.was

pub overflow_add-passed : goal.overflow_add-passed
overflow_add-passed c = omega (arith, pass_room c.loop.invariant c.loop-test.true _ c.pass_operand.ensures _ c.in_ok-next.was)

-- past a good one
pub loop-preserved : goal.loop-preserved
loop-preserved c = pass_goes_on c.loop.invariant c.loop-test.true _ c.pass_operand.ensures _ c.in_ok-next.was

pub returns : goal.returns
returns c = pass_ends c.loop.invariant c.loop-test.false
