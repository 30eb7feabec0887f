-- `disassemble::named::operands_named` meets its contract.
-- Assumes nothing.
use Rattle.std.proofs.lemmas.Bool.{not_from_true, not_from_false}
use Rattle.pieces.proofs.Texts.{readable_more}
use Rattle.disassemble.proofs.Judged.{passing_bad, passing_on, passing_ends}
use native.Mathlib.Omega.{arith}
use Rattle.disassemble.proofs.named.operands_named.Goals as goal

pub operand_named-requires : goal.operand_named-requires
operand_named-requires c = (readable_more _ _ _ _ (omega arith) c.loop.invariant.readable).0

pub returns-then-not-operand_named : goal.returns-then-not-operand_named
returns-then-not-operand_named c =
    passing_bad c.loop.invariant (omega arith) _ c.operand_named.ensures (not_from_false _ c.if-not-operand_named.true)

pub after-a-requires : goal.after-a-requires
after-a-requires c = (readable_more _ _ _ _ (omega arith) c.loop.invariant.readable).0.whole

pub loop-preserved : goal.loop-preserved
loop-preserved c =
    passing_on c.loop.invariant (omega arith) _ c.operand_named.ensures (not_from_true _ c.if-not-operand_named.false) _ _ c.after-a.ensures (omega arith)

pub returns : goal.returns
returns c = passing_ends c.loop.invariant (omega arith)
