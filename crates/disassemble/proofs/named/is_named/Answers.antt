-- `disassemble::named::is_named` meets its contract.
-- Assumes nothing.
use Rattle.disassemble.proofs.Judged.{said_named, said_unnamed}
use Rattle.disassemble.proofs.named.is_named.Goals as goal

pub returns-then-has_name : goal.returns-then-has_name
returns-then-has_name c =
    said_named _ _ _ _ _ c.has_name.ensures c.if-has_name.true c.operands_named.ensures

pub returns : goal.returns
returns c =
    said_unnamed _ _ _ _ c.has_name.ensures c.if-has_name.false
