-- `disassemble::write::write_good` meets its contract.
-- Assumes nothing.
use Rattle.disassemble.proofs.Wholes.{stores_fit, text_full, text_done}
use native.Mathlib.Omega.{arith}
use Rattle.disassemble.proofs.write.write_good.Goals as goal

pub imports_end-imports-requires : goal.imports_end-imports-requires
imports_end-imports-requires c =
    stores_fit _ _ _ _ c.args.good.stores

pub returns-then-out-need : goal.returns-then-out-need
returns-then-out-need c =
    text_full _ _ (omega arith) _ _ c.put_text-need.ensures c.if-out-need.true

pub returns : goal.returns
returns c =
    text_done _ _ (omega arith) _ _ c.put_text-need.ensures c.if-out-need.false _ _ c.put_text-bytes.ensures
