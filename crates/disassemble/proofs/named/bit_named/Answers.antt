-- `disassemble::named::bit_named` meets its contract.
-- Assumes nothing.
use Rattle.disassemble.proofs.Judged.{bit_set, bit_clear}
use Rattle.disassemble.proofs.named.bit_named.Goals as goal

pub returns-then-set-eq1 : goal.returns-then-set-eq1
returns-then-set-eq1 c =
    bit_set _ _ _ _ c.if-set-eq1.true c.has_name.ensures

pub returns : goal.returns
returns c =
    bit_clear _ _ _ c.if-set-eq1.false
