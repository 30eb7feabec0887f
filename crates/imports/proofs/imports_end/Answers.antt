-- `imports::imports_end` meets its contract.
-- Assumes nothing.
use Rattle.imports.proofs.Sets.{imports_none, imports_less}
use Rattle.imports.proofs.imports_end.Goals as goal

pub loop-i-init : goal.loop-i-init
loop-i-init c = imports_none _ _

pub loop-i-preserved : goal.loop-i-preserved
loop-i-preserved c =
    imports_less _ _ _ _ c.record_at.ensures c.if-record_at-eq-EXT_INST_IMPORT.false c.loop-i-test.true c.loop-i.invariant
