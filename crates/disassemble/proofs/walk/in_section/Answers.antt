-- `disassemble::walk::in_section` meets its contract.
-- Assumes nothing.
use Rattle.disassemble.proofs.Cursors.{in_last, in_first}
use Rattle.disassemble.proofs.walk.in_section.Goals as goal

pub returns-then-tag-eq-MEMORY_MODEL : goal.returns-then-tag-eq-MEMORY_MODEL
returns-then-tag-eq-MEMORY_MODEL c =
    in_last _ _ _ _ _ c.if-tag-eq-MEMORY_MODEL.true c.last_tagged.ensures

pub returns : goal.returns
returns c =
    in_first _ _ _ _ _ c.if-tag-eq-MEMORY_MODEL.false c.first_tagged.ensures
