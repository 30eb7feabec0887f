-- `disassemble::walk::section_after` meets its contract.
-- Assumes nothing.
use Rattle.disassemble.proofs.Cursors.{after_last, after_first}
use Rattle.disassemble.proofs.walk.section_after.Goals as goal

pub returns-then-tag-eq-MEMORY_MODEL : goal.returns-then-tag-eq-MEMORY_MODEL
returns-then-tag-eq-MEMORY_MODEL c =
    after_last _ _ c.if-tag-eq-MEMORY_MODEL.true

pub returns : goal.returns
returns c =
    after_first _ _ c.if-tag-eq-MEMORY_MODEL.false c.requires.1
