-- `disassemble::walk::next_section` meets its contract.
-- Assumes nothing.
use mathlib.Core.Path.{◌∙◌}
use Rattle.disassemble.proofs.Cursors.{or_section, or_functions, section_has, section_lacks, follows_as}
use Rattle.disassemble.proofs.walk.next_section.Goals as goal

pub loop-tag-init : goal.loop-tag-init
loop-tag-init c =
    or_section _ _ _ c.requires

pub returns-then-i-good : goal.returns-then-i-good
returns-then-i-good c =
    section_has c.in_section-i.ensures c.loop-tag-test.true _ c.loop-tag.invariant _ c.section_after.ensures c.if-i-good.true

pub loop-tag-preserved : goal.loop-tag-preserved
loop-tag-preserved c =
    section_lacks c.in_section-i.ensures c.loop-tag-test.true _ c.loop-tag.invariant c.if-i-good.false

pub returns : goal.returns
returns c =
    follows_as _ _ _ _ _ (c.loop-tag.invariant ∙ or_functions _ _ _ c.loop-tag-test.false) c.next_function.ensures
