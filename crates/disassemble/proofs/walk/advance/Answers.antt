-- `disassemble::walk::advance` meets its contract.
-- Assumes nothing.
use Rattle.disassemble.proofs.Cursors.{follows_as, left_sections, left_functions, left_parameters}
use Rattle.disassemble.proofs.walk.advance.Goals as goal

pub returns-then-c-lt-FUNCTION : goal.returns-then-c-lt-FUNCTION
returns-then-c-lt-FUNCTION c =
    follows_as _ _ _ _ _ (left_sections _ _ c.if-c-lt-FUNCTION.true) c.next_section.ensures

pub returns-then-c-eq-FUNCTION : goal.returns-then-c-eq-FUNCTION
returns-then-c-eq-FUNCTION c =
    follows_as _ _ _ _ _ (left_functions _ _ c.if-c-lt-FUNCTION.false c.if-c-eq-FUNCTION.true) c.next_function.ensures

pub returns : goal.returns
returns c =
    follows_as _ _ _ _ _ (left_parameters _ _ c.if-c-lt-FUNCTION.false c.if-c-eq-FUNCTION.false) c.next_parameter.ensures
