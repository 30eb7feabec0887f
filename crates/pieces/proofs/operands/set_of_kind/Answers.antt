-- `pieces::operands::set_of_kind` meets its contract.
-- Assumes nothing.
use Rattle.pieces.proofs.Texts.{embedded_set, other_set}
use Rattle.pieces.proofs.operands.set_of_kind.Goals as goal

pub returns-then-kind-eq-EMBEDDED : goal.returns-then-kind-eq-EMBEDDED
returns-then-kind-eq-EMBEDDED c =
    embedded_set _ c.if-kind-eq-EMBEDDED.true

pub returns : goal.returns
returns c =
    other_set _ c.if-kind-eq-EMBEDDED.false
