-- `tracker::track_float` meets its contract.
use Rattle.tracker.proofs.Results.{float_few, float_no_width, float_defined}
use Rattle.tracker.proofs.Literal.{literal_there, literal_missing}
use Rattle.tracker.proofs.track_float.Goals as goal

pub returns-then-count-lt1 : goal.returns-then-count-lt1
returns-then-count-lt1 c = float_few _ _ c.if-count-lt1.true

pub returns-in_default : goal.returns-in_default
returns-in_default c =
    float_no_width _ _ c.if-count-lt1.false (literal_missing _ _ c.operand_of.ensures c.in_default.not-LiteralInt32)

pub returns : goal.returns
returns c = float_defined _ _ c.if-count-lt1.false _ (literal_there _ _ c.operand_of.ensures _ c.in-LiteralInt32.is)
