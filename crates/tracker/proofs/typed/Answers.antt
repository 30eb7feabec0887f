-- `tracker::typed` meets its contract.
use Rattle.tracker.proofs.Results.{result_type_lem, result_value}
use Rattle.tracker.proofs.typed.Goals as goal

pub returns-then-is_type : goal.returns-then-is_type
returns-then-is_type c = result_type_lem _ _ c.is_type.ensures c.if-is_type.true _ _ c.track_type.ensures

pub returns : goal.returns
returns c = result_value _ _ c.is_type.ensures c.if-is_type.false _
