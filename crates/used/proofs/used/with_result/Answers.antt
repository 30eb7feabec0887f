-- `used::used::with_result` meets its contract.
use Rattle.used.proofs.UsedLaws.{type_more, id_more}
use Rattle.used.proofs.used.with_result.Goals as goal

pub returns-then-kind-eq-RESULT_TYPE : goal.returns-then-kind-eq-RESULT_TYPE
returns-then-kind-eq-RESULT_TYPE c = type_more _ _ _ c.if-kind-eq-RESULT_TYPE.true

pub returns : goal.returns
returns c = id_more _ _ _ c.if-kind-eq-RESULT_TYPE.false
