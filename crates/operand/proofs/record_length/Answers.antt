-- `operand::record_length` meets its contract, for two words and for one.
use Rattle.std.proofs.Common.{sym}
use Rattle.operand.proofs.LogLaws.{length_two, length_one}
use Rattle.operand.proofs.record_length.Goals as goal

pub returns-then-is_two : goal.returns-then-is_two
returns-then-is_two c = length_two _ (sym c.if-is_two.ensures)

pub returns-else-is_two : goal.returns-else-is_two
returns-else-is_two c = length_one _ (sym c.if-is_two.ensures)
