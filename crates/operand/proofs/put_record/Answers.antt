-- `operand::put_record` meets its contract: the kind, the first word and, where there is one, the second are the record.
use Rattle.std.proofs.Common.{sym, length-set, arith}
use Rattle.operand.proofs.LogLaws.{length_range, second_room, stored_one, stored_two}
use Rattle.operand.proofs.put_record.Goals as goal

pub bounds-log-at : goal.bounds-log-at
bounds-log-at c = omega (arith, length_range c.args.p)

pub put_word-requires : goal.put_word-requires
put_word-requires c = simp length-set (omega (arith, length_range c.args.p))

pub put_word-requires-then-is_two : goal.put_word-requires-then-is_two
put_word-requires-then-is_two c = second_room _ _ _ _ c.put_word.ensures c.requires (sym c.if-is_two.ensures)

pub returns-then-is_two : goal.returns-then-is_two
returns-then-is_two c = stored_two _ _ _ _ c.put_word.ensures _ c.put_word-then-is_two.ensures (sym c.if-is_two.ensures)

pub returns-else-is_two : goal.returns-else-is_two
returns-else-is_two c = stored_one _ _ _ _ c.put_word.ensures (sym c.if-is_two.ensures)
