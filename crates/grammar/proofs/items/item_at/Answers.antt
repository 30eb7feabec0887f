-- `grammar::items::item_at` meets its contract: by the byte of kind, and by whether the body is whole.
use Rattle.std.proofs.Common.{arith}
use Rattle.grammar.proofs.ItemLaws.{item_short, item_row, item_operand, item_enumerant, item_parameter, item_unknown}
use Rattle.grammar.proofs.items.item_at.Goals as goal

pub returns-in-1 : goal.returns-in-1
returns-in-1 c = item_row _ _ c.in-1.is c.if-room-ge2.true _ c.half.ensures

pub returns-in-2 : goal.returns-in-2
returns-in-2 c = item_operand _ _ c.in-2.is c.if-room-ge2-2.true

pub returns-in-3 : goal.returns-in-3
returns-in-3 c = item_enumerant _ _ c.in-3.is c.if-room-ge5.true _ c.word_at.ensures

pub returns-in-4 : goal.returns-in-4
returns-in-4 c = item_parameter _ _ c.in-4.is c.if-room-ge1.true

-- a body that is cut short
pub returns-in_default : goal.returns-in_default
returns-in_default c = item_short _ _ _ c.in-1.is c.if-room-ge2.false

pub returns-in_default-2 : goal.returns-in_default-2
returns-in_default-2 c = item_short _ _ _ c.in-2.is c.if-room-ge2-2.false

pub returns-in_default-3 : goal.returns-in_default-3
returns-in_default-3 c = item_short _ _ _ c.in-3.is c.if-room-ge5.false

pub returns-in_default-4 : goal.returns-in_default-4
returns-in_default-4 c = item_short _ _ _ c.in-4.is c.if-room-ge1.false

pub returns-in_default-5 : goal.returns-in_default-5
returns-in_default-5 c = item_unknown _ _ (λ e. omega arith) (λ e. omega arith) (λ e. omega arith) (λ e. omega arith)
