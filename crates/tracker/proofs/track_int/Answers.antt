-- `tracker::track_int` meets its contract.
use Rattle.tracker.proofs.Results.{int_few, int_no_width, int_no_sign, int_signed, int_unsigned}
use Rattle.tracker.proofs.Literal.{literal_there, literal_missing}
use Rattle.tracker.proofs.track_int.Goals as goal

pub returns-then-count-lt2 : goal.returns-then-count-lt2
returns-then-count-lt2 c = int_few _ _ _ c.if-count-lt2.true

pub returns-in_default : goal.returns-in_default
returns-in_default c =
    int_no_width _ _ _ c.if-count-lt2.false (literal_missing _ _ c.operand_of.ensures c.in_default.not-LiteralInt32)

pub returns-in_default-operand_of : goal.returns-in_default-operand_of
returns-in_default-operand_of c =
    let width = literal_there _ _ c.operand_of.ensures _ c.in-LiteralInt32.is in
    int_no_sign _ _ _ c.if-count-lt2.false _ width
    (literal_missing _ _ c.operand_of-2.ensures c.in_default-operand_of.not-LiteralInt32)

pub returns-then-sign-eq1 : goal.returns-then-sign-eq1
returns-then-sign-eq1 c =
    let width = literal_there _ _ c.operand_of.ensures _ c.in-LiteralInt32.is in
    let sign = literal_there _ _ c.operand_of-2.ensures _ c.in-LiteralInt32-operand_of.is in
    int_signed _ _ _ c.if-count-lt2.false _ width _ sign c.if-sign-eq1.true

pub returns : goal.returns
returns c =
    let width = literal_there _ _ c.operand_of.ensures _ c.in-LiteralInt32.is in
    let sign = literal_there _ _ c.operand_of-2.ensures _ c.in-LiteralInt32-operand_of.is in
    int_unsigned _ _ _ c.if-count-lt2.false _ width _ sign c.if-sign-eq1.false
