-- `embedded::parse_inner` meets its contract. Assumes nothing.
use Rattle.untyped.proofs.Walk.{accept, held_nothing, went_nowhere, spotted_nothing}
use Rattle.untyped.proofs.KindLaws.{inner_untyped}
use Rattle.embedded.proofs.Once.{alone_result, alone_operand, less_read}
use Rattle.embedded.proofs.parse_inner.Goals as goal

pub returns-then-is_result : goal.returns-then-is_result
returns-then-is_result c =
    accept _ _ _ _ _ _ _ _ _ _ _ _ (alone_result _ _ _ _ _ c.is_result.ensures c.if-is_result.true) (held_nothing _ _ _) c.requires.0 (went_nowhere _) (spotted_nothing _ _ _)

pub parse_operand-requires : goal.parse_operand-requires
parse_operand-requires c = (c.requires.0, inner_untyped _ _ c.is_result.ensures c.if-is_result.false c.requires.1)

pub returns : goal.returns
returns c =
    less_read _ _ _ _ _ _ _ _ _ _ _ (alone_operand _ _ _ _ _ c.is_result.ensures c.if-is_result.false) c.parse_operand.ensures
