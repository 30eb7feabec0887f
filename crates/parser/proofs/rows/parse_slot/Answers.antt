-- `rows::parse_slot` meets its contract: a result, one word as it stands, any other operand.
use mathlib.Core.Path.{sym, ◌∙◌}
use Rattle.spec.proofs.Answered.{passed_on}
use Rattle.untyped.proofs.KindLaws.{number_word}
use Rattle.untyped.proofs.SlotLaws.{kind_word, walks_result, walks_none, walks_more, walks_as}
use Rattle.parser.proofs.rows.parse_slot.Goals as goal

pub returns-in_err-id : goal.returns-in_err-id
returns-in_err-id c types f =
    rw (passed_on _ c.from_residual.ensures) (walks_none _ _ _ _ _ _ _ _ _ c.is_result.ensures types f c.if-is_result.true _ _ c.in_err-id.ensures)

pub returns-then-is_result : goal.returns-then-is_result
returns-then-is_result c types f =
    walks_result _ _ _ _ _ _ _ _ _ c.is_result.ensures types f c.if-is_result.true c.requires.0 _ _ c.in_ok-id.ensures _ c.with_result.ensures

pub read_word-requires : goal.read_word-requires
read_word-requires c = (c.requires.0, number_word _ c.if-kind.true)

pub returns-then-kind : goal.returns-then-kind
returns-then-kind c types f =
    walks_as _ _ _ _ _ _ _ _ _ c.is_result.ensures types f c.if-is_result.false _ _ _ _ (kind_word _ _ _ _ c.if-kind.true) (c.read_word.ensures _ _)

pub parse_kind-requires : goal.parse_kind-requires
parse_kind-requires c = (c.requires.0, c.requires.1, sym c.is_result.ensures ∙ c.if-is_result.false, c.requires.2)

pub returns : goal.returns
returns c types f = walks_more _ _ _ _ _ _ _ _ _ c.is_result.ensures types f c.if-is_result.false _ _ _ c.parse_kind.ensures
