-- `parser::rows::parse_kind` meets its contract. Assumes nothing.
use Rattle.untyped.proofs.KindLaws.{kind_untyped}
use Rattle.untyped.proofs.Walk.{same_read}
use Rattle.untyped.proofs.SlotLaws.{kind_literal, kind_pair, kind_embedded, kind_operand}
use Rattle.parser.proofs.rows.parse_kind.Goals as goal

pub parse_literal-requires : goal.parse_literal-requires
parse_literal-requires c = (c.requires.0, c.requires.3)

pub returns-then-kind-eq-TYPED_LITERAL : goal.returns-then-kind-eq-TYPED_LITERAL
returns-then-kind-eq-TYPED_LITERAL c =
    same_read _ _ _ _ _ _ _ _ _ _ _ (kind_literal _ _ _ _ c.if-kind-eq-TYPED_LITERAL.true) c.parse_literal.ensures

pub parse_literal_pair-requires : goal.parse_literal_pair-requires
parse_literal_pair-requires c = (c.requires.0, c.requires.3)

pub returns-then-kind-eq-LITERAL_AND_ID : goal.returns-then-kind-eq-LITERAL_AND_ID
returns-then-kind-eq-LITERAL_AND_ID c =
    same_read _ _ _ _ _ _ _ _ _ _ _ (kind_pair _ _ _ _ c.if-kind-eq-LITERAL_AND_ID.true) c.parse_literal_pair.ensures

pub returns-then-kind-eq-EMBEDDED : goal.returns-then-kind-eq-EMBEDDED
returns-then-kind-eq-EMBEDDED c =
    same_read _ _ _ _ _ _ _ _ _ _ _ (kind_embedded _ _ _ _ c.if-kind-eq-EMBEDDED.true) c.parse_spec_constant_op.ensures

pub parse_operand-requires : goal.parse_operand-requires
parse_operand-requires c = (
  c.requires.0,
  kind_untyped _ c.requires.1 c.requires.2 c.if-kind-eq-TYPED_LITERAL.false c.if-kind-eq-LITERAL_AND_ID.false c.if-kind-eq-EMBEDDED.false,
)

pub returns : goal.returns
returns c =
    same_read _ _ _ _ _ _ _ _ _ _ _
    (kind_operand _ _ _ _ (kind_untyped _ c.requires.1 c.requires.2 c.if-kind-eq-TYPED_LITERAL.false c.if-kind-eq-LITERAL_AND_ID.false c.if-kind-eq-EMBEDDED.false))
    c.parse_operand.ensures
