-- `used::literals::literal_for` meets its contract.
use Rattle.used.proofs.TypeLaws.{literal_result, literal_first, literal_other}
use Rattle.used.proofs.literals.literal_for.Goals as goal

pub returns-then-kind-eq-TYPED_LITERAL : goal.returns-then-kind-eq-TYPED_LITERAL
returns-then-kind-eq-TYPED_LITERAL c =
    let kind = c.literal_kind.ensures in
    literal_result _ _ _ _ c.if-kind-eq-TYPED_LITERAL.true (kind.0 _ _ c.resolve.ensures, kind.1)

pub returns-then-kind-eq-LITERAL_AND_ID : goal.returns-then-kind-eq-LITERAL_AND_ID
returns-then-kind-eq-LITERAL_AND_ID c =
    let kind = c.literal_kind-then-kind-eq-LITERAL_AND_ID.ensures in
    literal_first _ _ _ _ c.if-kind-eq-LITERAL_AND_ID.true _ c.selector_of.ensures
    (kind.0 _ _ c.resolve-then-kind-eq-LITERAL_AND_ID.ensures, kind.1)

pub returns : goal.returns
returns c = literal_other _ _ _ c.if-kind-eq-TYPED_LITERAL.false c.if-kind-eq-LITERAL_AND_ID.false
