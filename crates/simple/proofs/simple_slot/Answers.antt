-- `simple::simple_slot` meets its contract: what is no literal by type is read as where a literal is of no kind.
use Rattle.std.proofs.Common.{refl, ap, sym, ◌∙◌}
use native.Mathlib.Omega.{arith}
use Rattle.spec.specs.Base.{within}
use Rattle.spec.specs.Kinds.{is_enum, is_result}
use Rattle.untyped.proofs.KindLaws.{not_kind, number_word, enum_untyped}
use Rattle.used.proofs.TypeLaws.{literal_result, literal_other}
use Rattle.untyped.proofs.SlotLaws.{kind_word, kind_operand, kind_text, kind_literal}
use Rattle.simple.proofs.SimpleLaws.{pass}
use Rattle.simple.proofs.SimpleRows.{no_result, reads_as}
use Rattle.simple.proofs.simple_slot.Goals as goal

pub simple_result-requires-clause-few : goal.simple_result-requires-clause-few
simple_result-requires-clause-few c = (c.requires.few, ap is_result c.if-kind-eq-RESULT_TYPE.true)

pub returns-then-kind-eq-RESULT_TYPE : goal.returns-then-kind-eq-RESULT_TYPE
returns-then-kind-eq-RESULT_TYPE c = c.simple_result.ensures _ _ _ _

pub simple_result-requires-then-kind-eq-RESULT_ID-clause-few : goal.simple_result-requires-then-kind-eq-RESULT_ID-clause-few
simple_result-requires-then-kind-eq-RESULT_ID-clause-few c = (c.requires.few, ap is_result c.if-kind-eq-RESULT_ID.true)

pub returns-then-kind-eq-RESULT_ID : goal.returns-then-kind-eq-RESULT_ID
returns-then-kind-eq-RESULT_ID c = c.simple_result-then-kind-eq-RESULT_ID.ensures _ _ _ _

pub simple_word-requires-clause-few : goal.simple_word-requires-clause-few
simple_word-requires-clause-few c = (c.requires.few, number_word _ c.if-kind.true)

pub returns-then-kind : goal.returns-then-kind
returns-then-kind c =
    let is = c.if-kind.true in
    reads_as _ _ _ _ _ _ _ _ _ refl _ (literal_other _ _ _ (not_kind (λ j. within 31 j 35) _ 48 is refl) (not_kind (λ j. within 31 j 35) _ 49 is refl)).0
    (no_result _ c.if-kind-eq-RESULT_TYPE.false c.if-kind-eq-RESULT_ID.false) _ _ _ _ (kind_word _ _ _ _ is) (c.simple_word.ensures _ _)

pub simple_value-requires-clause-few : goal.simple_value-requires-clause-few
simple_value-requires-clause-few c = (c.requires.few, sym c.is_enum.ensures ∙ c.if-is_enum.true)

pub returns-then-is_enum : goal.returns-then-is_enum
returns-then-is_enum c =
    let is = sym c.is_enum.ensures ∙ c.if-is_enum.true in
    reads_as _ _ _ _ _ _ _ _ _ refl _ (literal_other _ _ _ (not_kind is_enum _ 48 is refl) (not_kind is_enum _ 49 is refl)).0
    (no_result _ c.if-kind-eq-RESULT_TYPE.false c.if-kind-eq-RESULT_ID.false) _ _ _ _ (kind_operand _ _ _ _ (enum_untyped _ is)) c.simple_value.ensures

pub returns-then-kind-eq-STRING : goal.returns-then-kind-eq-STRING
returns-then-kind-eq-STRING c =
    let is = c.if-kind-eq-STRING.true in
    reads_as _ _ _ _ _ _ _ _ _ refl _ (literal_other _ _ _ (λ e. omega (arith, is)) (λ e. omega (arith, is))).0
    (no_result _ c.if-kind-eq-RESULT_TYPE.false c.if-kind-eq-RESULT_ID.false) _ _ _ _ (kind_text _ _ _ _ is) (c.simple_text.ensures _)

pub returns-then-kind-eq-TYPED_LITERAL : goal.returns-then-kind-eq-TYPED_LITERAL
returns-then-kind-eq-TYPED_LITERAL c =
    let kind = c.literal_kind-literal.ensures in
    reads_as _ _ _ _ _ _ _ _ _ refl _ (literal_result _ _ _ _ c.if-kind-eq-TYPED_LITERAL.true (kind.0 _ _ c.resolve.ensures, kind.1)).0
    (no_result _ c.if-kind-eq-RESULT_TYPE.false c.if-kind-eq-RESULT_ID.false) _ _ _ _ (kind_literal _ _ _ _ c.if-kind-eq-TYPED_LITERAL.true)
    (c.simple_literal.ensures _)

pub returns : goal.returns
returns c = pass _
