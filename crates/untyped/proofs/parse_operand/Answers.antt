-- `untyped::parse_operand` meets its contract: an enumerant with its parameters, two pairs, one record.
use native.Mathlib.Omega.{arith}
use mathlib.Core.Path.{refl, sym, ◌∙◌}
use Rattle.spec.proofs.Answered.{passed_on}
use Rattle.untyped.proofs.One.{may_push, known_told, unread_told, held_narrow, few_pushed, spotted_enum}
use Rattle.untyped.proofs.Walk.{same_read, seq, deny, step_went}
use Rattle.untyped.proofs.KindLaws.{enum_narrow, narrow_fits, untyped_single, id_single, number_single}
use Rattle.untyped.proofs.Values.{place_listed, operand_known, operand_bad, pair_number, pair_ids, single}
use Rattle.untyped.proofs.parse_operand.Goals as goal

pub push-n-requires : goal.push-n-requires
push-n-requires c = may_push c.requires.0 (narrow_fits _ _ (enum_narrow _ (sym c.is_enum.ensures ∙ c.if-is_enum.true)) (omega arith))

pub returns-in_err-v : goal.returns-in_err-v
returns-in_err-v c =
    deny _ _ _ _ _ _ _ _ _ _ _ _ (passed_on _ c.from_residual.ensures)
    (operand_bad _ _ _ _ _ c.is_enum.ensures c.if-is_enum.true _ _ (unread_told _ _ _ _ _ _ _ c.in_err-v.ensures refl))

pub parse_values-requires-clause-few : goal.parse_values-requires-clause-few
parse_values-requires-clause-few c =
    let k = known_told _ _ _ _ _ _ _ _ c.in_ok-v.ensures refl in
    (few_pushed _ _ _ _ _ _ _ _ c.requires.0 k.step (omega arith) c.push-n.ensures.pushed, k.inside)

pub parse_values-requires-clause-place_value : goal.parse_values-requires-clause-place_value
parse_values-requires-clause-place_value c = place_listed _ _ _ _ _ _ _ (known_told _ _ _ _ _ _ _ _ c.in_ok-v.ensures refl)

pub returns-then-is_enum : goal.returns-then-is_enum
returns-then-is_enum c =
    let k = known_told _ _ _ _ _ _ _ _ c.in_ok-v.ensures refl in
    let e = sym c.is_enum.ensures ∙ c.if-is_enum.true in
    seq (held_narrow _ _ _ _ _ _ _ (enum_narrow _ e) c.push-n.ensures.pushed c.push-n.ensures.laid) _ _ _ _ _ _
    (step_went _ _ _ _ k.step _ c.requires.0.limited) (spotted_enum _ _ _ _ _ _ _ k.step e c.push-n.ensures.breaks_value)
    (operand_known _ _ _ _ _ c.is_enum.ensures c.if-is_enum.true _ _ _ k) _ c.parse_values.ensures

pub parse_pair-requires : goal.parse_pair-requires
parse_pair-requires c = (c.requires.0, number_single)

pub returns-then-kind-eq-ID_AND_LITERAL : goal.returns-then-kind-eq-ID_AND_LITERAL
returns-then-kind-eq-ID_AND_LITERAL c =
    same_read _ _ _ _ _ _ _ _ _ _ _ (pair_number _ _ _ _ _ c.is_enum.ensures c.if-is_enum.false c.if-kind-eq-ID_AND_LITERAL.true) c.parse_pair.ensures

pub parse_pair-requires-then-kind-eq-ID_AND_ID : goal.parse_pair-requires-then-kind-eq-ID_AND_ID
parse_pair-requires-then-kind-eq-ID_AND_ID c = (c.requires.0, id_single)

pub returns-then-kind-eq-ID_AND_ID : goal.returns-then-kind-eq-ID_AND_ID
returns-then-kind-eq-ID_AND_ID c =
    same_read _ _ _ _ _ _ _ _ _ _ _ (pair_ids _ _ _ _ _ c.is_enum.ensures c.if-is_enum.false c.if-kind-eq-ID_AND_ID.true) c.parse_pair-then-kind-eq-ID_AND_ID.ensures

pub read_one-requires : goal.read_one-requires
read_one-requires c = (c.requires.0, untyped_single _ c.requires.1 c.if-kind-eq-ID_AND_LITERAL.false c.if-kind-eq-ID_AND_ID.false)

pub returns : goal.returns
returns c =
    same_read _ _ _ _ _ _ _ _ _ _ _ (single _ _ _ _ _ c.is_enum.ensures c.if-is_enum.false c.if-kind-eq-ID_AND_LITERAL.false c.if-kind-eq-ID_AND_ID.false) c.read_one.ensures
