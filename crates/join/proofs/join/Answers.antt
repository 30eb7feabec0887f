-- `join::join` meets its contract.
use Rattle.std.proofs.lemmas.Bool.{not_from_true, not_from_false}
use mathlib.Core.Path.{sym, ◌∙◌}
use borrow.Author.Tests.{not-true, not-false}
use Rattle.demands.proofs.Bytes.{slice_bytes}
use Rattle.join.proofs.JoinLaws.{first_unformed, second_unformed, clashed, flat_by, walked_as, measured_union, measured_alone}
use Rattle.join.proofs.join.Goals as goal

pub returns-then-not-note_kinds-clause-joins : goal.returns-then-not-note_kinds-clause-joins
returns-then-not-note_kinds-clause-joins c =
    first_unformed c.args.first.now c.args.second.now c.args.out.now _ (sym c.note_kinds.ensures.value ∙ not-true _ (not_from_false _ c.if-not-note_kinds.true)) c.refused.ensures

pub returns-then-not-note_kinds-clause-all_bytes : goal.returns-then-not-note_kinds-clause-all_bytes
returns-then-not-note_kinds-clause-all_bytes c = (slice_bytes c.args.first.now c.type_inv.first, slice_bytes c.args.second.now c.type_inv.second)

pub returns-then-not-note_kinds-2-clause-joins : goal.returns-then-not-note_kinds-2-clause-joins
returns-then-not-note_kinds-2-clause-joins c =
    second_unformed c.args.first.now c.args.second.now c.args.out.now _ (sym c.note_kinds.ensures.value ∙ not-false _ (not_from_true _ c.if-not-note_kinds.false)) (sym c.note_kinds-2.ensures.value ∙ not-true _ (not_from_false _ c.if-not-note_kinds-2.true)) c.refused-then-not-note_kinds-2.ensures

pub returns-then-not-note_kinds-2-clause-all_bytes : goal.returns-then-not-note_kinds-2-clause-all_bytes
returns-then-not-note_kinds-2-clause-all_bytes c = (slice_bytes c.args.first.now c.type_inv.first, slice_bytes c.args.second.now c.type_inv.second)

pub put_union-requires-clause-first_value : goal.put_union-requires-clause-first_value
put_union-requires-clause-first_value c =
    let first = not-false _ (not_from_true _ c.if-not-note_kinds.false) in
    let second = not-false _ (not_from_true _ c.if-not-note_kinds-2.false) in
    (sym c.note_kinds.ensures.value ∙ first, sym c.note_kinds-2.ensures.value ∙ second, flat_by (c.note_kinds.ensures.noted first) (c.note_kinds-2.ensures.noted second) _ _ c.are_apart.ensures c.are_apart-2.ensures)

pub put_union-requires-clause-second_value : goal.put_union-requires-clause-second_value
put_union-requires-clause-second_value c = measured_union _ _ _ _ _ (walked_as _ _ _ _ _ _ _ c.merge.ensures c.in-Ok.is)

pub returns-in-Err-clause-joins : goal.returns-in-Err-clause-joins
returns-in-Err-clause-joins c =
    clashed c.args.first.now c.args.second.now c.args.out.now (sym c.note_kinds.ensures.value ∙ not-false _ (not_from_true _ c.if-not-note_kinds.false)) (sym c.note_kinds-2.ensures.value ∙ not-false _ (not_from_true _ c.if-not-note_kinds-2.false)) _ _ _ (walked_as _ _ _ _ _ _ _ c.merge.ensures c.in-Err.is) c.refused-in-Err.ensures

pub returns-in-Err-clause-all_bytes : goal.returns-in-Err-clause-all_bytes
returns-in-Err-clause-all_bytes c = (slice_bytes c.args.first.now c.type_inv.first, slice_bytes c.args.second.now c.type_inv.second)

pub returns-in-Ok-clause-joins : goal.returns-in-Ok-clause-joins
returns-in-Ok-clause-joins c = measured_alone _ _ _ _ _ _ _ (walked_as _ _ _ _ _ _ _ c.merge.ensures c.in-Ok.is) c.put_union.ensures

pub returns-in-Ok-clause-all_bytes : goal.returns-in-Ok-clause-all_bytes
returns-in-Ok-clause-all_bytes c = (slice_bytes c.args.first.now c.type_inv.first, slice_bytes c.args.second.now c.type_inv.second)
