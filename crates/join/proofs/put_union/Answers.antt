-- `join::put_union` meets its contract.
use Rattle.std.proofs.lemmas.Bool.{not_from_true, not_from_false}
use mathlib.Core.Path.{refl}
use borrow.Author.Tests.{not-true, not-false}
use Rattle.demands.proofs.Bytes.{slice_bytes}
use Rattle.join.proofs.JoinLaws.{too_long, not_flat, no_room, joined_in, may_keep}
use Rattle.join.proofs.put_union.Goals as goal

pub returns-then-bytes-gt65535 : goal.returns-then-bytes-gt65535
returns-then-bytes-gt65535 c =
    let well = c.requires.first_value in
    let union = c.requires.second_value in
    too_long c.args.first.now c.args.second.now c.args.out.now well.0 well.1 (slice_bytes c.args.first.now c.type_inv.first) (slice_bytes c.args.second.now c.type_inv.second) union.0 _ union.1 _ c.if-bytes-gt65535.true c.refused.ensures

pub returns-then-not-flat : goal.returns-then-not-flat
returns-then-not-flat c =
    let well = c.requires.first_value in
    let union = c.requires.second_value in
    not_flat c.args.first.now c.args.second.now c.args.out.now well.0 well.1 (slice_bytes c.args.first.now c.type_inv.first) (slice_bytes c.args.second.now c.type_inv.second) union.0 _ union.1 c.if-bytes-gt65535.false _ well.2 _ (not-true _ (not_from_false _ c.if-not-flat.true)) c.refused-then-not-flat.ensures

pub returns-then-out-bytes : goal.returns-then-out-bytes
returns-then-out-bytes c =
    let well = c.requires.first_value in
    let union = c.requires.second_value in
    no_room c.args.first.now c.args.second.now c.args.out.now well.0 well.1 (slice_bytes c.args.first.now c.type_inv.first) (slice_bytes c.args.second.now c.type_inv.second) union.0 _ union.1 c.if-bytes-gt65535.false _ well.2 _ (not-false _ (not_from_true _ c.if-not-flat.false)) c.if-out-bytes.true c.refused-then-out-bytes.ensures

pub merge-kept-requires-clause-may_keep : goal.merge-kept-requires-clause-may_keep
merge-kept-requires-clause-may_keep c =
    let union = c.requires.second_value in
    λ k. may_keep _ _ _ _ union.0 union.1 c.if-out-bytes.false

pub returns : goal.returns
returns c =
    let well = c.requires.first_value in
    let union = c.requires.second_value in
    joined_in c.args.first.now c.args.second.now c.args.out.now well.0 well.1 (slice_bytes c.args.first.now c.type_inv.first) (slice_bytes c.args.second.now c.type_inv.second) union.0 _ union.1 c.if-bytes-gt65535.false _ well.2 _ _ _ (not-false _ (not_from_true _ c.if-not-flat.false)) c.if-out-bytes.false c.merge-kept.ensures refl
