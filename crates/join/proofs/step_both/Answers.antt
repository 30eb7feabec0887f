-- `join::step_both` meets its contract.
use mathlib.Core.Path.{refl}
use Rattle.demands.proofs.Bytes.{slice_bytes}
use Rattle.join.specs.Steps.{Stepped}
use Rattle.join.proofs.StepLaws.{same_step, differ_step, slices_equal, slices_differ}
use Rattle.join.proofs.step_both.Goals as goal

pub returns-then-eq : goal.returns-then-eq
unfolding Stepped
returns-then-eq c =
    let keys = c.requires.key_value in
    same_step (slice_bytes c.args.first.now c.type_inv.first) (slice_bytes c.args.second.now c.type_inv.second) c.requires.i_in_bounds.1 c.requires.j_in_bounds.1 c.requires.i_in_bounds.0 c.requires.j_in_bounds.0 keys.0 keys.1 refl c.piece_end-i_end.ensures c.piece_end-j_end.ensures (slices_equal _ _ _ c.eq.ensures c.if-eq.true)

pub returns : goal.returns
unfolding Stepped
returns c =
    let keys = c.requires.key_value in
    differ_step (slice_bytes c.args.first.now c.type_inv.first) (slice_bytes c.args.second.now c.type_inv.second) c.requires.i_in_bounds.1 c.requires.j_in_bounds.1 c.requires.i_in_bounds.0 c.requires.j_in_bounds.0 keys.0 keys.1 refl c.piece_end-i_end.ensures c.piece_end-j_end.ensures (slices_differ _ _ _ c.eq.ensures c.if-eq.false)
