-- `join::step_at` meets its contract.
use Rattle.demands.proofs.Bytes.{slice_bytes}
use Rattle.join.specs.Steps.{Stepped}
use Rattle.join.proofs.StepLaws.{above_end, first_on, second_on, key_read, first_lower, second_lower}
use Rattle.join.proofs.step_at.Goals as goal

pub returns-then-second-j : goal.returns-then-second-j
unfolding Stepped
returns-then-second-j c =
    first_on (slice_bytes c.args.first.now c.type_inv.first) (slice_bytes c.args.second.now c.type_inv.second) c.requires.starts.0 c.requires.starts.1 c.piece_end.ensures (above_end _ _ _ c.if-second-j.true)

pub returns-then-first-i : goal.returns-then-first-i
unfolding Stepped
returns-then-first-i c =
    second_on (slice_bytes c.args.first.now c.type_inv.first) (slice_bytes c.args.second.now c.type_inv.second) c.requires.starts.0 c.requires.starts.1 c.piece_end-then-first-i.ensures (above_end _ _ _ c.if-first-i.true)

pub returns-then-x-y : goal.returns-then-x-y
unfolding Stepped
returns-then-x-y c =
    first_lower (slice_bytes c.args.first.now c.type_inv.first) (slice_bytes c.args.second.now c.type_inv.second) c.requires.starts.0 c.requires.starts.1 c.if-first-i.false c.if-second-j.false (key_read _ _ _ _ c.item_at.ensures c.key_of-x.ensures) (key_read _ _ _ _ c.item_at-2.ensures c.key_of-y.ensures) c.if-x-y.true c.piece_end-then-x-y.ensures

pub returns-then-y-x : goal.returns-then-y-x
unfolding Stepped
returns-then-y-x c =
    second_lower (slice_bytes c.args.first.now c.type_inv.first) (slice_bytes c.args.second.now c.type_inv.second) c.requires.starts.0 c.requires.starts.1 c.if-first-i.false c.if-second-j.false (key_read _ _ _ _ c.item_at.ensures c.key_of-x.ensures) (key_read _ _ _ _ c.item_at-2.ensures c.key_of-y.ensures) c.if-y-x.true c.piece_end-then-y-x.ensures
