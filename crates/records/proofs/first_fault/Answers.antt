use Rattle.std.proofs.Common.{◌≡◌, ℕ, ◌+◌, ◌/◌, length, subst, arith}
use Rattle.records.specs.Steps.{fault_in}
use Rattle.records.proofs.Pass.{check_starts, check_missing, check_fields, check_operands, check_tag, check_goes_on, check_ends}
use Rattle.records.proofs.first_fault.Goals as goal
use Rattle.std.specs.Prelude.{Some}

pub loop-i-init : goal.loop-i-init
loop-i-init g c = check_starts _ _ _ _

pub returns-in_default : goal.returns-in_default
returns-in_default g c =
    check_tag c.requires.field_size_le_size c.loop-i.invariant (omega arith) (omega arith) _ c.fields_at-f.ensures _ c.tag_after.ensures c.in_default.is

pub returns-in_default-offset_after : goal.returns-in_default-offset_after
returns-in_default-offset_after g c =
    check_fields c.requires.field_size_le_size c.loop-i.invariant (omega arith) (omega arith) _ c.fields_at-f.ensures _ c.offset_after.ensures c.in_default-offset_after.is

pub returns-in_default-operands_after : goal.returns-in_default-operands_after
returns-in_default-operands_after g c =
    check_operands c.requires.field_size_le_size c.loop-i.invariant (omega arith) (omega arith) _ c.fields_at-f.ensures _ c.operands_after.ensures c.in_default-operands_after.is

-- one that is good in each fold
pub loop-i-preserved : goal.loop-i-preserved
loop-i-preserved g c =
    check_goes_on c.requires.field_size_le_size c.loop-i.invariant (omega arith) (omega arith) _ c.fields_at-f.ensures _ _ c.offset_after.ensures c.in-Some-offset_after.is _ _ c.operands_after.ensures c.in-Some-operands_after.is _ _ c.tag_after.ensures c.in-Some.is

-- the first that does not lie in the store
pub returns-then-there-asked : goal.returns-then-there-asked
returns-then-there-asked g c =
    let e : c.loop-i.i ≡ length c.args.instructions.now / c.args.asked.size = omega arith in
    subst (λ (k : ℕ). Some (k + 1) ≡ fault_in c.args.asked c.args.instructions.now c.args.log.now c.args.strings.now) e
    (check_missing c.requires.field_size_le_size c.loop-i.invariant (omega arith) (omega arith))

pub returns : goal.returns
returns g c =
    let e : c.loop-i.i ≡ c.args.asked.count = omega arith in
    check_ends c.requires.field_size_le_size c.loop-i.invariant (omega arith) _ c.is_outside.ensures _ (rw e c.at_end.ensures)
