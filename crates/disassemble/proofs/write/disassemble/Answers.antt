-- `disassemble::write::disassemble` meets its contract: the records that are passed are looked at for names, and then good ones are written.
-- Assumes nothing.
use Rattle.records.proofs.Fields.{most_length}
use Rattle.disassemble.proofs.Checks.{from_one, part_is, indexed_by, call_told, call_stores, call_unnamed, call_bad, call_good}
use native.Mathlib.Omega.{arith}
use Rattle.disassemble.proofs.write.disassemble.Goals as goal

pub before_bad-count-requires : goal.before_bad-count-requires
before_bad-count-requires c = from_one _ _ c.check-checked.ensures

pub slice_bounds-log-end : goal.slice_bounds-log-end
slice_bounds-log-end c =
    most_length _ _ c.args.log.now c.at_most-log_end.ensures

pub slice_bounds-strings-end : goal.slice_bounds-strings-end
slice_bounds-strings-end c =
    most_length _ _ c.args.strings.now c.at_most-strings_end.ensures

pub new-names-requires : goal.new-names-requires
new-names-requires c = indexed_by _ _ c.bytes.ensures c.prepared.ensures

pub named_count-named-requires : goal.named_count-named-requires
named_count-named-requires c =
    call_told _ _ _ _ _ _ _ c.check-checked.ensures _ _ (part_is c.args.log.now _ _ c.at_most-log_end.ensures) (part_is c.args.strings.now _ _ c.at_most-strings_end.ensures) _ c.before_bad-count.ensures

pub overflow_add-named : goal.overflow_add-named
overflow_add-named c = omega (arith, c.if-named-count.true)

pub returns-then-named-count : goal.returns-then-named-count
returns-then-named-count c =
    call_unnamed _ _ _ _ _ _ _ c.check-checked.ensures _ _ (part_is c.args.log.now _ _ c.at_most-log_end.ensures) (part_is c.args.strings.now _ _ c.at_most-strings_end.ensures) _ c.before_bad-count.ensures _ c.named_count-named.ensures _ _ _ c.if-named-count.true c.bad_record.ensures

pub invariant_of-good : goal.invariant_of-good
invariant_of-good c =
    record { stores = call_stores _ _ _ _ _ _ _ c.check-checked.ensures _ _ (part_is c.args.log.now _ _ c.at_most-log_end.ensures) (part_is c.args.strings.now _ _ c.at_most-strings_end.ensures) _ c.before_bad-count.ensures c.in_default.is }

pub returns-in_default : goal.returns-in_default
returns-in_default c =
    call_good _ _ _ _ _ _ _ c.check-checked.ensures _ _ (part_is c.args.log.now _ _ c.at_most-log_end.ensures) (part_is c.args.strings.now _ _ c.at_most-strings_end.ensures) _ c.before_bad-count.ensures _ c.named_count-named.ensures _ _ _ _ c.if-named-count.false c.in_default.is c.write_good.ensures

pub returns : goal.returns
returns c =
    call_bad _ _ _ _ _ _ _ c.check-checked.ensures _ _ (part_is c.args.log.now _ _ c.at_most-log_end.ensures) (part_is c.args.strings.now _ _ c.at_most-strings_end.ensures) _ c.before_bad-count.ensures _ c.named_count-named.ensures _ _ _ _ c.if-named-count.false c.in-Some.is c.bad_record-2.ensures
