use Rattle.std.proofs.Common.{◌+◌, ◌*◌, ◌<◌, ◌≤◌, arith}
use Rattle.spelled.proofs.Stores.{stores_at, stores_in}
use Rattle.ranges.proofs.Offsets.{offset_after_lem}
use Rattle.ranges.proofs.Measure.{none_before, before_few, before_more, before_ends}
use Rattle.ranges.proofs.bytes_before.Goals as goal

pub loop-i-init : goal.loop-i-init
loop-i-init c = none_before _

pub record_at-f-requires : goal.record_at-f-requires
record_at-f-requires c = stores_in _ _ _ _ c.args.good.stores _ (omega arith)

-- the bytes end where the record does, or before
pub overflow_add-bytes : goal.overflow_add-bytes
overflow_add-bytes c =
    let h : c.loop-i.i < c.args.good.count = omega arith in
    let here = stores_at _ _ _ _ c.args.good.stores _ h _ c.record_at-f.ensures in
    let few : c.loop-i.bytes + c.bytes_tagged-bytes.result ≤ c.record_at-f.result.offset + 4 * c.record_at-f.result.words =
    omega (arith, before_few here c.args.tag _ c.loop-i.invariant _ c.bytes_tagged-bytes.ensures, offset_after_lem _ _ _ _ c.args.good.stores _ h _ c.record_at-f.ensures) in
    omega (arith, few, here.sound.few)

pub loop-i-preserved : goal.loop-i-preserved
loop-i-preserved c =
    let here = stores_at _ _ _ _ c.args.good.stores _ (omega arith) _ c.record_at-f.ensures in
    before_more here c.args.tag _ c.loop-i.invariant _ c.bytes_tagged-bytes.ensures

pub returns : goal.returns
returns c = before_ends c.args.tag _ _ c.args.to c.loop-i.invariant (omega arith) c.loop-i-test.false
