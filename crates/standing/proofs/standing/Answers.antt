use Rattle.std.proofs.Common.{sym}
use Rattle.standing.proofs.StandLaws.{stands_bad, pass_starts, in_store_lem, pass_stops, pass_goes_on, pass_ends}
use Rattle.standing.proofs.standing.Goals as goal

pub returns-in-Some : goal.returns-in-Some
returns-in-Some c = stands_bad _ _ _ c.check-checked.ensures c.in-Some.is

pub loop-i-init : goal.loop-i-init
loop-i-init c = pass_starts _ _ c.check-checked.ensures c.in_default.is

pub record_at-f-requires : goal.record_at-f-requires
record_at-f-requires c = in_store_lem c.loop-i.invariant c.loop-i-test.true

-- a tag that may not come
pub returns-then-not-may_come : goal.returns-then-not-may_come
returns-then-not-may_come c = pass_stops c.loop-i.invariant c.loop-i-test.true _ c.record_at-f.ensures (sym c.if-not-may_come.ensures)

-- one that may
pub loop-i-preserved : goal.loop-i-preserved
loop-i-preserved c = pass_goes_on c.loop-i.invariant c.loop-i-test.true _ c.record_at-f.ensures (sym c.if-not-may_come.ensures) _ c.order_after-o.ensures

pub returns : goal.returns
returns c = pass_ends c.loop-i.invariant c.loop-i-test.false
