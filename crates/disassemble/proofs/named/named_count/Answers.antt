-- `disassemble::named::named_count` meets its contract.
-- Assumes nothing.
use Rattle.std.proofs.lemmas.Bool.{not_from_true, not_from_false}
use Rattle.disassemble.proofs.Judged.{count_inside, count_readable, count_bad, count_on, count_ends}
use Rattle.disassemble.proofs.named.named_count.Goals as goal

pub record_at-requires : goal.record_at-requires
record_at-requires c =
    count_inside c.loop-i.invariant c.loop-i-test.true

pub is_named-requires : goal.is_named-requires
is_named-requires c =
    count_readable c.loop-i.invariant c.loop-i-test.true _ c.record_at.ensures

pub returns-then-not-is_named : goal.returns-then-not-is_named
returns-then-not-is_named c =
    count_bad c.loop-i.invariant c.loop-i-test.true _ c.record_at.ensures _ c.is_named.ensures (not_from_false _ c.if-not-is_named.true)

pub loop-i-preserved : goal.loop-i-preserved
loop-i-preserved c =
    count_on c.loop-i.invariant c.loop-i-test.true _ c.record_at.ensures _ c.is_named.ensures (not_from_true _ c.if-not-is_named.false)

pub returns : goal.returns
returns c =
    count_ends c.loop-i.invariant c.loop-i-test.false
