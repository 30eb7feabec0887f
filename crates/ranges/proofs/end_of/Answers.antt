-- `ranges::end_of` meets its contract: the offset and the words of the last record.
use Rattle.std.proofs.Common.{◌-◌, arith}
use Rattle.spelled.proofs.Stores.{stores_in}
use Rattle.ranges.proofs.Offsets.{none_end, offset_end}
use Rattle.ranges.proofs.end_of.Goals as goal

pub returns-then-good-eq0 : goal.returns-then-good-eq0
returns-then-good-eq0 c = none_end _ _ _ _ c.args.good.stores c.if-good-eq0.true

pub record_at-f-requires : goal.record_at-f-requires
record_at-f-requires c = stores_in _ _ _ _ c.args.good.stores _ (omega (arith, c.if-good-eq0.false))

pub returns : goal.returns
returns c =
    offset_end _ _ _ _ c.args.good.stores (c.args.good.count - 1) (omega (arith, c.if-good-eq0.false)) _ c.record_at-f.ensures (omega (arith, c.if-good-eq0.false))
