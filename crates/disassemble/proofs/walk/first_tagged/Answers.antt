-- `disassemble::walk::first_tagged` meets its contract.
-- Assumes nothing.
use Rattle.spelled.proofs.Stores.{stores_at, stores_in}
use Rattle.disassemble.proofs.Cursors.{first_yes, first_no, first_none}
use Rattle.disassemble.proofs.walk.first_tagged.Goals as goal

pub record_at-requires : goal.record_at-requires
record_at-requires c = stores_in _ _ _ _ c.args.good.stores _ c.loop-i-test.true

pub returns-then-record_at-tag : goal.returns-then-record_at-tag
returns-then-record_at-tag c =
    first_yes (stores_at _ _ _ _ c.args.good.stores _ c.loop-i-test.true _ c.record_at.ensures) _ c.args.start c.loop-i-test.true c.loop-i.invariant c.if-record_at-tag.true

pub loop-i-preserved : goal.loop-i-preserved
loop-i-preserved c =
    first_no (stores_at _ _ _ _ c.args.good.stores _ c.loop-i-test.true _ c.record_at.ensures) _ c.args.start c.loop-i.invariant c.if-record_at-tag.false

pub returns : goal.returns
returns c = first_none _ _ _ _ c.args.good.stores _ c.args.start _ c.loop-i-test.false c.loop-i.invariant
