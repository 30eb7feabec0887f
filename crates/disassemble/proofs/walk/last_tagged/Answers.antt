-- `disassemble::walk::last_tagged` meets its contract.
-- Assumes nothing.
use Prim.Native.Nat.{◌-◌}
use Rattle.spelled.proofs.Stores.{stores_at, stores_in}
use Rattle.disassemble.proofs.Cursors.{up, last_starts, last_yes, last_no, last_none}
use native.Mathlib.Omega.{arith}
use Rattle.disassemble.proofs.walk.last_tagged.Goals as goal

pub loop-i-init : goal.loop-i-init
loop-i-init c = last_starts _ _ _ _ c.args.good.stores _

pub record_at-requires : goal.record_at-requires
record_at-requires c = stores_in _ _ _ _ c.args.good.stores (c.loop-i.i - 1) (omega arith)

pub returns-then-record_at-tag : goal.returns-then-record_at-tag
returns-then-record_at-tag c =
    last_yes (stores_at _ _ _ _ c.args.good.stores (c.loop-i.i - 1) (omega arith) _ c.record_at.ensures) _ (omega arith) (up _ _ _ c.loop-i-test.true c.loop-i.invariant) c.if-record_at-tag.true

pub loop-i-preserved : goal.loop-i-preserved
loop-i-preserved c =
    last_no (stores_at _ _ _ _ c.args.good.stores (c.loop-i.i - 1) (omega arith) _ c.record_at.ensures) _ (up _ _ _ c.loop-i-test.true c.loop-i.invariant) c.if-record_at-tag.false

pub returns : goal.returns
returns c = last_none _ _ _ _ c.loop-i-test.false c.loop-i.invariant
