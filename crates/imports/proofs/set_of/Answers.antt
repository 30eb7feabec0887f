-- `imports::set_of` meets its contract.
-- Assumes nothing.
use Prim.Native.Nat.{◌-◌}
use Rattle.spelled.proofs.Stores.{stores_at, stores_in}
use Rattle.imports.proofs.Sets.{set_up, set_start, set_hit, set_miss}
use native.Mathlib.Omega.{arith}
use Rattle.imports.proofs.set_of.Goals as goal

pub loop-i-init : goal.loop-i-init
loop-i-init c =
    set_start _ _ _ _ c.args.good.stores _ _ c.requires.0 c.requires.1

pub record_at-requires : goal.record_at-requires
record_at-requires c =
    omega (arith, stores_in _ _ _ _ c.args.good.stores (c.loop-i.i - 1) (omega arith))

pub import_of-set-requires : goal.import_of-set-requires
import_of-set-requires c =
    (stores_at _ _ _ _ c.args.good.stores (c.loop-i.i - 1) (omega arith) _ c.record_at.ensures).sound.operands

pub returns-then-set-ne0 : goal.returns-then-set-ne0
returns-then-set-ne0 c =
    set_hit (stores_at _ _ _ _ c.args.good.stores (c.loop-i.i - 1) (omega arith) _ c.record_at.ensures) _ _ (set_up _ _ _ c.loop-i-test.true c.loop-i.invariant) c.import_of-set.ensures c.if-set-ne0.true

pub loop-i-preserved : goal.loop-i-preserved
loop-i-preserved c =
    set_miss (stores_at _ _ _ _ c.args.good.stores (c.loop-i.i - 1) (omega arith) _ c.record_at.ensures) _ _ (set_up _ _ _ c.loop-i-test.true c.loop-i.invariant) c.import_of-set.ensures c.if-set-ne0.false
