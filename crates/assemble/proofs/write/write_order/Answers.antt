-- `assemble::write::write_order` meets its contract: the stores, cut at their counts, are good where the check says so.
-- Assumes nothing.
use Rattle.assemble.proofs.Writing.{cut_log, cut_strings, lent_good, order_good, order_bad}
use Rattle.assemble.proofs.write.write_order.Goals as goal

pub slice_bounds-good-end : goal.slice_bounds-good-end
slice_bounds-good-end c =
    cut_log _ _ _ _ _ _ _ _ c.check-checked.ensures c.in_default.is

pub slice_bounds-good-end-in_default : goal.slice_bounds-good-end-in_default
slice_bounds-good-end-in_default c =
    cut_strings _ _ _ _ _ _ _ _ c.check-checked.ensures c.in_default.is

pub invariant_of-good : goal.invariant_of-good
invariant_of-good c =
    record { stores = lent_good _ _ _ _ _ _ _ _ c.check-checked.ensures c.in_default.is }

pub returns-in_default : goal.returns-in_default
returns-in_default c =
    order_good _ _ _ _ _ _ _ _ c.check-checked.ensures c.in_default.is _ _ _ _ c.write_good.ensures

pub returns : goal.returns
returns c =
    order_bad _ _ _ _ _ _ _ _ c.check-checked.ensures _ c.in-Some.is _ _
