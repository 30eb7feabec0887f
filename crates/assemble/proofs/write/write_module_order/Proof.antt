-- `assemble::write::write_module_order` meets its contract: its order is module order.
-- Assumes nothing.
use Rattle.assemble.proofs.Writing.{writes_as, module_order_by}
use borrow.Author.Rules.{rules}
use Rattle.assemble.proofs.write.write_module_order.Statement.{statement}
use Rattle.assemble.proofs.write.write_module_order.Tie as tie

returns : tie.Need-returns
returns c =
    let at-write-order = c.before.before in
    let at-module-header = at-write-order.before.before in
    writes_as (module_order_by _ _ at-module-header.module_header.ensures _ _) at-write-order.write_order.ensures

pub write_module_order_spec : {M : Type 1} → statement M
write_module_order_spec =
    tie.close (tie.spec (λ c κs. search rules) (λ c κs. search rules) (λ c. search rules) returns)
