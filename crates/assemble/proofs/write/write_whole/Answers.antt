-- `assemble::write::write_whole` meets its contract: the end against the output, then the header, the sections and the functions.
-- Assumes nothing.
use Rattle.std.proofs.Common.{refl, arith}
use Rattle.spelled.proofs.Stores.{stores_length}
use Rattle.assemble.proofs.Writing.{whole_order, write_full, write_done}
use Rattle.assemble.proofs.write.write_whole.Goals as goal

pub module_end-need-requires : goal.module_end-need-requires
module_end-need-requires c =
    let models = c.survey.ensures.each 4 (omega arith) in
    record {
      model_le_count = omega (arith, models.order, models.within, stores_length _ _ _ _ c.args.good.stores);
      count_value = models.opens;
    }

pub returns-then-out-need : goal.returns-then-out-need
returns-then-out-need c =
    write_full _ c.args.header (omega arith) _ _ (whole_order _) c.args.out.now _ _ c.too_short.ensures refl (omega (arith, c.if-out-need.true, c.module_end-need.ensures))

pub returns : goal.returns
returns c =
    write_done _ c.args.header (omega arith) _ _ (whole_order _) c.args.out.now _ _ c.put_header.ensures c.put_module.ensures _ c.module_end-need.ensures c.if-out-need.false
