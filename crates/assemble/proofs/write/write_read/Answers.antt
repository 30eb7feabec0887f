-- `assemble::write::write_read` meets its contract: the end against the output, then the header and the instructions.
-- Assumes nothing.
use Rattle.std.proofs.Common.{refl, arith}
use Rattle.assemble.proofs.Writing.{read_order, write_full, write_done}
use Rattle.assemble.proofs.write.write_read.Goals as goal

pub returns-then-out-bytes : goal.returns-then-out-bytes
returns-then-out-bytes c =
    write_full _ c.args.header (omega arith) _ _ (read_order _) c.args.out.now _ _ c.too_short.ensures refl (omega (arith, c.if-out-bytes.true, c.end_of-bytes.ensures))

pub returns : goal.returns
returns c =
    write_done _ c.args.header (omega arith) _ _ (read_order _) c.args.out.now _ _ c.put_header.ensures c.put_read.ensures _ c.end_of-bytes.ensures c.if-out-bytes.false
