-- `assemble::write::put_header` meets its contract: five words, one after the other.
-- Assumes nothing.
use native.Mathlib.Omega.{arith}
use Rattle.assemble.proofs.Writing.{header_put}
use Rattle.assemble.proofs.write.put_header.Goals as goal

pub returns : goal.returns
returns c =
    header_put c.args.header (omega arith) c.args.out.now _ _ _ _ _ c.put_word.ensures c.put_word-2.ensures c.put_word-3.ensures c.put_word-4.ensures c.put_word-5.ensures
