-- `loader::load_builtin` meets its contract: its grammar and its index are prepared.
use Rattle.loader.proofs.Beginning.{load_prepared}
use Rattle.loader.proofs.load_builtin.Goals as goal

pub returns : goal.returns
returns c = load_prepared _ _ _ c.type_inv.module c.bytes.ensures _ _ (rw c.new-rows.ensures.0 at c.load_indexed.ensures)
