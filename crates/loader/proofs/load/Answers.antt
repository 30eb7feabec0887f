-- `loader::load` meets its contract: the grammar is checked first, and indexed in the same pass.
use Rattle.std.proofs.Common.{sym, ◌∙◌}
use Rattle.loader.proofs.Beginning.{load_unformed, load_formed}
use Rattle.loader.proofs.load.Goals as goal

pub returns-then-not-prepare : goal.returns-then-not-prepare
returns-then-not-prepare c = load_unformed _ _ _ c.type_inv.module (sym c.prepare.ensures.value ∙ c.if-not-prepare.true) _ c.no_instruction.ensures

pub returns : goal.returns
returns c = load_formed _ _ _ c.type_inv.module (sym c.prepare.ensures.value ∙ c.if-not-prepare.false) _ _ (rw c.new-rows.ensures.0 at c.load_indexed.ensures)
