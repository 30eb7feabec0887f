-- `loader::run::load_sized` meets its contract: hints that are all 0 are blank, and there are enough.
use Rattle.std.proofs.Common.{rules}
use Rattle.loader.proofs.Beginning.{blank_hints}
use Rattle.loader.proofs.run.load_sized.Goals as goal

pub load_with-requires : goal.load_with-requires
load_with-requires g c = record { indexed = c.requires.indexed; hints_are = (search rules, blank_hints _) }
