-- `kollafrin::kollafrin_load_builtin`: the answer fits its words.
use Rattle.kollafrin.proofs.Laws.{loaded_small}
use Rattle.kollafrin.proofs.kollafrin_load_builtin.Goals as goal

pub say_loaded-requires : goal.say_loaded-requires
say_loaded-requires c = loaded_small c.load_builtin-x.ensures
