-- `kollafrin::kollafrin_load`: the answer fits its words.
use Rattle.kollafrin.proofs.Laws.{loaded_small}
use Rattle.kollafrin.proofs.kollafrin_load.Goals as goal

pub say_loaded-requires : goal.say_loaded-requires
say_loaded-requires c = loaded_small c.load-x.ensures
