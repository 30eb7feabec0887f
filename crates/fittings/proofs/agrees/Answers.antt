-- `agrees` meets its contract: the stores have the room that always suffices.
use Rattle.fittings.proofs.Telling.{long_enough}
use Rattle.fittings.proofs.agrees.Goals as goal

pub prepared-y-requires : goal.prepared-y-requires
prepared-y-requires c = long_enough _ c.requires c.empty-others.ensures
