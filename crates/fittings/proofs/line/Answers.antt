-- `line` meets its contract: the stores have the room that always suffices.
use Rattle.fittings.proofs.Telling.{long_enough}
use Rattle.fittings.proofs.line.Goals as goal

pub by_bytes-x-requires : goal.by_bytes-x-requires
by_bytes-x-requires g c = long_enough _ c.requires c.empty-stores.ensures
