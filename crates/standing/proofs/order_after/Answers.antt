use Rattle.standing.proofs.StandLaws.{after_tag}
use Rattle.standing.proofs.order_after.Goals as goal

pub returns : goal.returns
returns c = after_tag _ _ _ c.min.ensures
