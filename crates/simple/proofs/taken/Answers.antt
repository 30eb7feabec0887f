-- `simple::taken` meets its contract: what is refused or breaks more is passed over.
use Rattle.simple.proofs.SimpleLaws.{pass, take_good}
use Rattle.simple.proofs.taken.Goals as goal

pub returns-in_default : goal.returns-in_default
returns-in_default c = pass _

pub returns-then-n-breaks : goal.returns-then-n-breaks
returns-then-n-breaks c = pass _

pub returns-in_default-limit : goal.returns-in_default-limit
returns-in_default-limit c = pass _

pub returns : goal.returns
returns c = take_good _ _ _ _ c.in-Ok.is c.in-Some.is
