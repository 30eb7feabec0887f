-- `inst::finished` meets its contract: no word is left over, or some are.
use Rattle.std.proofs.Common.{rules}
use Rattle.decoder.specs.Answer.{limit_reached}
use Rattle.parser.specs.Inst.{Ended}
use Rattle.parser.proofs.InstLaws.{ended_left}
use Rattle.parser.proofs.inst.finished.Goals as goal

pub returns-then-limit_reached : goal.returns-then-limit_reached
unfolding Ended limit_reached
returns-then-limit_reached c = search rules

pub returns : goal.returns
returns c = ended_left _ _ _ _ _ c.limit_reached.ensures c.if-limit_reached.false c.no_inst.ensures
