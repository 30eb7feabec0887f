-- `text_end` meets its contract: the bytes end before the string's words do, or not.
use Rattle.decoder.proofs.Steps.{end_min}
use Rattle.decoder.proofs.text_end.Goals as goal

pub returns : goal.returns
returns c = end_min _ _ _ c.requires _ c.min.ensures
