-- `pieces::pieces::put_number` meets its contract: as many digits as were counted.
-- Assumes nothing.
use native.Mathlib.Omega.{arith}
use Rattle.pieces.proofs.Put.{text_yes, wrote_no}
use Rattle.pieces.proofs.pieces.put_number.Goals as goal

pub returns-then-keep : goal.returns-then-keep
returns-then-keep c = text_yes _ _ _ _ _ _ c.requires c.if-keep.true c.digits.ensures

pub returns : goal.returns
returns c = wrote_no _ _ _ _ _ c.if-keep.false (omega arith)
