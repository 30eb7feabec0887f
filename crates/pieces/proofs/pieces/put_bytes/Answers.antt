-- `pieces::pieces::put_bytes` meets its contract: stored where they are kept.
-- Assumes nothing.
use native.Mathlib.Omega.{arith}
use Rattle.pieces.proofs.Put.{wrote_yes, wrote_no}
use Rattle.pieces.proofs.pieces.put_bytes.Goals as goal

pub returns-then-keep : goal.returns-then-keep
returns-then-keep c =
    wrote_yes _ _ _ _ _ _ c.if-keep.true (omega (arith, c.requires.room c.if-keep.true)) c.put_bytes.ensures

pub returns : goal.returns
returns c = wrote_no _ _ _ _ _ c.if-keep.false (omega arith)
