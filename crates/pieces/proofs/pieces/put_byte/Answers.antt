-- `pieces::pieces::put_byte` meets its contract: stored where it is kept.
-- Assumes nothing.
use mathlib.Core.Path.{refl}
use native.Mathlib.Omega.{arith}
use Rattle.pieces.proofs.Put.{wrote_yes, wrote_no}
use Rattle.pieces.proofs.pieces.put_byte.Goals as goal

pub returns-then-keep : goal.returns-then-keep
returns-then-keep c =
    wrote_yes _ _ _ _ _ _ c.if-keep.true (omega (arith, c.requires.room c.if-keep.true)) refl

pub returns : goal.returns
returns c = wrote_no _ _ _ _ _ c.if-keep.false (omega arith)
