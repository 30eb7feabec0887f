-- `pieces::pieces::put_hex` meets its contract: n digits.
-- Assumes nothing.
use native.Mathlib.Omega.{arith}
use Rattle.pieces.proofs.Put.{text_yes, hex_room, hex_no}
use Rattle.pieces.proofs.pieces.put_hex.Goals as goal

pub hex-requires : goal.hex-requires
hex-requires c = hex_room _ _ _ _ _ c.requires c.if-keep.true

pub returns-then-keep : goal.returns-then-keep
returns-then-keep c = text_yes _ _ _ _ _ _ c.requires c.if-keep.true c.hex.ensures

pub returns : goal.returns
returns c = hex_no _ _ _ _ _ _ c.if-keep.false (omega arith)
