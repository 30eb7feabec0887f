-- `pieces::pieces::put_id` meets its contract.
-- Assumes nothing.
use mathlib.Core.List.{[], ◌∷◌}
use Rattle.spec.specs.Digits.{decimal}
use Rattle.spec.specs.Disassembly.{id_text}
use Rattle.pieces.proofs.Put.{room_first, room_next, wrote_both}
use Rattle.pieces.proofs.pieces.put_id.Goals as goal

pub put_byte-next-requires : goal.put_byte-next-requires
unfolding id_text
put_byte-next-requires c = room_first (37 ∷ []) (decimal _) c.requires

pub put_number-requires : goal.put_number-requires
unfolding id_text
put_number-requires c = room_next (37 ∷ []) (decimal _) c.requires c.put_byte-next.ensures

pub returns : goal.returns
unfolding id_text
returns c = wrote_both (37 ∷ []) (decimal _) c.requires c.put_byte-next.ensures c.put_number.ensures
