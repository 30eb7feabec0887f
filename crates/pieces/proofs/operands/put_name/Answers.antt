-- `pieces::operands::put_name` meets its contract: the text that is found, or none.
use mathlib.Core.Path.{sym}
use native.Mathlib.Omega.{arith}
use Rattle.pieces.proofs.Put.{wrote_none, wrote_as, room_as}
use Rattle.pieces.proofs.Texts.{name_found, name_none, name_inside}
use Rattle.pieces.proofs.operands.put_name.Goals as goal

pub returns-in_default : goal.returns-in_default
returns-in_default c = wrote_as _ _ (name_none _ _ _ _ c.find-found.ensures.result_value c.in_default.is) (wrote_none _ _ _ (omega arith))

pub slice_bounds-put_bytes-count : goal.slice_bounds-put_bytes-count
slice_bounds-put_bytes-count c = (name_inside _ _ _ _ c.find-found.ensures.inside c.in-Some.is).0

pub slice_bounds-put_bytes-end : goal.slice_bounds-put_bytes-end
slice_bounds-put_bytes-end c = omega (arith, name_inside _ _ _ _ c.find-found.ensures.inside c.in-Some.is)

pub put_bytes-requires : goal.put_bytes-requires
put_bytes-requires c = room_as _ _ (sym (name_found _ _ _ _ _ _ c.find-found.ensures.result_value c.in-Some.is)) c.requires

pub returns : goal.returns
returns c = wrote_as _ _ (name_found _ _ _ _ _ _ c.find-found.ensures.result_value c.in-Some.is) c.put_bytes.ensures

pub slice_bounds-put_bytes-start : goal.slice_bounds-put_bytes-start
slice_bounds-put_bytes-start c = omega (arith, name_inside _ _ _ _ c.find-found.ensures.inside c.in-Some.is)
