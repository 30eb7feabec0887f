use Rattle.std.proofs.Common.{arith}
use Rattle.spelled.proofs.Orders.{sections_all, sections_more_lem, sections_end}
use Rattle.spelled.proofs.Place.{going_starts, going_ends, going_room, going_on}
use Rattle.order.proofs.put_sections.Goals as goal

pub loop-tag-init : goal.loop-tag-init
loop-tag-init c = going_starts _ _ _ _ (sections_all _) c.requires.room

pub put_section-at-requires-clause-room : goal.put_section-at-requires-clause-room
put_section-at-requires-clause-room c = going_room c.loop-tag.invariant _ _ (sections_more_lem _ _ (omega arith))

pub loop-tag-preserved : goal.loop-tag-preserved
loop-tag-preserved c = going_on c.loop-tag.invariant _ _ (sections_more_lem _ _ (omega arith)) c.put_section-at.ensures

pub returns : goal.returns
returns c = going_ends c.loop-tag.invariant (sections_end _ _ (omega arith))
