-- `records::tag_after` meets its contract: by the table's cell, and whether the tag is its tag.
use Rattle.records.proofs.Fields.{tag_refused, tag_right, tag_other}
use Rattle.records.proofs.tag_after.Goals as goal

pub returns-in_default : goal.returns-in_default
returns-in_default c = tag_refused _ _ _ c.place.ensures _ c.in_default.is

pub returns-then-f-tag : goal.returns-then-f-tag
returns-then-f-tag c = tag_right _ _ _ c.place.ensures _ _ c.in-Ok.is c.if-f-tag.true

pub returns : goal.returns
returns c = tag_other _ _ _ c.place.ensures _ _ c.in-Ok.is c.if-f-tag.false
