-- `listed::record_lines` meets its contract.
use Rattle.listed.proofs.Sentences.{lined_start, lined_room, lined_same, lined_more, lined_all}
use Rattle.listed.proofs.record_lines.Goals as goal

pub loop-i-init : goal.loop-i-init
loop-i-init c = lined_start _ _ _ _

pub record_line-end-requires : goal.record_line-end-requires
record_line-end-requires c = lined_room c.loop-i.invariant c.loop-i-test.true c.requires.1

pub loop-i-preserved : goal.loop-i-preserved
loop-i-preserved c =
    lined_more c.loop-i.invariant _ c.loop-i-test.true c.record_at-f.ensures c.record_line-end.ensures

pub shape_of-out : goal.shape_of-out
shape_of-out c = lined_same c.loop-i.invariant

pub returns : goal.returns
returns c = lined_all c.loop-i.invariant c.loop-i-test.false
