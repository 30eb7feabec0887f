use Rattle.std.proofs.Common.{◌≤◌, ap, ◌∙◌, length, length-set, arith}
use Rattle.spelled.specs.Said.{said}
use Rattle.spelled.proofs.Stores.{stores_at, stores_in, stores_length}
use Rattle.ranges.proofs.Sections.{ranges_start, ranges_more, ranges_all}
use Rattle.ranges.proofs.survey.Goals as goal

pub loop-i-init : goal.loop-i-init
loop-i-init c = record { ranged = ranges_start _ _ c.requires.0 c.requires.1; first_len = ap length c.requires.0; end_len = ap length c.requires.1 }

pub record_at-f-requires : goal.record_at-f-requires
record_at-f-requires c = stores_in _ _ _ _ c.args.good.stores _ c.loop-i-test.true

-- one more tag is noted
pub loop-i-preserved : goal.loop-i-preserved
loop-i-preserved c =
    let here = stores_at _ _ _ _ c.args.good.stores _ c.loop-i-test.true _ c.record_at-f.ensures in
    let few : c.loop-i.i ≤ length (said c.args.good) = omega (arith, stores_length _ _ _ _ c.args.good.stores) in
    let before = c.loop-i.invariant in
    let noted = c.note.ensures in
    record {
      ranged = ranges_more here _ _ _ _ before.ranged before.first_len before.end_len few noted.first noted.end;
      first_len = ap length noted.first ∙ length-set c.loop-i.ranges.first _ _ ∙ before.first_len;
      end_len = ap length noted.end ∙ length-set c.loop-i.ranges.end _ _ ∙ before.end_len;
    }

pub returns : goal.returns
returns c = ranges_all _ _ _ _ c.args.good.stores _ c.loop-i-test.false _ _ c.loop-i.invariant.ranged
