use Rattle.books.proofs.Passes.{strip_starts, strip_goes_on, strip_ends}
use Rattle.books.proofs.put_old.Goals as goal

pub loop-i-init : goal.loop-i-init
loop-i-init c = strip_starts _ _ _

-- one more
pub loop-i-preserved : goal.loop-i-preserved
loop-i-preserved c = strip_goes_on c.loop-i.invariant c.loop-i-test.true c.requires.count_in_bounds _ c.record_at-f.ensures _ c.put_fields.ensures

pub returns : goal.returns
returns c = strip_ends c.loop-i.invariant c.loop-i-test.false
