use Rattle.books.proofs.Passes.{number_starts, number_goes_on, number_ends}
use Rattle.books.proofs.put_new.Goals as goal

pub loop-i-init : goal.loop-i-init
loop-i-init c = number_starts _ _ _

-- one more
pub loop-i-preserved : goal.loop-i-preserved
loop-i-preserved c = number_goes_on c.loop-i.invariant c.loop-i-test.true c.requires.count_in_bounds _ c.fields_at-f.ensures _ c.count-step.ensures _ c.put_record.ensures

pub returns : goal.returns
returns c = number_ends c.loop-i.invariant c.loop-i-test.false
