use Rattle.std.proofs.Common.{sym}
use borrow.Author.Tests.{not-true, not-false}
use Rattle.books.proofs.Passes.{match_starts, match_ends, match_stops, match_goes_on}
use Rattle.books.proofs.check_numbers.Goals as goal

pub loop-i-init : goal.loop-i-init
loop-i-init c = match_starts _ _

-- the first record whose numbers are not those called for
pub returns-then-ne : goal.returns-then-ne
returns-then-ne c = match_stops c.loop-i.invariant c.loop-i-test.true c.requires.count_in_bounds _ c.record_at-f.ensures _ c.numbers_at-has.ensures _ c.count-step.ensures (not-true _ (sym c.if-ne.ensures))

-- one more has its numbers
pub loop-i-preserved : goal.loop-i-preserved
loop-i-preserved c = match_goes_on c.loop-i.invariant c.loop-i-test.true c.requires.count_in_bounds _ c.record_at-f.ensures _ c.numbers_at-has.ensures _ c.count-step.ensures (not-false _ (sym c.if-ne.ensures))

pub returns : goal.returns
returns c = match_ends c.loop-i.invariant c.loop-i-test.false
