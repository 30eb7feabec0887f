-- `text::utf8` meets its contract: ASCII text is UTF-8; else, where so much is due, its answer is that of the rest.
use Rattle.std.proofs.Common.{◌<◌, length, sym, arith}
use Rattle.text.proofs.Steps.{test_starts, test_passes, test_leads, test_fails, test_goes_on, test_stops, test_ends}
use Rattle.text.proofs.AsciiText.{well_formed_lem, told_ascii}
use Rattle.text.proofs.utf8.Goals.{then-p-eq0+then-rows-b+in-Some, then-p-eq0+else-rows-b, else-p-eq0+then-p-b}
use Rattle.text.proofs.utf8.Goals as goal

pub returns-then-is_ascii_text : goal.returns-then-is_ascii_text
returns-then-is_ascii_text c = sym (well_formed_lem _ (told_ascii _ _ c.is_ascii_text.ensures c.if-is_ascii_text.true))

pub loop-b-init : goal.loop-b-init
loop-b-init c = test_starts _

pub returns-in_default : goal.returns-in_default
returns-in_default c = test_fails c.loop-b.invariant (omega arith) c.if-p-eq0.true c.in_default.ensures

pub returns-else-p-b : goal.returns-else-p-b
returns-else-p-b c = test_stops c.loop-b.invariant (omega arith) c.if-p-eq0.false c.if-p-b.false

-- past a first byte, a byte of the first row, a byte in the range
pub loop-b-preserved : goal.loop-b-preserved
loop-b-preserved c =
    let r = c.loop-b.invariant in
    let h : c.loop-b.b-index < length c.args.s.now = omega arith in
    elim c.if-p-eq0.branch [
      | then-p-eq0+then-rows-b+in-Some w ↦ rw w.p-is (test_leads r h w.if-p-eq0.true _ w.in-Some.ensures)
      | then-p-eq0+else-rows-b w ↦ rw w.p-is (test_passes r h w.if-p-eq0.true _ c.rows-rows.ensures w.if-rows-b.false)
      | else-p-eq0+then-p-b w ↦ rw w.p-is (test_goes_on r h w.if-p-eq0.false w.if-p-b.true)
    ]

pub returns : goal.returns
returns c = test_ends c.loop-b.invariant (omega arith)
