-- `lengths` meets its contract.
use native.Mathlib.Omega.{arith}
use mathlib.Core.Path.{sym}
use lib.Seq.{length-take-le}
use Rattle.grammar_cases.proofs.lengths.Goals as goal

pub slice_bounds-case-end-2 : goal.slice_bounds-case-end-2
slice_bounds-case-end-2 g c = sym (length-take-le 65535 c.fill_rows.new.g (omega (arith, c.fill_rows.ensures)))
