-- `listed::version_line` meets its contract.
use native.Mathlib.Omega.{arith}
use mathlib.Core.Path.{◌∙◌}
use Rattle.spec.specs.Listing.{version_line, numbers_line}
use Rattle.listed.specs.Lines.{number_then}
use Rattle.texts.proofs.Laws.{bytes_reach, decimal_reach, wrote_then}
use Rattle.listed.proofs.Writing.{number_reach}
use Rattle.listed.proofs.version_line.Goals as goal

pub put_text-a-requires : goal.put_text-a-requires
unfolding version_line number_then numbers_line
put_text-a-requires c = omega arith

pub decimal-c-requires : goal.decimal-c-requires
unfolding version_line number_then numbers_line
decimal-c-requires c = omega (arith, bytes_reach c.put_text-a.ensures, number_reach _ _ c.number-b.ensures)

pub put_text-d-requires : goal.put_text-d-requires
unfolding version_line number_then numbers_line
put_text-d-requires c = omega (arith, bytes_reach c.put_text-a.ensures, number_reach _ _ c.number-b.ensures, decimal_reach _ c.decimal-c.ensures)

pub number-requires : goal.number-requires
unfolding version_line number_then numbers_line
number-requires c = omega (arith, bytes_reach c.put_text-a.ensures, number_reach _ _ c.number-b.ensures, decimal_reach _ c.decimal-c.ensures, bytes_reach c.put_text-d.ensures)

pub shape_of-out : goal.shape_of-out
unfolding version_line number_then numbers_line
shape_of-out c = c.number.auto.out ∙ c.put_text-d.auto.out ∙ c.decimal-c.auto.out ∙ c.number-b.auto.out ∙ c.put_text-a.auto.out

pub returns : goal.returns
unfolding version_line number_then numbers_line
returns c = wrote_then (wrote_then (wrote_then (wrote_then c.put_text-a.ensures c.number-b.ensures) c.decimal-c.ensures) c.put_text-d.ensures) c.number.ensures
