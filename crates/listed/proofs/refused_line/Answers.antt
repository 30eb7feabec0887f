-- `listed::refused_line` meets its contract.
use native.Mathlib.Omega.{arith}
use mathlib.Core.Path.{◌∙◌}
use Rattle.texts.proofs.Laws.{bytes_reach, wrote_then}
use Rattle.listed.proofs.Writing.{number_reach}
use Rattle.listed.specs.Lines.{number_then}
use Rattle.spec.specs.Listing.{refused_line, numbers_line}
use Rattle.listed.proofs.refused_line.Goals as goal

pub put_text-a-requires : goal.put_text-a-requires
unfolding refused_line numbers_line number_then
put_text-a-requires c = omega arith

pub number-b-requires : goal.number-b-requires
unfolding refused_line numbers_line number_then
number-b-requires c = omega (arith, bytes_reach c.put_text-a.ensures)

pub number-c-requires : goal.number-c-requires
unfolding refused_line numbers_line number_then
number-c-requires c = omega (arith, bytes_reach c.put_text-a.ensures, number_reach _ _ c.number-b.ensures)

pub number-requires : goal.number-requires
unfolding refused_line numbers_line number_then
number-requires c = omega (arith, bytes_reach c.put_text-a.ensures, number_reach _ _ c.number-b.ensures, number_reach _ _ c.number-c.ensures)

pub shape_of-out : goal.shape_of-out
unfolding refused_line numbers_line number_then
shape_of-out c = c.number.auto.out ∙ c.number-c.auto.out ∙ c.number-b.auto.out ∙ c.put_text-a.auto.out

pub returns : goal.returns
unfolding refused_line numbers_line number_then
returns c = wrote_then c.put_text-a.ensures (wrote_then c.number-b.ensures (wrote_then c.number-c.ensures c.number.ensures))
