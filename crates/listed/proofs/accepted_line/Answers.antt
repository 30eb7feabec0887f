-- `listed::accepted_line` meets its contract.
use native.Mathlib.Omega.{arith}
use mathlib.Core.Path.{◌∙◌}
use Rattle.texts.proofs.Laws.{bytes_reach, wrote_then}
use Rattle.listed.specs.Lines.{number_then}
use Rattle.spec.specs.Listing.{accepted_line, numbers_line}
use Rattle.listed.proofs.accepted_line.Goals as goal

pub put_text-a-requires : goal.put_text-a-requires
unfolding accepted_line numbers_line number_then
put_text-a-requires c = omega arith

pub number-requires : goal.number-requires
unfolding accepted_line numbers_line number_then
number-requires c = omega (arith, bytes_reach c.put_text-a.ensures)

pub shape_of-out : goal.shape_of-out
unfolding accepted_line numbers_line number_then
shape_of-out c = c.number.auto.out ∙ c.put_text-a.auto.out

pub returns : goal.returns
unfolding accepted_line numbers_line number_then
returns c = wrote_then c.put_text-a.ensures c.number.ensures
