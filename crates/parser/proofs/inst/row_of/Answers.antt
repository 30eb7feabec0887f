-- `inst::row_of` meets its contract: where the guess says.
use Rattle.parser.proofs.InstLaws.{row_guessed}
use Rattle.parser.proofs.inst.row_of.Goals as goal

pub returns-in-Some-clause-result_value : goal.returns-in-Some-clause-result_value
returns-in-Some-clause-result_value c = (row_guessed _ _ _ _ c.guess_row.ensures.result_value c.guess_row.ensures.result_in_bounds c.in-Some.is).0

pub returns-in-Some-clause-result_in_bounds : goal.returns-in-Some-clause-result_in_bounds
returns-in-Some-clause-result_in_bounds c = (row_guessed _ _ _ _ c.guess_row.ensures.result_value c.guess_row.ensures.result_in_bounds c.in-Some.is).1
