-- `text::rows` meets its contract: the rows are those of the definition, by one equation, which antt computes.
use mathlib.Core.Path.{refl}
use Rattle.text.specs.Steps.{utf8_rows}
use Rattle.text.proofs.rows.Statement.{statement}
use Rattle.text.proofs.rows.Tie as tie

pub rows_spec : {M : Type 1} → statement M
unfolding utf8_rows
rows_spec = tie.close (tie.spec (λ c. refl))
