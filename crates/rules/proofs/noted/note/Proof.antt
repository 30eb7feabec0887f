-- `rules::noted::note` meets its contract.
use mathlib.Core.Path.{refl}
use borrow.Author.Rules.{rules}
use Rattle.rules.proofs.noted.note.Statement.{statement}
use Rattle.rules.proofs.noted.note.Tie as tie

returns : tie.Need-returns
returns c = refl

pub note_spec : {M : Type 1} → statement M
note_spec = tie.close (tie.spec (λ c. search rules) returns)
