-- `used::used::first_break` meets its contract. Assumes nothing.
use Rattle.used.proofs.UsedLaws.{first_is, first_stays}
use Rattle.used.proofs.used.first_break.Statement.{statement}
use Rattle.used.proofs.used.first_break.Tie as tie

pub first_break_spec : {M : Type 1} → statement M
first_break_spec = tie.close (tie.spec (λ c. first_is _ _ c.if-a-eq0.true) (λ c. first_stays _ _ c.if-a-eq0.false))
