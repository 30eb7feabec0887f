-- `steps::parts::tail_break` meets its contract.
use borrow.Author.Rules.{rules}
use Rattle.steps.proofs.Saying.{tail_none, tail_some}
use Rattle.steps.proofs.parts.tail_break.Statement.{statement}
use Rattle.steps.proofs.parts.tail_break.Tie as tie

pub tail_break_spec : {M : Type 1} → statement M
tail_break_spec = tie.close (tie.spec (λ c. tail_none _ c.if-size-eq0.true) (λ c. search rules) (λ c. tail_some _ c.if-size-eq0.false))
