-- `untyped::next_place` meets its contract. Assumes nothing.
use Rattle.untyped.proofs.SlotLaws.{stays, goes_on_lem}
use borrow.Author.Rules.{rules}
use Rattle.untyped.proofs.next_place.Statement.{statement}
use Rattle.untyped.proofs.next_place.Tie as tie

pub next_place_spec : {M : Type 1} → statement M
next_place_spec =
    tie.close
    (tie.spec
    (λ c. stays _ _ c.if-quantifier-eq2.true)
    (λ c. search rules)
    (λ c. goes_on_lem _ _ c.if-quantifier-eq2.false))
