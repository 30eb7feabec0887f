-- `tracker::index::guess` meets its contract.
use borrow.Author.Rules.{rules}
use Rattle.tracker.proofs.Hinting.{guessed_here, guessed_none}
use Rattle.tracker.proofs.index.guess.Statement.{statement}
use Rattle.tracker.proofs.index.guess.Tie as tie

returns : tie.Need-returns-then-hints-slot-eq0
returns c =
    let at-if1 = c.before in
    let at-slot-of = at-if1.before.before in
    guessed_here _ _ _ _ _ at-slot-of.slot_of-slot.ensures.0 at-if1.if-hints-slot-eq0.true _ c.guess_for.ensures

pub guess_spec : {M : Type 1} → statement M
guess_spec =
    tie.close
    (tie.spec
    (λ c κs. search rules)
    (λ c. search rules)
    (λ c. search rules)
    (λ c κs. search rules)
    (λ c. search rules)
    (λ c. search rules)
    (λ c. search rules)
    returns
    (λ c. let at-slot-of = c.before.before in guessed_none _ _ _ _ _ at-slot-of.slot_of-slot.ensures.0 c.if-hints-slot-eq0.false))
