-- `used::literals::integer_kind` meets its contract. Assumes nothing.
use Rattle.used.proofs.TypeLaws.{integer_one, integer_two, integer_none}
use Rattle.used.proofs.literals.integer_kind.Statement.{statement}
use Rattle.used.proofs.literals.integer_kind.Tie as tie

pub integer_kind_spec : {M : Type 1} → statement M
integer_kind_spec =
    tie.close
    (tie.spec
    (λ c. integer_one c.before.args.width c.if-width.true)
    (λ c. let at-start = c.before.before in integer_two at-start.args.width c.before.if-width.false c.if-width-eq64.true)
    (λ c. let at-start = c.before.before in integer_none at-start.args.width c.before.if-width.false c.if-width-eq64.false))
