-- `used::literals::float_kind` meets its contract. Assumes nothing.
use Rattle.used.proofs.TypeLaws.{float_one, float_two, float_none}
use Rattle.used.proofs.literals.float_kind.Statement.{statement}
use Rattle.used.proofs.literals.float_kind.Tie as tie

pub float_kind_spec : {M : Type 1} → statement M
float_kind_spec =
    tie.close
    (tie.spec
    (λ c. float_one c.before.args.width c.if-width.true)
    (λ c. let at-start = c.before.before in float_two at-start.args.width c.before.if-width.false c.if-width-eq64.true)
    (λ c. let at-start = c.before.before in float_none at-start.args.width c.before.if-width.false c.if-width-eq64.false))
