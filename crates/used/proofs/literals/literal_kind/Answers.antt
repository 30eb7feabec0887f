-- `used::literals::literal_kind` meets its contract.
use Rattle.used.proofs.TypeLaws.{kind_float, kind_unknown, kind_integer}
use Rattle.used.proofs.literals.literal_kind.Goals as goal

pub returns-in_default : goal.returns-in_default
returns-in_default c = kind_unknown _ c.in_default.is

pub returns-then-x-eq3 : goal.returns-then-x-eq3
returns-then-x-eq3 c = kind_float _ _ _ c.in-Some.is c.if-x-eq3.true c.float_kind.ensures

pub returns : goal.returns
returns c = kind_integer _ _ _ c.in-Some.is c.if-x-eq3.false c.integer_kind.ensures
