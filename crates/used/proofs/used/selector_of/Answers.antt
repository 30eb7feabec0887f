-- `used::used::selector_of` meets its contract.
use Rattle.used.proofs.UsedLaws.{selector_none, selector_there, selector_absent}
use Rattle.used.proofs.used.selector_of.Goals as goal

pub returns-then-u-eq0 : goal.returns-then-u-eq0
returns-then-u-eq0 c = selector_none _ c.if-u-eq0.true

pub returns-then-u-eq-ID_REF : goal.returns-then-u-eq-ID_REF
returns-then-u-eq-ID_REF c = selector_there _ c.if-u-eq0.false c.if-u-eq-ID_REF.true

pub returns : goal.returns
returns c = selector_absent _ c.if-u-eq0.false c.if-u-eq-ID_REF.false
