-- `used::used::noted` meets its contract.
use mathlib.Core.Path.{refl}
use Rattle.used.proofs.UsedLaws.{note_first, note_second, note_later}
use Rattle.used.proofs.used.noted.Goals as goal

pub returns-then-u-eq0 : goal.returns-then-u-eq0
returns-then-u-eq0 c = (note_first _ _ _ _ c.requires.1 c.requires.2 c.if-u-eq0.true, refl)

pub returns-then-u-eq1 : goal.returns-then-u-eq1
returns-then-u-eq1 c = (note_second _ _ _ _ c.requires.1 c.requires.2 c.if-u-eq1.true, refl)

pub returns : goal.returns
returns c = (note_later _ _ _ _ c.requires.1 c.requires.2 c.if-u-eq0.false c.if-u-eq1.false, refl)
