-- `line::ext_name` meets its contract.
-- Assumes nothing.
use Rattle.spelled.specs.Said.{said}
use Rattle.line.proofs.Lines.{inside_none, two_inside, name_two, name_off, name_kinds, name_setless, name_set}
use native.Mathlib.Omega.{arith}
use Rattle.line.proofs.ext_name.Goals as goal

pub returns-then-f : goal.returns-then-f
returns-then-f c = record { result_value = name_off _ _ _ _ _ c.if-f.true; inside = inside_none _ }

pub bounds-good-a : goal.bounds-good-a
bounds-good-a c =
    omega (arith, two_inside _ _ _ _ (name_two (said c.args.good) c.args.good.log.now c.args.good.strings.now c.args.f c.if-f.false) c.requires.all_readable)

pub bounds-good-a-2 : goal.bounds-good-a-2
bounds-good-a-2 c =
    omega (arith, two_inside _ _ _ _ (name_two (said c.args.good) c.args.good.log.now c.args.good.strings.now c.args.f c.if-f.false) c.requires.all_readable)

pub returns-then-good-a : goal.returns-then-good-a
returns-then-good-a c = record { result_value = name_kinds _ _ _ _ c.if-f.false _ c.if-good-a.true; inside = inside_none _ }

pub word_at-requires : goal.word_at-requires
word_at-requires c =
    omega (arith, two_inside _ _ _ _ (name_two (said c.args.good) c.args.good.log.now c.args.good.strings.now c.args.f c.if-f.false) c.requires.all_readable)

pub returns-then-set-eq0 : goal.returns-then-set-eq0
returns-then-set-eq0 c =
    record {
      result_value = name_setless _ _ _ _ c.if-f.false c.if-good-a.false _ _ c.word_at.ensures c.set_of-set.ensures _ c.if-set-eq0.true;
      inside = inside_none _;
    }

pub word_at-requires-2 : goal.word_at-requires-2
word_at-requires-2 c =
    omega (arith, two_inside _ _ _ _ (name_two (said c.args.good) c.args.good.log.now c.args.good.strings.now c.args.f c.if-f.false) c.requires.all_readable)

pub returns-clause-result_value : goal.returns-clause-result_value
returns-clause-result_value c =
    name_set _ _ _ _ c.if-f.false c.if-good-a.false _ _ c.word_at.ensures c.set_of-set.ensures _ _ _ c.if-set-eq0.false c.word_at-2.ensures c.find.ensures.result_value
