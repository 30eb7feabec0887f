-- `loader::run::load_with` meets its contract: the length, the header, the instructions.
use Rattle.loader.proofs.Beginning.{with_long, with_headless, with_room, with_header}
use Rattle.loader.proofs.run.load_with.Goals as goal

pub returns-then-s-gt-LONGEST : goal.returns-then-s-gt-LONGEST
returns-then-s-gt-LONGEST c = with_long _ _ c.if-s-gt-LONGEST.true _ _ c.no_instruction.ensures

pub returns-then-header-ne-ACCEPTED : goal.returns-then-header-ne-ACCEPTED
returns-then-header-ne-ACCEPTED c =
    with_headless _ _ c.if-s-gt-LONGEST.false _ c.header-header.ensures c.if-header-ne-ACCEPTED.true _ _ c.no_instruction-then-header-ne-ACCEPTED.ensures

pub load_from-ended-requires-clause-in_bounds : goal.load_from-ended-requires-clause-in_bounds
load_from-ended-requires-clause-in_bounds c =
    (with_room _ _ c.header-header.ensures c.if-header-ne-ACCEPTED.false, c.if-s-gt-LONGEST.false)

pub returns : goal.returns
returns c =
    with_header _ _ c.if-s-gt-LONGEST.false _ c.header-header.ensures c.if-header-ne-ACCEPTED.false _ _ _ c.load_from-ended.ensures.loads_from _ c.stopped.ensures
