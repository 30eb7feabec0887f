-- `imports::import_of` meets its contract.
-- Assumes nothing.
use mathlib.Core.Path.{ap}
use native.Mathlib.Omega.{arith}
use Rattle.operand.specs.Parts.{is_two}
use Rattle.pieces.proofs.Texts.{text_inside}
use Rattle.imports.proofs.Sets.{import_other, import_not, import_nameless, import_name, import_readable}
use Rattle.imports.proofs.import_of.Goals as goal

pub returns-then-f-ne-EXT_INST_IMPORT : goal.returns-then-f-ne-EXT_INST_IMPORT
returns-then-f-ne-EXT_INST_IMPORT c = import_other _ _ _ _ c.if-f-ne-EXT_INST_IMPORT.true

pub returns-then-f-id : goal.returns-then-f-id
returns-then-f-id c = import_not _ _ _ _ c.if-f-id.true

pub bounds-log-a : goal.bounds-log-a
bounds-log-a c =
    omega (arith, (import_readable c.args.log.now c.args.strings.now c.args.f c.args.id c.if-f-ne-EXT_INST_IMPORT.false c.if-f-id.false c.requires).whole.five)

pub returns-then-log-a-ne-STRING : goal.returns-then-log-a-ne-STRING
returns-then-log-a-ne-STRING c =
    import_nameless _ _ _ _ c.if-f-ne-EXT_INST_IMPORT.false c.if-f-id.false c.if-log-a-ne-STRING.true

pub word_at-start-requires : goal.word_at-start-requires
word_at-start-requires c =
    omega (arith, (import_readable c.args.log.now c.args.strings.now c.args.f c.args.id c.if-f-ne-EXT_INST_IMPORT.false c.if-f-id.false c.requires).whole.nine (ap is_two c.if-log-a-ne-STRING.false))

pub word_at-requires : goal.word_at-requires
word_at-requires c =
    omega (arith, (import_readable c.args.log.now c.args.strings.now c.args.f c.args.id c.if-f-ne-EXT_INST_IMPORT.false c.if-f-id.false c.requires).whole.nine (ap is_two c.if-log-a-ne-STRING.false))

pub slice_bounds-set_named-end : goal.slice_bounds-set_named-end
slice_bounds-set_named-end c =
    omega (arith, text_inside _ _ _ (import_readable c.args.log.now c.args.strings.now c.args.f c.args.id c.if-f-ne-EXT_INST_IMPORT.false c.if-f-id.false c.requires) c.if-log-a-ne-STRING.false _ _ c.word_at-start.ensures c.word_at.ensures)

pub returns : goal.returns
returns c =
    import_name _ _ _ _ c.if-f-ne-EXT_INST_IMPORT.false c.if-f-id.false c.if-log-a-ne-STRING.false _ _ _ c.word_at-start.ensures c.word_at.ensures c.set_named.ensures
