-- `inst::parse_inst` meets its contract: no word, no words, no row; a short walk over the row, or the whole one.
use mathlib.Core.Path.{refl, sym, ◌∙◌}
use Rattle.parser.proofs.InstLaws.{some_words, place_told, body_good, inst_no_word, inst_zero, inst_unknown, inst_by, inst_framed}
use Rattle.simple.proofs.SimpleLaws.{took}
use Rattle.parser.proofs.inst.parse_inst.Goals as goal

pub returns-then-words-eq0-clause-decodes_over : goal.returns-then-words-eq0-clause-decodes_over
returns-then-words-eq0-clause-decodes_over c =
    (inst_zero _ _ _ _ _ _ _ _ _ (sym c.in-Ok.is ∙ c.word.ensures) _ c.if-words-eq0.true c.no_inst.ensures).0

pub returns-then-words-eq0-clause-row_is : goal.returns-then-words-eq0-clause-row_is
returns-then-words-eq0-clause-row_is c =
    (inst_zero _ _ _ _ c.args.log.now c.args.strings.now c.args.used _ _ (sym c.in-Ok.is ∙ c.word.ensures) _ c.if-words-eq0.true c.no_inst.ensures).1

pub returns-in_default-clause-decodes_over : goal.returns-in_default-clause-decodes_over
returns-in_default-clause-decodes_over c =
    (inst_unknown _ _ _ _ _ _ (sym c.in-Ok.is ∙ c.word.ensures) c.if-words-eq0.false _ c.row_of.ensures.result_value _ _ _ _ c.in_default.is c.no_inst-in_default.ensures).0

pub returns-in_default-clause-row_is : goal.returns-in_default-clause-row_is
returns-in_default-clause-row_is c =
    (inst_unknown _ _ _ _ _ _ (sym c.in-Ok.is ∙ c.word.ensures) c.if-words-eq0.false _ c.row_of.ensures.result_value c.args.log.now c.args.strings.now c.args.used _ c.in_default.is c.no_inst-in_default.ensures).1

pub returns-in-Some-simple-clause-decodes_over : goal.returns-in-Some-simple-clause-decodes_over
returns-in-Some-simple-clause-decodes_over c =
    (inst_by _ _ _ _ _ _ (sym c.in-Ok.is ∙ c.word.ensures) c.if-words-eq0.false _ c.row_of.ensures.result_value _ c.in-Some.is (place_told _ _ c.args.rows.indexed _ _ _ c.row_of.ensures.result_value c.row_of.ensures.result_in_bounds c.in-Some.is) _ _ _ _ _ _
    (body_good _ _ _ _ _ _ _ _ _ _ (took _ _ _ _ c.simple_operands-simple.ensures c.in-Some-simple.is) _ _ refl _ (some_words _ c.if-words-eq0.false) c.finished.ensures)).0

pub returns-in-Some-simple-clause-row_is : goal.returns-in-Some-simple-clause-row_is
returns-in-Some-simple-clause-row_is c =
    (inst_by _ _ _ _ _ _ (sym c.in-Ok.is ∙ c.word.ensures) c.if-words-eq0.false _ c.row_of.ensures.result_value _ c.in-Some.is (place_told _ _ c.args.rows.indexed _ _ _ c.row_of.ensures.result_value c.row_of.ensures.result_in_bounds c.in-Some.is) _ _ _ _ _ _
    (body_good _ _ _ _ _ _ _ _ _ _ (took _ _ _ _ c.simple_operands-simple.ensures c.in-Some-simple.is) _ _ refl _ (some_words _ c.if-words-eq0.false) c.finished.ensures)).1

pub returns-in-Err-clause-decodes_over : goal.returns-in-Err-clause-decodes_over
returns-in-Err-clause-decodes_over c =
    (inst_no_word _ _ _ _ _ _ _ _ _ (sym c.in-Err.is ∙ c.word.ensures)).0

pub returns-in-Err-clause-row_is : goal.returns-in-Err-clause-row_is
returns-in-Err-clause-row_is c =
    (inst_no_word _ _ _ _ c.args.log.now c.args.strings.now c.args.used _ _ (sym c.in-Err.is ∙ c.word.ensures)).1

pub returns-in_default-simple-clause-decodes_over : goal.returns-in_default-simple-clause-decodes_over
returns-in_default-simple-clause-decodes_over c =
    (inst_by _ _ _ _ _ _ (sym c.in-Ok.is ∙ c.word.ensures) c.if-words-eq0.false _ c.row_of.ensures.result_value _ c.in-Some.is (place_told _ _ c.args.rows.indexed _ _ _ c.row_of.ensures.result_value c.row_of.ensures.result_in_bounds c.in-Some.is) _ _ _ _ _ _
    (c.parse_body.ensures.decodes, c.parse_body.ensures.shape_is)).0

pub returns-in_default-simple-clause-row_is : goal.returns-in_default-simple-clause-row_is
returns-in_default-simple-clause-row_is c =
    (inst_by _ _ _ _ _ _ (sym c.in-Ok.is ∙ c.word.ensures) c.if-words-eq0.false _ c.row_of.ensures.result_value _ c.in-Some.is (place_told _ _ c.args.rows.indexed _ _ _ c.row_of.ensures.result_value c.row_of.ensures.result_in_bounds c.in-Some.is) _ _ _ _ _ _
    (c.parse_body.ensures.decodes, c.parse_body.ensures.shape_is)).1

pub simple_operands-simple-requires-clause-framed : goal.simple_operands-simple-requires-clause-framed
simple_operands-simple-requires-clause-framed c =
    (inst_framed _ _ _ _ _ _ _ _ c.args.rows.indexed c.requires.s_len_bound.0 (sym c.in-Ok.is ∙ c.word.ensures) c.if-words-eq0.false c.row_of.ensures.result_value c.row_of.ensures.result_in_bounds c.in-Some.is, c.requires.s_len_bound.2)

pub parse_body-requires-clause-framed : goal.parse_body-requires-clause-framed
parse_body-requires-clause-framed c =
    (inst_framed _ _ _ _ _ _ _ _ c.args.rows.indexed c.requires.s_len_bound.0 (sym c.in-Ok.is ∙ c.word.ensures) c.if-words-eq0.false c.row_of.ensures.result_value c.row_of.ensures.result_in_bounds c.in-Some.is, c.requires.s_len_bound.2)
