use Rattle.std.proofs.Common.{◌∙◌, arith}
use Rattle.records.proofs.Operands.{after_elsewhere, after_bad, after_right, after_wrong, after_few, results_few}
use Rattle.records.proofs.operands_after.Goals as goal

pub returns-then-f-log_at : goal.returns-then-f-log_at
returns-then-f-log_at c = after_elsewhere _ _ _ _ _ c.if-f-log_at.true

pub returns-in_err-passed : goal.returns-in_err-passed
returns-in_err-passed c = c.from_residual.ensures ∙ after_bad _ _ _ _ _ _ c.pass_operands.ensures c.in_err-passed.was

pub overflow_add-result_words : goal.overflow_add-result_words
overflow_add-result_words c = omega (arith, c.result_words.ensures, results_few c.args.f)

pub overflow_add-result_words-2 : goal.overflow_add-result_words-2
overflow_add-result_words-2 c =
    omega (
      arith,
      c.result_words.ensures,
      results_few c.args.f,
      after_few _ _ _ _ c.args.f _ c.pass_operands.ensures c.requires.log_at_in_bounds.0 c.requires.log_at_in_bounds.1 _ c.in_ok-passed.was,
    )

pub returns-then-f-result_words : goal.returns-then-f-result_words
returns-then-f-result_words c =
    after_right _ _ _ _ _ _ c.pass_operands.ensures c.requires.log_at_in_bounds.0 c.requires.log_at_in_bounds.1 _ c.in_ok-passed.was c.if-f-log_at.false _ c.result_words.ensures c.if-f-result_words.true

pub returns : goal.returns
returns c =
    after_wrong _ _ _ _ _ _ c.pass_operands.ensures c.requires.log_at_in_bounds.0 c.requires.log_at_in_bounds.1 _ c.in_ok-passed.was _ c.result_words.ensures c.if-f-result_words.false
