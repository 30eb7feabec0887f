-- `embedded::parse_spec_constant_op` meets its contract: the word, its row, whether that may be embedded, its operands.
use Rattle.std.proofs.lemmas.Bool.{not_from_true, not_from_false}
use mathlib.Core.Path.{sym, ◌∙◌}
use native.Mathlib.Omega.{arith}
use borrow.Author.Tests.{not-false}
use Rattle.spec.proofs.Answered.{passed_on}
use Rattle.untyped.proofs.Carried.{indexed_short, row_operands}
use Rattle.untyped.proofs.Walk.{deny, step_went, seq}
use Rattle.untyped.proofs.KindLaws.{embedded_narrow}
use Rattle.untyped.proofs.One.{may_count, few_pushed, held_narrow, step_word, spotted_opcode}
use Rattle.untyped.proofs.Values.{place_told}
use Rattle.embedded.proofs.Once.{embedded_bad, embedded_none, embedded_barred, embedded_row, row_told}
use Rattle.embedded.proofs.parse_spec_constant_op.Goals as goal

pub returns-in_err-v : goal.returns-in_err-v
returns-in_err-v c = deny _ _ _ _ _ _ _ _ _ _ _ _ (passed_on _ c.from_residual.ensures) (embedded_bad _ _ _ _ _ c.in_err-v.ensures)

pub returns-in_default : goal.returns-in_default
returns-in_default c =
    deny _ _ _ _ _ _ _ _ _ _ _ _ c.refused.ensures (embedded_none _ _ _ _ _ c.in_ok-v.ensures _ c.find_row.ensures.result_value c.in_default.is)

pub may_embed-requires : goal.may_embed-requires
may_embed-requires c = (indexed_short _ _ c.args.rows.indexed, place_told _ _ _ c.find_row.ensures.result_in_bounds c.in-Some.is)

pub returns-then-not-may_embed : goal.returns-then-not-may_embed
returns-then-not-may_embed c =
    deny _ _ _ _ _ _ _ _ _ _ _ _ c.refused-then-not-may_embed.ensures
    (embedded_barred _ _ _ _ _ c.in_ok-v.ensures _ c.find_row.ensures.result_value _ c.in-Some.is _ c.may_embed.ensures (not_from_false _ c.if-not-may_embed.true))

pub push_opcode-n-requires : goal.push_opcode-n-requires
push_opcode-n-requires c = may_count c.requires

pub parse_once-requires : goal.parse_once-requires
parse_once-requires c = (
  few_pushed _ _ _ _ _ _ _ _ c.requires (step_word _ _ _ _ c.in_ok-v.ensures) (omega arith) c.push_opcode-n.ensures.pushed,
  place_told _ _ _ c.find_row.ensures.result_in_bounds c.in-Some.is,
  row_operands _ _ c.args.rows.indexed _ _ (row_told _ _ _ _ c.find_row.ensures.result_value c.in-Some.is),
  sym c.may_embed.ensures ∙ not-false _ (not_from_true _ c.if-not-may_embed.false),
)

pub returns : goal.returns
returns c =
    seq (held_narrow _ _ _ _ _ _ _ embedded_narrow c.push_opcode-n.ensures.pushed c.push_opcode-n.ensures.laid) _ _ _ _ _ _
    (step_went _ _ _ _ (step_word _ _ _ _ c.in_ok-v.ensures) _ c.requires.limited)
    (spotted_opcode _ _ _ _ _ _ c.in_ok-v.ensures c.push_opcode-n.ensures.breaks_value)
    (embedded_row _ _ _ _ _ c.in_ok-v.ensures _ c.find_row.ensures.result_value _ c.in-Some.is _ c.may_embed.ensures (not_from_true _ c.if-not-may_embed.false))
    _ c.parse_once.ensures
