-- `steps::step::decode` meets its contract: the parser's, from scratch and spare on.
use Rattle.untyped.proofs.RowLaws.{fresh_unused}
use Rattle.steps.proofs.Judging.{shows}
use native.Mathlib.Omega.{arith}
use Rattle.steps.proofs.step.decode.Goals as goal

pub parse_inst-requires-clause-s_len_bound : goal.parse_inst-requires-clause-s_len_bound
parse_inst-requires-clause-s_len_bound c =
    (c.requires.s_len_bound.0, omega (arith, c.requires.s_len_bound.1), fresh_unused _ _ _ _ _ _ c.unused-used.ensures (omega arith) (omega (arith, c.requires.bounded.0.few_strings)))

pub parse_inst-requires-clause-count_in_bounds : goal.parse_inst-requires-clause-count_in_bounds
parse_inst-requires-clause-count_in_bounds c = c.requires.bounded.1.inside

pub parse_inst-requires-clause-hinted : goal.parse_inst-requires-clause-hinted
parse_inst-requires-clause-hinted c = c.requires.bounded.1.hinted

pub returns : goal.returns
returns c =
    shows _ _ _ _ _ _ _ c.unused-used.ensures _ c.parse_inst.ensures.decodes_over c.parse_inst.ensures.row_is
