use Rattle.std.proofs.Common.{◌∙◌}
use Rattle.records.proofs.Fields.{min_is, most_length}
use Rattle.records.proofs.Pass.{check_whole}
use Rattle.records.proofs.check_of.Goals as goal

pub slice_bounds-log-end : goal.slice_bounds-log-end
slice_bounds-log-end c = most_length _ _ c.args.log.now (c.min-log_end.ensures ∙ min_is _ _)

pub slice_bounds-strings-end : goal.slice_bounds-strings-end
slice_bounds-strings-end c = most_length _ _ c.args.strings.now (c.min-strings_end.ensures ∙ min_is _ _)

pub returns-then-is_ascii_text : goal.returns-then-is_ascii_text
returns-then-is_ascii_text c = check_whole _ _ _ _ c.min-log_end.result c.min-strings_end.result (c.min-log_end.ensures ∙ min_is _ _) (c.min-strings_end.ensures ∙ min_is _ _) _ c.first_fault.ensures

pub returns : goal.returns
returns c = check_whole _ _ _ _ c.min-log_end.result c.min-strings_end.result (c.min-log_end.ensures ∙ min_is _ _) (c.min-strings_end.ensures ∙ min_is _ _) _ c.first_fault-2.ensures
