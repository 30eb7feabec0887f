-- `records::is_string` meets its contract: ASCII text may be one; else by whether a zero byte is found, and by UTF-8.
use Rattle.records.proofs.Fields.{string_zero, string_utf8}
use Rattle.records.proofs.AsciiText.{ascii_string}
use Rattle.std.proofs.Common.{◌∙◌}
use Rattle.records.proofs.is_string.Goals as goal

pub returns-then-is_ascii_text : goal.returns-then-is_ascii_text
returns-then-is_ascii_text c = c.if-is_ascii_text.true ∙ ascii_string _ _ c.is_ascii_text.ensures c.if-is_ascii_text.true

pub returns-then-is_none : goal.returns-then-is_none
returns-then-is_none c = string_utf8 _ _ c.zero.ensures _ c.is_none.ensures c.if-is_none.true _ c.utf8-2.ensures

pub returns-else-is_none : goal.returns-else-is_none
returns-else-is_none c = string_zero _ _ c.zero.ensures _ c.is_none.ensures c.if-is_none.false
