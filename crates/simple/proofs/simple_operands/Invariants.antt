-- A loop over a row's operands: those passed were read, and the rest decides; each takes a word of the limit at least. The place stays in
-- the grammar.
use Rattle.std.specs.Prelude.{◌≤◌, length}
use Rattle.spec.specs.Grammar.{grammar_of}
use Rattle.tracker.specs.Entries.{entries_of}
use Rattle.used.specs.Parse.{left_of, slots_at}
use Rattle.untyped.specs.Body.{start_of, row_read}
use Rattle.untyped.proofs.RowLaws.{Rowing}
use Rattle.simple.proofs.simple_operands.Given as goal

abbrev pub invariant-loop-p : goal.invariant-loop-p
invariant-loop-p l =
    Rowing l.s (grammar_of l.rows.bytes.now) (entries_of l.tracker.count l.types)
    (row_read l.rows.bytes.now (entries_of l.tracker.count l.types) l.s (start_of l.fn.frame) l.fn.frame.place) l.initial.log l.initial.strings l.log l.strings l.fn.used (start_of l.fn.frame) l.d l.u (slots_at l.rows.bytes.now l.p)
    × (l.p ≤ length l.rows.bytes.now)

abbrev pub decreases-loop-p : goal.decreases-loop-p
decreases-loop-p l = left_of l.d.limit
