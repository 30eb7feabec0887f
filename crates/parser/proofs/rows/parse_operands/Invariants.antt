-- A loop over a row's operands: those passed were read, and the rest decides; each takes a word of the limit at least.
use Rattle.spec.specs.Grammar.{grammar_of}
use Rattle.tracker.specs.Entries.{entries_of}
use Rattle.used.specs.Parse.{left_of, slots_at}
use Rattle.untyped.specs.Body.{start_of, row_read}
use Rattle.untyped.proofs.RowLaws.{Rowing}
use Rattle.parser.proofs.rows.parse_operands.Given as goal

abbrev pub invariant-loop-k : goal.invariant-loop-k
invariant-loop-k l =
    Rowing l.s (grammar_of l.rows.bytes.now) (entries_of l.tracker.count l.types)
    (row_read l.rows.bytes.now (entries_of l.tracker.count l.types) l.s (start_of l.fn.frame) l.fn.frame.place) l.initial.log l.initial.strings l.log l.strings l.fn.used (start_of l.fn.frame) l.d l.u (slots_at l.rows.bytes.now l.p)

abbrev pub decreases-loop-k : goal.decreases-loop-k
decreases-loop-k l = left_of l.d.limit
