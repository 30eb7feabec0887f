-- A loop over a row's operands: those passed were read, and the rest decides.
use Rattle.std.proofs.Common.{◌≡◌, true, length, ◌-◌, ◌≤◌}
use Rattle.spec.specs.Base.{every}
use Rattle.spec.specs.Grammar.{grammar_of}
use Rattle.spec.specs.Match.{embeds, read_once}
use Rattle.decoder.specs.Answer.{reader_of}
use Rattle.used.specs.Parse.{is_operand, slots_at}
use Rattle.untyped.proofs.Values.{Running}
use Rattle.embedded.proofs.parse_once.Given as goal

abbrev pub invariant-loop-kind : goal.invariant-loop-kind
invariant-loop-kind l =
    Running l.s (read_once (grammar_of l.rows.bytes.now) (slots_at l.rows.bytes.now l.fn.place) (reader_of l.s l.fn.start)) l.initial.log l.initial.strings l.log l.strings l.fn.used l.fn.start l.d l.u (read_once (grammar_of l.rows.bytes.now) (slots_at l.rows.bytes.now l.p))
    × (l.p ≤ length l.rows.bytes.now) × (every is_operand (slots_at l.rows.bytes.now l.p) ≡ true) × (every embeds (slots_at l.rows.bytes.now l.p) ≡ true)

abbrev pub decreases-loop-kind : goal.decreases-loop-kind
decreases-loop-kind l = length l.rows.bytes.now - l.p
