-- A loop over the parameters: those passed were read, and the rest decides.
use Rattle.std.proofs.Common.{◌≡◌, true, length, ◌-◌, ◌≤◌}
use Rattle.spec.specs.Base.{every}
use Rattle.spec.specs.Grammar.{grammar_of}
use Rattle.spec.specs.Match.{read_each}
use Rattle.decoder.specs.Answer.{reader_of}
use Rattle.used.specs.Parse.{is_single, parameters_at}
use Rattle.untyped.proofs.Values.{Running}
use Rattle.untyped.proofs.parse_parameters.Given as goal

abbrev pub invariant-loop-k : goal.invariant-loop-k
invariant-loop-k l =
    Running l.s (read_each (grammar_of l.rows.bytes.now) (parameters_at l.rows.bytes.now l.fn.place) (reader_of l.s l.fn.start)) l.initial.log l.initial.strings l.log l.strings l.fn.used l.fn.start l.d l.u (read_each (grammar_of l.rows.bytes.now) (parameters_at l.rows.bytes.now l.p))
    × (l.p ≤ length l.rows.bytes.now) × (every is_single (parameters_at l.rows.bytes.now l.p) ≡ true)

abbrev pub decreases-loop-k : goal.decreases-loop-k
decreases-loop-k l = length l.rows.bytes.now - l.p
