-- A loop over the bits of a mask: the parameters of those passed were read, and the rest decides.
use Rattle.spec.specs.Grammar.{grammar_of}
use Rattle.spec.specs.Match.{read_each}
use Rattle.spec.specs.Words.{bits_of}
use Rattle.decoder.specs.Answer.{reader_of}
use Rattle.used.specs.Parse.{bit_parameters}
use Rattle.untyped.proofs.Values.{Masked}
use Rattle.untyped.proofs.parse_bits.Given as goal

abbrev pub invariant-loop-rest : goal.invariant-loop-rest
invariant-loop-rest l =
    Masked l.s (read_each (grammar_of l.rows.bytes.now) (bit_parameters l.kind (grammar_of l.rows.bytes.now).enumerants (bits_of l.value)) (reader_of l.s l.fn.start)) l.initial.log l.initial.strings l.log l.strings l.fn.used l.fn.start l.d l.u (grammar_of l.rows.bytes.now) l.kind l.bit l.rest

abbrev pub decreases-loop-rest : goal.decreases-loop-rest
decreases-loop-rest l = l.rest
