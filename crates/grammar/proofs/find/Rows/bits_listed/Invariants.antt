use Rattle.spec.specs.Grammar.{grammar_of}
use Rattle.grammar.proofs.KnownLaws.{Bits}
use Rattle.grammar.proofs.find.Rows.bits_listed.Given as goal

-- the lower bits are listed where they are set
abbrev pub invariant-loop-rest : goal.invariant-loop-rest
invariant-loop-rest l = Bits (grammar_of l.self.bytes.now).enumerants l.kind l.mask l.rest l.bit

abbrev pub decreases-loop-rest : goal.decreases-loop-rest
decreases-loop-rest l = l.rest
