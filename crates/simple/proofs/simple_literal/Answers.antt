-- `simple::simple_literal` meets its contract: a literal of one word, or none.
use Rattle.std.proofs.Common.{[]}
use Rattle.spec.specs.Grammar.{grammar_of}
use Rattle.untyped.proofs.KindLaws.{tested_word}
use Rattle.untyped.proofs.Walk.{same_read}
use Rattle.untyped.proofs.LiteralLaws.{literal_one}
use Rattle.simple.proofs.SimpleLaws.{pass, take_so}
use Rattle.simple.proofs.simple_literal.Goals as goal

pub returns-in_err-kind : goal.returns-in_err-kind
returns-in_err-kind c t = rw c.from_residual.ensures (pass _)

pub simple_word-requires-clause-few : goal.simple_word-requires-clause-few
simple_word-requires-clause-few c = (c.requires.few, tested_word _ c.if-kind.true)

pub returns-then-kind : goal.returns-then-kind
returns-then-kind c t =
    take_so _ _ (λ v. same_read _ _ _ _ _ _ _ _ _ _ v (literal_one _ _ _ _ c.in_ok-kind.was (grammar_of []) (tested_word _ c.if-kind.true))) _
    (c.simple_word.ensures _ _)

pub returns : goal.returns
returns c t = pass _
