-- `Decoder::string` meets its contract: from beyond the bytes, without a limit, with one.
-- Assumes nothing.
use borrow.Author.Rules.{rules}
use Rattle.decoder.proofs.Steps.{text_beyond}
use Rattle.decoder.proofs.Decoder.string.Statement.{statement}
use Rattle.decoder.proofs.Decoder.string.Tie as tie

pub string_spec : {M : Type 1} → statement M
string_spec =
    tie.close
    (tie.spec
    (λ c κs. search rules)
    (λ c. text_beyond _ _ _ c.refused.ensures c.before.if-s-at.true)
    (λ c. search rules)
    (λ c κs. search rules)
    (λ c. search rules)
    (λ c κs. search rules)
    (λ c. search rules)
    (λ c. search rules))
