-- `assemble::write::module_header` meets its contract: its words are those of the definition.
-- Assumes nothing.
use Rattle.assemble.proofs.Writing.{module_words}
use borrow.Author.Rules.{rules}
use Rattle.assemble.proofs.write.module_header.Statement.{statement}
use Rattle.assemble.proofs.write.module_header.Tie as tie

pub module_header_spec : {M : Type 1} → statement M
module_header_spec =
    tie.close
    (tie.spec
    (λ c. search rules)
    (λ c. search rules)
    (λ c. search rules)
    (λ c. search rules)
    (λ c. search rules)
    (λ c. search rules)
    (λ c. search rules)
    (λ c. search rules)
    (λ c. module_words c.args.header c.well_formed.0.1.0.1))
