-- `records::put_fields` meets its contract: eight stores in a row are one run.
-- Assumes nothing.
use Rattle.spec.specs.Records.{field_words}
use lib.ListN.{length-set}
use native.Mathlib.Omega.{arith}
use native.Mathlib.Numerals.{towards_suc}
use borrow.Author.Rules.{rules}
use Rattle.records.proofs.put_fields.Statement.{statement}
use Rattle.records.proofs.put_fields.Tie as tie

pub put_fields_spec : {M : Type 1} → statement M
unfolding field_words
put_fields_spec =
    tie.close
    (tie.spec
    (λ c. search rules)
    (λ c. search rules)
    (λ c. search rules)
    (λ c. search rules)
    (λ c. simp length-set (omega arith))
    (λ c. search rules)
    (λ c. search rules)
    (λ c. simp length-set (omega arith))
    (λ c. search rules)
    (λ c. search rules)
    (λ c. simp length-set (omega arith))
    (λ c. search rules)
    (λ c. search rules)
    (λ c. simp length-set (omega arith))
    (λ c. search rules)
    (λ c. search rules)
    (λ c. simp length-set (omega arith))
    (λ c. search rules)
    (λ c. search rules)
    (λ c. simp length-set (omega arith))
    (λ c. search rules)
    (λ c. search rules)
    (λ c. simp length-set (omega arith))
    (λ c. search rules)
    (λ c. simp towards_suc))
