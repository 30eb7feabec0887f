-- `records::put_record` meets its contract: fields and numbers are one run.
-- Assumes nothing.
use lib.ListN.{length-set}
use native.Mathlib.Omega.{arith}
use borrow.Author.Rules.{rules}
use Rattle.records.proofs.Fields.{record_put}
use Rattle.records.proofs.put_record.Statement.{statement}
use Rattle.records.proofs.put_record.Tie as tie

pub put_record_spec : {M : Type 1} → statement M
put_record_spec =
    tie.close
    (tie.spec
    (λ c κs. search rules)
    (λ c. search rules)
    (λ c. search rules)
    (λ c. search rules)
    (λ c. search rules)
    (λ c. search rules)
    (λ c. simp length-set (omega arith))
    (λ c. search rules)
    (λ c. record_put _ _ _ _ _ c.before.before.put_fields.ensures))
