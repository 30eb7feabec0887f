-- `tracker::put_entry` meets its contract.
use native.Mathlib.Omega.{arith}
use native.Mathlib.Numerals.{towards_suc}
use lib.ListN.{length-set}
use borrow.Author.Rules.{rules}
use Rattle.tracker.proofs.put_entry.Statement.{statement}
use Rattle.tracker.proofs.put_entry.Tie as tie

pub put_entry_spec : {M : Type 1} → statement M
put_entry_spec =
    tie.close
    (tie.spec
    (λ c. search rules)
    (λ c. search rules)
    (λ c. search rules)
    (λ c. search rules)
    (λ c. search rules)
    (λ c. simp length-set (omega arith))
    (λ c. search rules)
    (λ c. search rules)
    (λ c. simp length-set (omega arith))
    (λ c. search rules)
    (λ c. simp towards_suc))
