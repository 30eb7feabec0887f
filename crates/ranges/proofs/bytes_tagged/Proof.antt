-- `ranges::bytes_tagged` meets its contract: by the tag.
-- Assumes nothing.
use borrow.Author.Rules.{rules}
use borrow.Author.Tests.{eq-eqb, ne_eqb}
use Rattle.ranges.proofs.bytes_tagged.Statement.{statement}
use Rattle.ranges.proofs.bytes_tagged.Tie as tie

pub bytes_tagged_spec : {M : Type 1} → statement M
bytes_tagged_spec =
    tie.close (tie.spec (λ c. search rules) (λ c. simp (eq-eqb _ _ c.if-tag-asked.true)) (λ c. simp (ne_eqb _ _ c.if-tag-asked.false)))
