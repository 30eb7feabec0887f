-- `magic_fault` meets its contract, by its two tests.
-- Assumes nothing.
use borrow.Author.Tests.{eq-eqb, ne_eqb}
use Rattle.decoder.proofs.magic_fault.Statement.{statement}
use Rattle.decoder.proofs.magic_fault.Tie as tie

pub magic_fault_spec : {M : Type 1} → statement M
magic_fault_spec =
    tie.close
    (tie.spec
    (λ c. simp (eq-eqb _ _ c.if-magic-eq119734787.true))
    (λ c. simp (ne_eqb _ _ c.before.if-magic-eq119734787.false, eq-eqb _ _ c.if-magic-eq50471687.true))
    (λ c. simp (ne_eqb _ _ c.before.if-magic-eq119734787.false, ne_eqb _ _ c.if-magic-eq50471687.false)))
