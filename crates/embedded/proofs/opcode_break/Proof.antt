-- `embedded::opcode_break` meets its contract. Assumes nothing.
use Rattle.embedded.proofs.Once.{opcode_breaks, opcode_low}
use Rattle.embedded.proofs.opcode_break.Statement.{statement}
use Rattle.embedded.proofs.opcode_break.Tie as tie

pub opcode_break_spec : {M : Type 1} → statement M
opcode_break_spec = tie.close (tie.spec (λ c. opcode_breaks c.before.args.word _ c.if-word-ne0.true) (λ c. opcode_low c.before.args.word _ c.if-word-ne0.false))
