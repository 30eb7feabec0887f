-- `operand::keep_bytes` meets its contract.
use Rattle.operand.proofs.LogLaws.{kept_fits, kept_full}
use lib.ListN.{length}
use borrow.Author.Rules.{rules}
use Rattle.operand.proofs.keep_bytes.Statement.{statement}
use Rattle.operand.proofs.keep_bytes.Tie as tie

pub keep_bytes_spec : {M : Type 1} → statement M
keep_bytes_spec =
    tie.close
    (tie.spec
    (λ c. search rules)
    (λ c κs. search rules)
    (λ c. search rules)
    (λ c. let at-put-bytes = c.before.before in let at-if1 = at-put-bytes.before.before in let at-start = at-if1.before.before.before in kept_fits at-start.args.out.now _ at-start.args.at (length at-start.args.bytes.now) at-start.args.bytes.now at-if1.if-at-bytes.true at-put-bytes.put_bytes.ensures)
    (λ c. kept_full _ _ _ _ c.if-at-bytes.false))
