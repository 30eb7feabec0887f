-- `operand::keep_record` meets its contract.
use Rattle.operand.proofs.LogLaws.{length_range, kept_fits, kept_full}
use Prim.Native.Nat.{ℕ, ◌+◌}
use mathlib.Core.Path.{ap}
use Rattle.operand.specs.Log.{record_of, record_length}
use native.Mathlib.Omega.{arith}
use borrow.Author.Rules.{rules}
use Rattle.operand.proofs.keep_record.Statement.{statement}
use Rattle.operand.proofs.keep_record.Tie as tie

pub keep_record_spec : {M : Type 1} → statement M
keep_record_spec =
    tie.close
    (tie.spec
    (λ c κs. search rules)
    (λ c. let at-start = c.before.before in omega (arith, c.record_length.ensures, length_range at-start.args.p))
    (λ c κs. search rules)
    (λ c. search rules)
    (λ c. let at-put-record = c.before.before in let at-if1 = at-put-record.before.before in let at-start = at-if1.before.before.before in let e = c.before.before.before.before.before.record_length.ensures in (ap (λ (n : ℕ). at-start.args.at + n) e, kept_fits at-start.args.log.now _ at-start.args.at (record_length at-start.args.p) (record_of at-start.args.p) (omega (arith, e, at-if1.if-next-log.true)) at-put-record.put_record.ensures))
    (λ c. let at-start = c.before.before.before in let e = c.before.record_length.ensures in (ap (λ (n : ℕ). at-start.args.at + n) e, kept_full at-start.args.log.now at-start.args.at (record_length at-start.args.p) (record_of at-start.args.p) (omega (arith, e, c.if-next-log.false)))))
