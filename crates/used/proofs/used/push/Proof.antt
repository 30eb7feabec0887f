-- `used::used::push` meets its contract. Assumes nothing.
use Rattle.operand.proofs.LogLaws.{length_record, laid_kept}
use borrow.Author.Rules.{rules}
use Rattle.used.proofs.used.push.Statement.{statement}
use Rattle.used.proofs.used.push.Tie as tie

pub push_spec : {M : Type 1} → statement M
push_spec =
    tie.close
    (tie.spec
    (λ c κs. search rules)
    (λ c κs. search rules)
    (λ c. search rules)
    (λ c. let at-keep-record = c.before.before.before in (c.noted.ensures.0, (laid_kept _ _ _ _ _ (length_record _) at-keep-record.keep_record-next.ensures.1, c.noted.ensures.1))))
