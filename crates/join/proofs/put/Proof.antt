-- `join::put` meets its contract.
use Rattle.std.proofs.lemmas.Bool.{not_from_true, not_from_false}
use mathlib.Core.Path.{refl}
use borrow.Author.Rules.{rules}
use borrow.Author.Tests.{not-true, not-false}
use Rattle.operand.proofs.LogLaws.{kept_yes, kept_no}
use Rattle.join.proofs.put.Statement.{statement}
use Rattle.join.proofs.put.Tie as tie

returns : tie.Need-returns-then-not-keep
returns c = (refl, kept_no _ _ _ _ (not-true _ (not_from_false _ c.if-not-keep.true)))

put-bytes-requires : tie.Need-put_bytes-requires
put-bytes-requires c κs = c.before.before.before.before.requires.0 (not-false _ (not_from_true _ c.before.if-not-keep.false))

returns-2 : tie.Need-returns
returns-2 c = (refl, kept_yes _ _ _ _ _ (not-false _ (not_from_true _ c.before.before.before.before.if-not-keep.false)) c.before.before.put_bytes.ensures)

pub put_spec : {M : Type 1} → statement M
put_spec = tie.close (tie.spec (λ c. search rules) returns put-bytes-requires (λ c. search rules) (λ c. search rules) returns-2)
