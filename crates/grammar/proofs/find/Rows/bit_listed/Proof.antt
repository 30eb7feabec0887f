-- `grammar::find::Rows::bit_listed` meets its contract.
use Rattle.grammar.proofs.KnownLaws.{bit_set, bit_clear}
use borrow.Author.Rules.{rules}
use Rattle.grammar.proofs.find.Rows.bit_listed.Statement.{statement}
use Rattle.grammar.proofs.find.Rows.bit_listed.Tie as tie

returns : tie.Need-returns-then-set-eq1
returns c = bit_set _ _ _ _ _ c.before.if-set-eq1.true c.is_listed.ensures

returns-2 : tie.Need-returns
returns-2 c = bit_clear _ _ _ _ c.if-set-eq1.false

pub bit_listed_spec : {M : Type 1} → statement M
bit_listed_spec = tie.close (tie.spec (λ c κs. search rules) returns returns-2)
