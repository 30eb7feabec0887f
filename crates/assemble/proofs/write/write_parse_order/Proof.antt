-- `assemble::write::write_parse_order` meets its contract: its order is the one read.
-- Assumes nothing.
use Rattle.assemble.proofs.Writing.{writes_as, parse_is}
use borrow.Author.Rules.{rules}
use Rattle.assemble.proofs.write.write_parse_order.Statement.{statement}
use Rattle.assemble.proofs.write.write_parse_order.Tie as tie

pub write_parse_order_spec : {M : Type 1} → statement M
write_parse_order_spec = tie.close (tie.spec (λ c κs. search rules) (λ c. search rules) (λ c. writes_as (parse_is _ _ _) c.before.before.write_order.ensures))
