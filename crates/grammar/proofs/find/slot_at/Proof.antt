-- `grammar::find::slot_at` meets its contract.
use Rattle.grammar.proofs.FindLaws.{slot_end, slot_there, slot_none}
use borrow.Author.Rules.{rules}
use Rattle.grammar.proofs.find.slot_at.Statement.{statement}
use Rattle.grammar.proofs.find.slot_at.Tie as tie

returns : tie.Need-returns-then-g-at
returns c = slot_end _ _ c.if-g-at.true

returns-2 : tie.Need-returns-in_default
returns-2 c = let at-if1 = c.before.before in slot_none _ _ at-if1.if-g-at.false _ c.before.item_at-x.ensures c.in_default.in_default-own.keys2

returns-3 : tie.Need-returns
returns-3 c =
    let at-item-at = c.before in
    let at-if1 = at-item-at.before in
    slot_there _ _ at-if1.if-g-at.false _ at-item-at.item_at-x.ensures _ _ c.in-Operand.is

pub slot_at_spec : {M : Type 1} → statement M
slot_at_spec = tie.close (tie.spec returns (λ c κs. search rules) (λ c. search rules) returns-2 returns-3)
