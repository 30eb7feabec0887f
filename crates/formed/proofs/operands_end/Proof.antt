-- `formed::operands_end` meets its contract.
use Rattle.std.proofs.lemmas.Bool.{not_from_true, not_from_false}
use Prim.Native.Nat.{◌-◌}
use native.Mathlib.Omega.{arith}
use borrow.Author.Tests.{not-true, not-false}
use borrow.Author.Rules.{rules}
use lib.ListN.{length}
use Rattle.formed.proofs.CheckLaws.{past_slots_lem, past_slots_end, Rowing, row_start, row_stop, row_turn, row_over}
use Rattle.formed.proofs.operands_end.Statement.{statement}
use Rattle.formed.proofs.operands_end.Tie as tie

abbrev invariant-loop-at : tie.invariant-loop-at
invariant-loop-at g op from p₀ at₀ p at = Rowing g op from p at

abbrev decreases-loop-at : tie.decreases-loop-at
decreases-loop-at g op from p₀ at₀ p at = length g - at

loop-holds : tie.Need-loop-at-init invariant-loop-at decreases-loop-at
loop-holds c = row_start _ _ _ c.before.requires.1

returns : tie.Need-returns-in_default invariant-loop-at decreases-loop-at
returns c =
    let at-item-at = c.before.before in
    let at-loop-test = at-item-at.before in
    let at-loop = at-loop-test.before in
    row_over at-loop.loop-at.invariant (past_slots_lem _ _ at-loop-test.loop-at-test.true _ at-item-at.item_at-x.ensures c.before.in_default.in_default-own.keys2) _ c.end_of_row.ensures

returns-2 : tie.Need-returns-then-not-operand_rule invariant-loop-at decreases-loop-at
returns-2 c =
    let at_x = c.before.before in
    let at-item-at = at_x.before in
    let at-loop-test = at-item-at.before in
    let at-loop = at-loop-test.before in
    row_stop at-loop.loop-at.invariant at-loop-test.loop-at-test.true _ _ _ at-item-at.item_at-x.ensures at_x.in-Operand.is _ c.before.operand_rule.ensures (not-true _ (not_from_false _ c.if-not-operand_rule.true))

add_at : tie.Need-overflow_add-at invariant-loop-at decreases-loop-at
add_at c = omega arith

loop-less : tie.Need-loop-at-smaller invariant-loop-at decreases-loop-at
loop-less c = omega arith

loop-again : tie.Need-loop-at-preserved invariant-loop-at decreases-loop-at
loop-again c =
    let at-operand-rule = c.before.before in
    let at_x = at-operand-rule.before in
    let at-item-at = at_x.before in
    let at-loop-test = at-item-at.before in
    let at-loop = at-loop-test.before in
    row_turn at-loop.loop-at.invariant at-loop-test.loop-at-test.true _ _ _ at-item-at.item_at-x.ensures at_x.in-Operand.is _ at-operand-rule.operand_rule.ensures (not-false _ (not_from_true _ c.before.if-not-operand_rule.false)) _ c.with_one-p.ensures

returns-3 : tie.Need-returns invariant-loop-at decreases-loop-at
returns-3 c =
    let at-loop = c.before.before in
    row_over at-loop.loop-at.invariant (past_slots_end _ _ c.before.loop-at-test.false) _ c.end_of_row-2.ensures

pub operands_end_spec : {M : Type 1} → statement M
operands_end_spec =
    tie.close
    (tie.spec
    invariant-loop-at
    decreases-loop-at
    loop-holds
    (λ c κs. search rules)
    (λ c. search rules)
    (λ c κs. search rules)
    returns
    (λ c κs. search rules)
    returns-2
    (λ c κs. search rules)
    add_at
    loop-less
    loop-again
    (λ c κs. search rules)
    returns-3)
