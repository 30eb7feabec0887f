-- `formed::parameters_end` meets its contract.
use Rattle.std.proofs.lemmas.Bool.{not_from_true, not_from_false}
use Prim.Native.Nat.{◌-◌}
use native.Mathlib.Omega.{arith}
use borrow.Author.Tests.{not-true, not-false}
use borrow.Author.Rules.{rules}
use lib.ListN.{length}
use Rattle.formed.proofs.CheckLaws.{past_parameters_lem, past_parameters_end, Owning, own_start, own_stop, own_turn, own_over}
use Rattle.formed.proofs.parameters_end.Statement.{statement}
use Rattle.formed.proofs.parameters_end.Tie as tie

abbrev invariant-loop-at : tie.invariant-loop-at
invariant-loop-at g kind value from owners₀ used₀ at₀ owners used at = Owning g kind value from owners₀ used₀ owners used at

abbrev decreases-loop-at : tie.decreases-loop-at
decreases-loop-at g kind value from owners₀ used₀ at₀ owners used at = length g - at

loop-holds : tie.Need-loop-at-init invariant-loop-at decreases-loop-at
loop-holds c = own_start _ _ _ _ _ _ c.before.requires.1

returns : tie.Need-returns-in_default invariant-loop-at decreases-loop-at
returns c =
    let at-loop-test = c.before.before in
    let at-loop = at-loop-test.before in
    let at-start = at-loop.before.before in
    own_over at-loop.loop-at.invariant at-start.requires.2 (past_parameters_lem _ _ at-loop-test.loop-at-test.true _ c.before.item_at-x.ensures c.in_default.in_default-own.keys2)

returns-2 : tie.Need-returns-then-not-parameter_rule invariant-loop-at decreases-loop-at
returns-2 c =
    let at_x = c.before.before in
    let at-item-at = at_x.before in
    let at-loop-test = at-item-at.before in
    let at-loop = at-loop-test.before in
    own_stop at-loop.loop-at.invariant at-loop-test.loop-at-test.true _ _ at-item-at.item_at-x.ensures at_x.in-Parameter.is _ c.before.parameter_rule.ensures (not-true _ (not_from_false _ c.if-not-parameter_rule.true))

add_at : tie.Need-overflow_add-at invariant-loop-at decreases-loop-at
add_at c = omega arith

loop-less : tie.Need-loop-at-smaller invariant-loop-at decreases-loop-at
loop-less c = omega arith

loop-again : tie.Need-loop-at-preserved invariant-loop-at decreases-loop-at
loop-again c =
    let at-note = c.before.before in
    let at-if1 = at-note.before.before in
    let at-parameter-rule = at-if1.before in
    let at-known-told = at-parameter-rule.before in
    let at_x = at-known-told in
    let at-item-at = at_x.before in
    let at-loop-test = at-item-at.before in
    let at-loop = at-loop-test.before in
    let at-start = at-loop.before.before in
    own_turn at-loop.loop-at.invariant at-loop-test.loop-at-test.true _ _ at-item-at.item_at-x.ensures at_x.in-Parameter.is _ at-parameter-rule.parameter_rule.ensures (not-false _ (not_from_true _ at-if1.if-not-parameter_rule.false)) at-start.requires.3 at-start.requires.4 (omega arith) (omega (arith, at-known-told.in-Parameter.known_told-1-own.given)) _ _ at-note.note.ensures c.note-in-loop-at.ensures

returns-3 : tie.Need-returns invariant-loop-at decreases-loop-at
returns-3 c =
    let at-start = c.before.before.before in
    own_over c.before.loop-at.invariant at-start.requires.2 (past_parameters_end _ _ c.loop-at-test.false)

pub parameters_end_spec : {M : Type 1} → statement M
parameters_end_spec =
    tie.close
    (tie.spec
    invariant-loop-at
    decreases-loop-at
    loop-holds
    (λ c κs. search rules)
    (λ c. search rules)
    returns
    (λ c κs. search rules)
    returns-2
    (λ c κs. search rules)
    (λ c κs. search rules)
    add_at
    loop-less
    loop-again
    returns-3)
