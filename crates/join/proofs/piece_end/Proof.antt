-- `join::piece_end` meets its contract.
use Rattle.std.proofs.lemmas.Bool.{not_from_true, not_from_false}
use mathlib.Core.Path.{refl, sym, ◌∙◌}
use Prim.Native.Nat.{◌-◌}
use lib.ListN.{length}
use native.Mathlib.Omega.{arith}
use borrow.Author.Rules.{rules}
use borrow.Author.Tests.{not-true, not-false}
use Rattle.demands.proofs.Bytes.{slice_bytes}
use Rattle.join.proofs.ItemLaws.{length_least}
use Rattle.join.proofs.StepLaws.{Ending, end_start, end_room, end_turn, end_other, end_bytes, stretched}
use Rattle.join.proofs.piece_end.Statement.{statement}
use Rattle.join.proofs.piece_end.Tie as tie

abbrev invariant-loop-end : tie.invariant-loop-end
invariant-loop-end g at end₀ end = Ending g at end

abbrev decreases-loop-end : tie.decreases-loop-end
decreases-loop-end g at end₀ end = length g - end

add_end : tie.Need-overflow_add-end invariant-loop-end decreases-loop-end
add_end c =
    let at-start = c.before.before in
    let begins = end_start _ _ _ at-start.requires.0 at-start.requires.1 c.item_length.ensures in
    omega (arith, begins.within)

loop-holds : tie.Need-loop-end-init invariant-loop-end decreases-loop-end
loop-holds c = let at-start = c.before.before in end_start _ _ _ at-start.requires.0 at-start.requires.1 c.item_length.ensures

returns : tie.Need-returns-then-not-is_part invariant-loop-end decreases-loop-end
returns c =
    let at-start = c.before.before.before.before.before.before.before in
    let at-loop = c.before.before.before.before in
    stretched at-start.requires.1 at-loop.loop-end.invariant (slice_bytes at-start.args.g.now c.before.before.before.before.before.before.shared_slice_known-1.given) (end_other at-start.requires.1 at-loop.loop-end.invariant c.before.before.before.loop-end-test.true _ c.before.before.item_at.ensures _ refl (sym c.before.is_part.ensures ∙ not-true _ (not_from_false _ c.if-not-is_part.true)))

add_end_2 : tie.Need-overflow_add-end-in-loop-end invariant-loop-end decreases-loop-end
add_end_2 c =
    let room = end_room c.before.before.before.before.before.before.before.before.requires.1 c.before.before.before.before.before.loop-end.invariant c.before.before.before.before.loop-end-test.true _ c.before.before.before.item_at.ensures _ c.item_length-end.ensures in
    omega (arith, room)

loop-less : tie.Need-loop-end-smaller invariant-loop-end decreases-loop-end
loop-less c =
    let at-loop = c.before.before.before.before.before in
    omega (arith, c.item_length-end.ensures, length_least c.before.before.before.before.before.before.before.before.args.g.now at-loop.loop-end.end)

loop-again : tie.Need-loop-end-preserved invariant-loop-end decreases-loop-end
loop-again c =
    let at-start = c.before.before.before.before.before.before.before.before in
    let at-loop = c.before.before.before.before.before in
    end_turn at-start.requires.1 at-loop.loop-end.invariant c.before.before.before.before.loop-end-test.true _ c.before.before.before.item_at.ensures _ c.item_length-end.ensures (sym c.before.before.is_part.ensures ∙ not-false _ (not_from_true _ c.before.if-not-is_part.false))

returns-2 : tie.Need-returns invariant-loop-end decreases-loop-end
returns-2 c =
    let at-start = c.before.before.before.before in
    let at-loop = c.before in
    stretched at-start.requires.1 at-loop.loop-end.invariant (slice_bytes at-start.args.g.now c.before.before.before.shared_slice_known-1.given) (end_bytes at-start.requires.1 at-loop.loop-end.invariant c.loop-end-test.false)

pub piece_end_spec : {M : Type 1} → statement M
piece_end_spec =
    tie.close
    (tie.spec
    invariant-loop-end
    decreases-loop-end
    (λ c κs. search rules)
    add_end
    loop-holds
    (λ c κs. search rules)
    (λ c κs. search rules)
    returns
    (λ c κs. search rules)
    add_end_2
    loop-less
    loop-again
    returns-2)
