-- `formed::pass` meets its contract.
use Rattle.formed.proofs.CheckLaws.{check_start, check_long, check_broken, check_few, check_end, check_indexed}
use Rattle.formed.proofs.FlatLaws.{noting_end}
use Rattle.formed.specs.Check.{Entered}
use mathlib.Core.Bool.{false≢true}
use mathlib.Core.Path.{refl, ◌∙◌}
use lib.ListN.{length-set}
use native.Mathlib.Omega.{arith}
use Rattle.formed.proofs.pass.Goals as goal

pub returns-then-g-gt65535 : goal.returns-then-g-gt65535
returns-then-g-gt65535 c = record { value = check_long _ c.if-g-gt65535.true; indexed = (λ e. absurd (false≢true e)); noted = (λ e. absurd (false≢true e)) }

pub loop-at-init : goal.loop-at-init
loop-at-init c =
    (check_start _ _ _ _ c.requires.1 c.requires.2, refl)

pub enter-end-requires : goal.enter-end-requires
enter-end-requires c = record { checking = c.loop-at.invariant.0; g_len_bound = (c.if-g-gt65535.false, c.loop-at-test.true, c.item_at-x.ensures, omega arith) }

pub shape_of-index-in_default : goal.shape_of-index-in_default
shape_of-index-in_default c =
    c.enter-end.auto.index ∙ c.loop-at.invariant.1

pub returns-in_default : goal.returns-in_default
unfolding Entered
returns-in_default c = record { value = check_broken _ (rw c.in_default.is at c.enter-end.ensures); indexed = (λ e. absurd (false≢true e)); noted = (λ e. absurd (false≢true e)) }

pub overflow_add-count : goal.overflow_add-count
overflow_add-count c =
    omega (arith, c.loop-at.invariant.0.few)

pub loop-at-smaller : goal.loop-at-smaller
unfolding Entered
loop-at-smaller c =
    let entered = rw c.in-Some.is at c.enter-end.ensures in
    omega (arith, entered.0)

pub loop-at-preserved : goal.loop-at-preserved
unfolding Entered
loop-at-preserved c =
    let entered = rw c.in-Some.is at c.enter-end.ensures in
    (rw c.mark_of-last.ensures entered.1, c.enter-end.auto.index ∙ c.loop-at.invariant.1)

pub overflow_cast-index : goal.overflow_cast-index
overflow_cast-index c =
    omega (arith, check_few c.loop-at.invariant.0 c.loop-at-test.false c.if-g-gt65535.false)

pub are_apart-requires : goal.are_apart-requires
are_apart-requires c =
    c.loop-at.invariant.0.noting.sizes

pub shape_of-index : goal.shape_of-index
shape_of-index c =
    simp length-set c.loop-at.invariant.1

pub returns : goal.returns
returns c = let checking = c.loop-at.invariant.0 in
    let end = c.loop-at-test.false in
    let small = c.if-g-gt65535.false in
    record { value = check_end checking end small _ c.are_apart.ensures; indexed = check_indexed checking end small _ c.are_apart.ensures (omega arith); noted = λ e. noting_end checking.noting end }
