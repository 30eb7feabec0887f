-- `tracker::index::scan` meets its contract.
use Prim.Native.Nat.{◌-◌}
use native.Mathlib.Omega.{arith}
use Rattle.tracker.proofs.Search.{found_own, Seeking, seek_start, seek_turn, seek_end}
use Rattle.tracker.proofs.index.scan.Statement.{statement}
use Rattle.tracker.proofs.index.scan.Tie as tie

abbrev invariant-loop-i : tie.invariant-loop-i
invariant-loop-i types count id i₀ end₀ i end = Seeking types count id i end

abbrev decreases-loop-i : tie.decreases-loop-i
decreases-loop-i types count id i₀ end₀ i end = end - i

returns : tie.Need-returns-then-types-i invariant-loop-i decreases-loop-i
returns c =
    let at-loop-test = c.before.before in
    let at-loop = at-loop-test.before in
    let at-start = at-loop.before in
    found_own _ _ at-start.requires.1 _ _ (omega (arith, at-loop.loop-i.invariant.within)) c.if-types-i.true

returns-2 : tie.Need-returns-then-types-end invariant-loop-i decreases-loop-i
returns-2 c =
    let at-loop-test = c.before.before.before.before in
    let at-loop = at-loop-test.before in
    let at-start = at-loop.before in
    found_own _ _ at-start.requires.1 _ _ (omega (arith, at-loop.loop-i.invariant.within, at-loop-test.loop-i-test.true)) c.if-types-end.true

loop-again : tie.Need-loop-i-preserved invariant-loop-i decreases-loop-i
loop-again c =
    let at-if1 = c.before.before in
    let at-loop-test = at-if1.before.before in
    let at-loop = at-loop-test.before in
    seek_turn at-loop.loop-i.invariant at-loop-test.loop-i-test.true at-if1.if-types-i.false c.if-types-end.false

pub scan_spec : {M : Type 1} → statement M
scan_spec =
    tie.close
    (tie.spec
    invariant-loop-i
    decreases-loop-i
    (λ c. seek_start _ _ _)
    (λ c. let at-loop = c.before in omega (arith, at-loop.loop-i.invariant.within))
    (λ c. let at-loop = c.before in omega (arith, at-loop.loop-i.invariant.within))
    (λ c. let at-loop = c.before.before in omega (arith, at-loop.loop-i.invariant.within))
    returns
    (λ c. omega arith)
    (λ c. let at-loop = c.before.before.before in omega (arith, at-loop.loop-i.invariant.within))
    (λ c. let at-loop = c.before.before.before in omega (arith, at-loop.loop-i.invariant.within))
    (λ c. let at-loop = c.before.before.before.before in omega (arith, at-loop.loop-i.invariant.within))
    returns-2
    (λ c. let at-loop = c.before.before.before.before.before in omega (arith, at-loop.loop-i.invariant.within))
    (λ c. omega arith)
    loop-again
    (λ c. let at-loop = c.before in let at-start = at-loop.before in seek_end at-loop.loop-i.invariant at-start.requires.0 c.loop-i-test.false))
