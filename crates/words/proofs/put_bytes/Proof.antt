-- `words::put_bytes` meets its contract: at each turn one byte more is stored.
use Prim.Native.Nat.{◌-◌}
use native.Mathlib.Omega.{arith}
use lib.ListN.{length}
use Rattle.words.proofs.Copying.{Copied, copy_start, copy_length, copy_turn, copy_end}
use Rattle.words.proofs.put_bytes.Statement.{statement}
use Rattle.words.proofs.put_bytes.Tie as tie

abbrev invariant-loop-i : tie.invariant-loop-i
invariant-loop-i out₀ at bytes i₀ out i = Copied out₀ out bytes at i

abbrev decreases-loop-i : tie.decreases-loop-i
decreases-loop-i out₀ at bytes i₀ out i = length bytes - i

pub put_bytes_spec : {M : Type 1} → statement M
put_bytes_spec =
    tie.close
    (tie.spec
    invariant-loop-i
    decreases-loop-i
    (λ c. copy_start _ _ _)
    (λ c. omega arith)
    (λ c. omega arith)
    (λ c. let at-loop = c.before.before in omega (arith, copy_length at-loop.loop-i.invariant))
    (λ c. omega arith)
    (λ c. omega arith)
    (λ c. let at-loop = c.before.before in copy_turn at-loop.loop-i.invariant c.before.loop-i-test.true)
    (λ c. copy_length c.before.loop-i.invariant)
    (λ c. copy_end c.before.loop-i.invariant c.loop-i-test.false))
