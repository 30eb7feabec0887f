-- `steps::step::put_records` meets its contract: at each turn five bytes more are stored, then the rest.
use Prim.Native.Nat.{◌-◌}
use native.Mathlib.Omega.{arith}
use lib.ListN.{length, length-set, length-drop}
use mathlib.Core.Path.{◌∙◌}
use Rattle.spec.proofs.Store.{rest_is}
use borrow.Author.Rules.{rules}
use Rattle.words.proofs.Copying.{Copied, copy_start, copy_length}
use Rattle.steps.proofs.Keeping.{copy_five, copy_rest}
use Rattle.steps.proofs.step.put_records.Statement.{statement}
use Rattle.steps.proofs.step.put_records.Tie as tie

abbrev invariant-loop-i : tie.invariant-loop-i
invariant-loop-i log₀ at records i₀ log i = Copied log₀ log records at i

abbrev decreases-loop-i : tie.decreases-loop-i
decreases-loop-i log₀ at records i₀ log i = length records - i

loop-again : tie.Need-loop-i-preserved invariant-loop-i decreases-loop-i
loop-again c =
    let turn = c.before.before.before.before.before.before.before in
    copy_five turn.loop-i.invariant turn.before.shared_slice_known-1.given (omega (arith, turn.loop-i.invariant.within)) _ c.before.before.before.before.before.word_at-word.ensures _ c.before.before.put_word.ensures

pub put_records_spec : {M : Type 1} → statement M
put_records_spec =
    tie.close
    (tie.spec
    invariant-loop-i
    decreases-loop-i
    (λ c. copy_start _ _ _)
    (λ c. c.loop-i.invariant.within)
    (λ c. omega arith)
    (λ c κs. omega arith)
    (λ c. omega arith)
    (λ c. omega arith)
    (λ c. let turn = c.before.before.before in omega (arith, copy_length turn.loop-i.invariant))
    (λ c. omega arith)
    (λ c. omega arith)
    (λ c κs. let turn = c.before.before.before.before in simp length-set (omega (arith, copy_length turn.loop-i.invariant)))
    (λ c. omega arith)
    (λ c. omega arith)
    loop-again
    (λ c. omega arith)
    (λ c. search rules)
    (λ c. search rules)
    (λ c. search rules)
    (λ c κs. let at-loop = c.before.before.before in rw rest_is (simp length-drop (omega (arith, copy_length at-loop.loop-i.invariant, at-loop.loop-i.invariant.within))))
    (λ c. let at-log = c.before in at-log.log-2-1.given ∙ copy_length at-log.before.before.before.before.before.loop-i.invariant)
    (λ c. let at-put-bytes = c.before.before in copy_rest at-put-bytes.before.before.before.before.loop-i.invariant _ at-put-bytes.put_bytes.ensures))
