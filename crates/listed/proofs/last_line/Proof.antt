-- `listed::last_line` meets its contract.
use native.Mathlib.Omega.{arith}
use Rattle.listed.proofs.Sentences.{last_accepted, last_refused}
use Rattle.listed.proofs.last_line.Statement.{statement}
use Rattle.listed.proofs.last_line.Tie as tie

pub last_line_spec : {M : Type 1} → statement M
last_line_spec =
    tie.close
    (tie.spec
    (λ c κs. omega arith)
    (λ c. let at-accepted-line = c.before.before in at-accepted-line.accepted_line.auto.out)
    (λ c. let at-accepted-line = c.before.before in let at-if1 = at-accepted-line.before.before in last_accepted _ at-if1.if-l-eq-ACCEPTED.true at-accepted-line.accepted_line.ensures)
    (λ c κs. omega arith)
    (λ c. let at-refused-line = c.before.before in at-refused-line.refused_line.auto.out)
    (λ c. let at-refused-line = c.before.before in let at-if1 = at-refused-line.before.before in last_refused _ at-if1.if-l-eq-ACCEPTED.false at-refused-line.refused_line.ensures))
