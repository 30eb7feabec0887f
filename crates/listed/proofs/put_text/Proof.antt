-- `listed::put_text` meets its contract.
use mathlib.Core.Path.{refl}
use native.Mathlib.Omega.{arith}
use borrow.Author.Rules.{rules}
use Rattle.listed.proofs.put_text.Statement.{statement}
use Rattle.listed.proofs.put_text.Tie as tie

pub put_text_spec : {M : Type 1} → statement M
put_text_spec =
    tie.close
    (tie.spec
    (λ c κs. search rules)
    (λ c. omega arith)
    (λ c. search rules)
    (λ c. let at-put-bytes = c.before.before in record { is = at-put-bytes.put_bytes.ensures; ends = refl }))
