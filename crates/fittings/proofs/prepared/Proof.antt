-- `fittings::prepared` shows what the table says.
use mathlib.Core.Path.{refl}
use Rattle.fittings.proofs.Telling.{told}
use borrow.Author.Rules.{rules}
use Rattle.fittings.proofs.prepared.Statement.{statement}
use Rattle.fittings.proofs.prepared.Tie as tie

pub prepared_spec : {M : Type 1} → statement M
prepared_spec =
    tie.close
    (tie.spec
    (λ c κs. search rules)
    (λ c. search rules)
    (λ c. search rules)
    (λ c. search rules)
    (λ c. search rules)
    (λ c. let at-load-builtin = c.before.before.before.before.before.before.before.before in let at-start = at-load-builtin.before.before.before.before.before.before.before.before.before.before in told _ _ at-start.requires refl at-load-builtin.load_builtin.ensures))
