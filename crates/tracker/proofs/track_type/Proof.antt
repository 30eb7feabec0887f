-- `tracker::track_type` meets its contract.
use borrow.Author.Rules.{rules}
use Rattle.tracker.proofs.Results.{type_int, type_float, type_other}
use Rattle.tracker.proofs.track_type.Statement.{statement}
use Rattle.tracker.proofs.track_type.Tie as tie

pub track_type_spec : {M : Type 1} → statement M
track_type_spec =
    tie.close
    (tie.spec
    (λ c κs. search rules)
    (λ c κs. search rules)
    (λ c. type_int _ _ _ _ _ c.before.in-21.is c.track_int.ensures)
    (λ c. type_float _ _ _ _ _ c.before.in-22.is c.track_float.ensures)
    (λ c. type_other _ _ _ _ c.in_default.in_default-own.rest.0.1 c.in_default.in_default-own.rest.1))
