-- `rules::rules::literal_rule` meets its contract.
use Rattle.std.proofs.Common.{◌≡◌, arith}
use Rattle.std.specs.Prelude.{eqb, ◌||◌}
use Rattle.std.proofs.lemmas.Bool.Decides.{nat_tests}
use Rattle.rules.specs.Rules.{passed_of}
use Rattle.rules.proofs.RuleLaws.{lead_selects}
use Rattle.rules.proofs.rules.literal_rule.Goals.{in-43, in_default}
use Rattle.rules.proofs.rules.literal_rule.Goals as goal

pub returns : goal.returns
unfolding passed_of
returns c before e =
    let m : c.match-matches.matches ≡ (eqb c.args.op 43 || eqb c.args.op 50) =
    elim c.match-matches.branch [ in-43 w ↦ rw w.matches-is (grind (arith, nat_tests)) | in_default w ↦ rw w.matches-is (grind (arith, nat_tests)) ] in
    rw (m, e) (simp lead_selects)
