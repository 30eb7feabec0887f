-- `untyped::parse_listed` meets its contract: the parameters that are listed, or none.
use Rattle.untyped.proofs.Carried.{listed_single}
use Rattle.untyped.proofs.Walk.{same_read}
use Rattle.untyped.proofs.Values.{nothing, found_none, found_at, place_told, same_single, same_each}
use Rattle.untyped.proofs.parse_listed.Goals as goal

pub parse_parameters-requires : goal.parse_parameters-requires
parse_parameters-requires c = (
  c.requires,
  place_told _ _ _ c.find_enumerant.ensures.result_in_bounds c.in-Some.is,
  same_single _ _ (listed_single _ _ c.args.rows.indexed _ _) (found_at _ _ _ _ c.find_enumerant.ensures.result_value c.in-Some.is),
)

pub returns-in-Some : goal.returns-in-Some
returns-in-Some c =
    same_read _ _ _ _ _ _ _ _ _ _ _ (same_each _ _ _ _ (found_at _ _ _ _ c.find_enumerant.ensures.result_value c.in-Some.is)) c.parse_parameters.ensures

pub returns-in-None : goal.returns-in-None
returns-in-None c = nothing _ _ _ _ _ _ _ c.requires (found_none _ _ _ c.find_enumerant.ensures.result_value c.in-None.is)
