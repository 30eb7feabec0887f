-- What an accepted joining made: what the laws of joining in any order speak of.
use Rattle.std.specs.Prelude.{ℕ, List, eqb, take, if◌then◌else◌}
use Rattle.std.specs.Prelude.{Option, None, Some}
use Rattle.spec.specs.declared.Joined.{Joined}
use Rattle.spec.specs.Join.{Joining}

-- the grammar that stands in an output after an answer: so many bytes, where the number is 0
unfoldable pub made_by : Joined → List ℕ → Option (List ℕ)
made_by r out = if eqb r.number 0 then Some (take r.bytes out) else None

-- the grammar that joining made, or none where it is refused
unfoldable pub made : Joining → Option (List ℕ)
made x = made_by x.said x.output
