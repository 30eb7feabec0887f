-- A law of kinds that are noted in both of two lists, kind by kind.
use mathlib.Core.Path.{◌≡◌, refl}
use mathlib.Core.Bool.{Bool, true, false, not, ◌&&◌}
use mathlib.Core.List.{List, [], ◌∷◌}
use Rattle.std.specs.List.{zip, list_any}
use Rattle.rules.specs.Rules.{is_apart}

-- none is where no pair is of two that are noted
pub apart_zip : (o u : List Bool) → not (list_any (λ p. p.0 && p.1) (zip o u)) ≡ is_apart o u
unfolding is_apart
apart_zip [] u = refl
apart_zip (a ∷ o) [] = refl
apart_zip (true ∷ o) (true ∷ u) = refl
apart_zip (true ∷ o) (false ∷ u) = apart_zip o u
apart_zip (false ∷ o) (b ∷ u) = apart_zip o u
