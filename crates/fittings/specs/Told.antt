-- What the table of fittings says of a module, met by an answer and the stores that a load leaves.
use Rattle.std.specs.Prelude.{ℕ, ◌≡◌, List, [], ◌∷◌}
use Rattle.spec.specs.declared.Loaded.{Loaded}
use Rattle.spec.specs.Load.{Stores, laid_on}
use Rattle.spec.specs.Fittings.{Shown, Fitting, fitting}

-- an answer, and the stores after a load by what they were before, are what a fitting shows
pub record Shows (x : Shown) (before after : Stores) (r : Loaded) : Type 0 where
  pub said : r ≡ x.said
  pub stores : after ≡ laid_on before x.stores

-- whatever a table says that a module shows, is so
unfoldable pub Told : List Fitting → List ℕ → (Shown → Type 0) → Type 0
Told [] m P = Unit
Told (fitting s x ∷ fs) m P = (m ≡ s → P x) × Told fs m P
