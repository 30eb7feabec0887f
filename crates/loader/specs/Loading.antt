-- A load into lent stores: what it comes to, what it answers, and what it leaves.
use Rattle.std.specs.Prelude.{ℕ, ◌/◌, ◌≡◌, List, length}
use Rattle.spec.specs.declared.Loaded.{Loaded}
use Rattle.spec.specs.Words.{AllBytes}
use Rattle.spec.specs.Reader.{reader_at}
use Rattle.spec.specs.Grammar.{grammar_of}
use Rattle.spec.specs.Load.{Outcome, empty_book, load_from, with_plain, load_with, load, Stores, stores_of, room_in, laid_on}
use Rattle.steps.specs.declared.parts.Ended.{Ended}
use Rattle.steps.specs.Steps.{said_at}
use Rattle.std.specs.Prelude.{None}

-- what a load of a module comes to by a grammar and the room in stores
unfoldable pub loading : List ℕ → List ℕ → Stores → Outcome
loading m g before = load g (room_in before) m

-- what a load of which x became answers, and leaves in the stores
pub record Leaves (x : Outcome) (before after : Stores) (r : Loaded) : Type 0 where
  pub said : r ≡ x.said
  pub stores : after ≡ laid_on before (stores_of x)

-- what a load of a module by a grammar answers, and leaves in the stores; and that the module is bytes
pub record Loads (m g : List ℕ) (before after : Stores) (r : Loaded) : Type 0 where
  pub leaves : Leaves (loading m g before) before after r
  pub bytes : AllBytes m

-- the same of a load by a grammar that is well-formed, from the length on
unfoldable pub LoadsWith : List ℕ → List ℕ → Stores → Stores → Loaded → Type 0
LoadsWith g m before after r = Leaves (load_with (grammar_of g) (room_in before) m) before after r

-- the same from the first instruction on, whatever the header
unfoldable pub LoadsFrom : List ℕ → List ℕ → Stores → Stores → Ended → Type 0
LoadsFrom g m before after r =
    (h : List ℕ)
    → Leaves (with_plain m (load_from (grammar_of g) (room_in before) h (length m / 4) empty_book (reader_at m 20 None))) before after
    (said_at h (length m) r)
