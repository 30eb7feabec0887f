-- The entries of a type store: what its words say, where an id stands among them, and what a look-up answers.
use Rattle.std.specs.Prelude.{ℕ, zero, suc, ◌+◌, ◌*◌, List, [], ◌∷◌, eqb, get_or, drop, if◌then◌else◌}
use Rattle.std.specs.Prelude.{Option, None, Some}
use Rattle.spec.specs.Base.{joined}
use Rattle.spec.specs.Records.{Entry, entry, entry_words}
use Rattle.spec.specs.Match.{type_of}
use Rattle.spec.specs.Load.{laid_over}
use Rattle.tracker.specs.declared.Scalar.{Scalar}

-- the first n entries of a type store
unfoldable pub entries_of : ℕ → List ℕ → List Entry
entries_of zero ws = []
entries_of (suc n) ws = entry (get_or ws 0 0) (get_or ws 1 0) (get_or ws 2 0) ∷ entries_of n (drop 3 ws)

-- a type store with entries from its start on, and past them what was there
unfoldable pub stored : List ℕ → List Entry → List ℕ
stored ws es = laid_over ws (joined entry_words es)

-- the index of an id's entry, where the first of some entries has index k
unfoldable pub place_from : ℕ → ℕ → List Entry → Option ℕ
place_from k i [] = None
place_from k i (entry id w s ∷ es) = let later = place_from (suc k) i es in if eqb id i then Some k else later

-- the index of an id's entry
unfoldable pub place_of : ℕ → List Entry → Option ℕ
place_of i es = place_from 0 i es

-- the type that the entry at an index says: its second and third word
abbrev pub type_at : List ℕ → ℕ → Scalar
type_at ws k = record { width = get_or ws (3 * k + 1) 0; sort = get_or ws (3 * k + 2) 0 }

-- what a look-up says of an entry that is there or not
unfoldable pub resolved_by : Option Entry → Option Scalar
resolved_by (Some (entry id w s)) = Some (record { width = w; sort = s })
resolved_by None = None

-- what a look-up says of an id that is there or not
unfoldable pub known_of : Option ℕ → List Entry → Option Scalar
known_of i es = resolved_by (type_of i es)
