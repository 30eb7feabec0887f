-- The names as one run of bytes, and its index.
use Rattle.std.specs.Prelude.{ℕ, ◌+◌, ◌%◌, ◌≡◌, Bool, true, false, ◌&&◌, List, [], ◌∷◌, ◌++◌, eqb, length, get_or, drop}
use Rattle.spec.specs.Base.{joined, every}
use Rattle.spec.specs.Words.{bytes_of}
use Rattle.spec.specs.NameTable.{Name, name_table}

-- THE RUN

-- a name's bytes: its set, its number, the length of its text, and its text
abbrev pub name_bytes : Name → List ℕ
name_bytes x = x.set ∷ bytes_of x.number ++ (length x.text ∷ x.text)

-- how many bytes those are
abbrev pub name_size : Name → ℕ
name_size x = 6 + length x.text

-- the names as one run of bytes
unfoldable pub name_run : List ℕ
name_run = joined name_bytes name_table

-- THE INDEX: a shift for each of 48 sets, then 3,021 slots, each with the place of a name in the run

-- the place that the slot of a number in a set has
unfoldable pub place_in : List ℕ → ℕ → ℕ → ℕ
place_in index s n = get_or index (48 + (get_or index s 0 + n) % 3021) 0

-- the slot of each name has its place; the first of them stands at a place
unfoldable pub slotted : List ℕ → ℕ → List Name → Bool
slotted index at [] = true
slotted index at (x ∷ xs) =
    let more = slotted index (at + name_size x) xs in
    eqb (place_in index x.set x.number) at && more

-- the places of names, of which the first stands at a place
unfoldable pub places_from : ℕ → List Name → List ℕ
places_from at [] = []
places_from at (x ∷ xs) = at ∷ places_from (at + name_size x) xs

-- a test, or else another, which is looked at only then
abbrev pub or_else : Bool → (Unit {0} → Bool) → Bool
or_else true f = true
or_else false f = f tt

-- is a number among places
unfoldable pub has_place : ℕ → List ℕ → Bool
has_place p [] = false
has_place p (q ∷ qs) = or_else (eqb p q) (λ _. has_place p qs)

-- is each of some numbers the place of a name
unfoldable pub placed : List ℕ → List Name → Bool
placed slots xs = let places = places_from 0 xs in every (λ p. has_place p places) slots

-- the run of names, and an index of it
pub record Indexed (run index : List ℕ) : Type 0 where
  pub whole : run ≡ name_run
  pub size : length index ≡ 3069
  pub slots : slotted index 0 name_table ≡ true
  pub places : placed (drop 48 index) name_table ≡ true
