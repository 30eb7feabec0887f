-- Hints: one run of numbers of 16 bits that tells where an id's entry may stand, or that it has none. Marks come first, then slots.
use Rattle.std.specs.Prelude.{ℕ, ◌+◌, ◌-◌, ◌*◌, ◌/◌, ◌%◌, ◌^◌, ◌<◌, ◌≤◌, ◌≡◌, Bool, true, false, ◌&&◌, List, [], ◌∷◌, leb, ltb, eqb, length, get_or, set, drop, if◌then◌else◌}
use Rattle.spec.specs.Records.{Entry, entry}
use Rattle.tracker.specs.declared.TypeTracker.{TypeTracker}
use Rattle.tracker.specs.Entries.{entries_of, place_of}
use Rattle.std.specs.Prelude.{None, Option, Some}

-- MARKS: a bit for each id below 16 times their number

-- is the mark of an id set
unfoldable pub is_marked : List ℕ → ℕ → Bool
is_marked hints id = eqb (get_or hints (id / 16) 0 / 2 ^ (id % 16) % 2) 1

-- the hints with the mark of an id, which was not set
unfoldable pub with_mark : List ℕ → ℕ → List ℕ
with_mark hints id = set hints (id / 16) (get_or hints (id / 16) 0 + 2 ^ (id % 16))

-- SLOTS: the last 2,048 are shared

-- how many of the hints are marks, where ids lie below a bound: none where each id can have a slot of its own, else as many as leave
-- the slots that are shared
unfoldable pub marks_for : ℕ → ℕ → ℕ
marks_for bound hints = if leb bound hints then 0 else hints - 2048

-- the place of an id's slot among so many hints: one of its own behind the marks, or one of the last
unfoldable pub slot_of : ℕ → ℕ → ℕ → ℕ
slot_of hints marks id = if ltb (marks + id) (hints - 2048) then marks + id else hints - 2048 + id % 2048

-- what an id's slot has: 0 where it is empty, else a guess
unfoldable pub guess_of : ℕ → List ℕ → ℕ → ℕ
guess_of marks hints id = get_or hints (slot_of (length hints) marks id) 0

-- the guess that says an index: one more; a guess has 16 bits
unfoldable pub guess_for : ℕ → ℕ
guess_for index = if ltb index 65535 then index + 1 else 65535

-- is the entry that a guess says the id's
unfoldable pub is_own : ℕ → List ℕ → ℕ → ℕ → Bool
is_own count types guess id = leb guess count && eqb (get_or types (3 * (guess - 1)) 0) id

-- BOTH

-- the hints with the mark of an id, where it has one
unfoldable pub marked_for : ℕ → List ℕ → ℕ → List ℕ
marked_for marks hints id = if ltb (id / 16) marks then with_mark hints id else hints

-- the hints with a guess in the slot of an id, where that was empty
unfoldable pub guessed_for : ℕ → List ℕ → ℕ → ℕ → List ℕ
guessed_for marks hints id index =
    if eqb (guess_of marks hints id) 0 then set hints (slot_of (length hints) marks id) (guess_for index) else hints

-- the hints after the index of a new id's entry is noted
unfoldable pub noted : ℕ → List ℕ → ℕ → ℕ → List ℕ
noted marks hints id index = guessed_for marks (marked_for marks hints id) id index

-- the entries that come after the first n
unfoldable pub new_of : ℕ → List Entry → List Entry
new_of n es = drop n es

-- the hints with those of new entries, of which the first has index n
unfoldable pub hints_with : ℕ → ℕ → List Entry → List ℕ → List ℕ
hints_with marks n [] hints = hints
hints_with marks n (entry id w s ∷ es) hints = hints_with marks (n + 1) es (noted marks hints id n)

-- the greater of two ids
unfoldable pub greater_of : ℕ → ℕ → ℕ
greater_of a b = if ltb a b then b else a

-- the greatest id with those of new entries
unfoldable pub greatest_with : List Entry → ℕ → ℕ
greatest_with [] g = g
greatest_with (entry id w s ∷ es) g = greatest_with es (greater_of g id)

-- WHAT IS RIGHT

-- no id has two entries: each entry is where its id is found
unfoldable pub Alone : ℕ → List ℕ → Type 0
Alone count types = (k : ℕ) → k < count → place_of (get_or types (3 * k) 0) (entries_of count types) ≡ Some k

-- hints of which none is set
unfoldable pub Blank : List ℕ → Type 0
Blank hints = (k : ℕ) → get_or hints k 0 ≡ 0

-- was it found
abbrev pub is_there : Option ℕ → Bool
is_there (Some k) = true
is_there None = false

-- the hints of a tracker's entries: a mark is set where its id has an entry, no id whose slot is empty has one, and none above the
-- greatest has
pub record Hinted (t : TypeTracker) (types hints : List ℕ) : Type 0 where
  pub room : t.marks + 2048 ≤ length hints
  pub alone : Alone t.count types
  pub marked : (id : ℕ) → id / 16 < t.marks → is_marked hints id ≡ is_there (place_of id (entries_of t.count types))
  pub empty : (id : ℕ) → guess_of t.marks hints id ≡ 0 → place_of id (entries_of t.count types) ≡ None
  pub above : (id : ℕ) → t.greatest < id → place_of id (entries_of t.count types) ≡ None
