-- The index of a grammar: its rows and enumerants in their order, and where their items stand.
use Rattle.std.specs.Prelude.{ℕ, ◌+◌, ◌≤◌, ◌≡◌, Bool, true, false, ◌&&◌, List, [], ◌∷◌, map, eqb, length, get_or, take, drop, if◌then◌else◌}
use Rattle.spec.specs.Grammar.{Item, row, operand, enumerant, parameter, broken, items, well_formed}
use Rattle.grammar.specs.declared.index.Mark.{Mark}
use Rattle.std.specs.Prelude.{None, Option, Some}

-- MARKS: the rows and enumerants, each with the place of its item

-- a mark by its parts: kind 0 for a row, with its opcode as value; an enumerant's kind and value; the place of the item
abbrev pub mark : ℕ → ℕ → ℕ → Mark
mark k v p = record { kind = k; value = v; place = p }

-- how many bytes an item has, its byte of kind with them
abbrev pub size_of : Item → ℕ
size_of (row o) = 3
size_of (operand k q) = 3
size_of (enumerant k v) = 6
size_of (parameter k) = 2
size_of broken = 0

-- the mark of an item at a place
abbrev pub mark_of : Item → ℕ → Mark
mark_of (row o) at = mark 0 o at
mark_of (enumerant k v) at = mark k v at
mark_of (operand k q) at = mark 0 0 at
mark_of (parameter k) at = mark 0 0 at
mark_of broken at = mark 0 0 at

-- is it a row or an enumerant
abbrev pub is_marked : Item → Bool
is_marked (row o) = true
is_marked (enumerant k v) = true
is_marked (operand k q) = false
is_marked (parameter k) = false
is_marked broken = false

-- the marks of some items, of which the first stands at a place
unfoldable pub marks_from : ℕ → List Item → List Mark
marks_from at [] = []
marks_from at (x ∷ xs) = let more = marks_from (at + size_of x) xs in if is_marked x then mark_of x at ∷ more else more

-- the marks of a grammar
unfoldable pub marks_of : List ℕ → List Mark
marks_of g = marks_from 0 (items g)

-- the mark of that rank
unfoldable pub mark_at : List Mark → ℕ → Mark
mark_at ms rank = get_or ms rank (mark 0 0 0)

-- the places of marks
unfoldable pub places_of : List Mark → List ℕ
places_of ms = map (λ m. m.place) ms

-- is it the mark of a kind and a value
abbrev pub is_mark : ℕ → ℕ → Mark → Bool
is_mark k v m = eqb m.kind k && eqb m.value v

-- where the first item of a kind and a value stands
unfoldable pub found : ℕ → ℕ → List Mark → Option ℕ
found k v [] = None
found k v (m ∷ ms) = let later = found k v ms in if is_mark k v m then Some m.place else later

-- THE INDEX: 1,536 guesses, the count of marks, and their places in order

-- the first n places that an index has
unfoldable pub places_in : ℕ → List ℕ → List ℕ
places_in n index = take n (drop 1537 index)

-- an index of a grammar, which is well-formed; nothing is asked of the guesses
pub record Indexed (g index : List ℕ) : Type 0 where
  pub well : well_formed g ≡ true
  pub count : get_or index 1536 0 ≡ length (marks_of g)
  pub room : 1537 + length (marks_of g) ≤ length index
  pub places : places_in (length (marks_of g)) index ≡ places_of (marks_of g)

-- do some numbers begin with others
unfoldable pub begins : List ℕ → List ℕ → Bool
begins [] l = true
begins (x ∷ xs) [] = false
begins (x ∷ xs) (y ∷ ys) = eqb x y && begins xs ys

-- is it an index of a grammar, as a test that is computed
unfoldable pub indexed : List ℕ → List ℕ → Bool
indexed g index =
    let ms = marks_of g in
    well_formed g && begins (length ms ∷ places_of ms) (drop 1536 index)
