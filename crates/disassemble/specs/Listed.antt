-- Records read by their places, their names and module order, as the code goes through them.
use Rattle.std.specs.Prelude.{Option, None, Some, ℕ, zero, suc, ◌+◌, ◌-◌, ◌<◌, ◌≤◌, ◌≡◌, List, [], ◌∷◌, ◌++◌, reverse, ltb, eqb, length, take, drop, if◌then◌else◌}
use Rattle.spec.specs.Records.{Placed, record_size, fields_at}
use Rattle.spec.specs.Write.{parameters_in, functions, Writing, put_or}
use Rattle.spec.specs.Disassembly.{is_named}
use Rattle.spelled.specs.Spelled.{AllReadable, said_by}
use Rattle.spelled.specs.Placing.{one_at, tagged}
use Rattle.spelled.proofs.Orders.{sections_from}
use Rattle.disassemble.specs.declared.walk.Cursor.{Cursor}

-- THE RECORDS BY THEIR PLACES

-- the instructions that so many records say
unfoldable pub said_from : ℕ → List ℕ → List ℕ → List ℕ → List Placed
said_from zero ws log strings = []
said_from (suc n) ws log strings = said_by log strings (fields_at ws) ∷ said_from n (drop record_size ws) log strings

-- they lie in the store, and their operands can be read
unfoldable pub Told : ℕ → List ℕ → List ℕ → List ℕ → Type 0
Told zero ws log strings = Unit {0}
Told (suc n) ws log strings =
    (record_size ≤ length ws) × AllReadable (fields_at ws).count log strings (fields_at ws).start × Told n (drop record_size ws) log strings

-- how many instructions have their names, up to the first that lacks one
unfoldable pub named_count : List Placed → ℕ
named_count [] = 0
named_count (p ∷ ps) = let more = suc (named_count ps) in if is_named p then more else 0

-- a record that is bad has an index from 1 on
unfoldable pub BadFromOne : Option ℕ → Type 0
BadFromOne None = Unit {0}
BadFromOne (Some i) = 1 ≤ i

-- how many records there are before the first that is bad
unfoldable pub before_bad : Option ℕ → ℕ → ℕ
before_bad None count = count
before_bad (Some i) count = i - 1

-- MODULE ORDER

-- the last instruction with a tag
unfoldable pub last_tagged : ℕ → List Placed → List Placed
last_tagged t is = take 1 (reverse (tagged t is))

-- what a section has from an index on; MemoryModel, which has one alone, has it whatever the index
unfoldable pub section_from : ℕ → ℕ → List Placed → List Placed
section_from t i is = if eqb t 4 then last_tagged t is else tagged t (drop i is)

-- what a section has after its instruction at an index
unfoldable pub section_after : ℕ → ℕ → List Placed → List Placed
section_after t i is = if eqb t 4 then [] else tagged t (drop (i + 1) is)

-- an index is the next of a section, or there is none
pub record InSection (is : List Placed) (count t from r : ℕ) : Type 0 where
  pub found : r < count → section_from t from is ≡ one_at is r ++ section_after t r is
  pub none : count ≤ r → section_from t from is ≡ []

-- what is left of the sections
unfoldable pub sections_left : ℕ → ℕ → List Placed → List Placed
sections_left t i is = section_from t i is ++ (sections_from (12 - (t + 1)) (t + 1) is ++ functions is)

-- what is left of the functions where parameters come first
unfoldable pub parameters_left : ℕ → ℕ → List Placed → List Placed
parameters_left i back is = parameters_in (drop i is) ++ functions (drop back is)

-- what is left of module order
unfoldable pub left_of : Cursor → List Placed → List Placed
left_of c is =
    if ltb c.tag 12 then sections_left c.tag c.at is
    else if eqb c.tag 12 then functions (drop c.at is)
    else parameters_left c.at c.back is

-- an answer is the next of what is left, and what is left after it
unfoldable pub Follows : List Placed → ℕ → List Placed → Option (ℕ × Cursor) → Type 0
Follows is count rest None = rest ≡ []
Follows is count rest (Some (i, c)) = (i < count) × (rest ≡ one_at is i ++ left_of c is)

-- THE CALL

-- a text written over an output, or 32
unfoldable pub text_over : List ℕ → List ℕ → Writing
text_over out bs = put_or 32 out bs
