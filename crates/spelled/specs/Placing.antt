-- Instructions placed in an output: the ranges that their tags stand in, the room they need, and what was written.
use Rattle.std.specs.Coded.{Coded-set, coded_ℕ, coded_option}
use Rattle.std.specs.Prelude.{ℕ, ◌+◌, ◌<◌, ◌≤◌, ◌≡◌, Bool, true, false, ◌||◌, List, [], ◌∷◌, ◌++◌, leb, eqb, length, take, drop, get_or, if◌then◌else◌}
use Rattle.std.proofs.lemmas.List.Edits.{sets}
use Rattle.spec.specs.Base.{joined, only}
use Rattle.spec.specs.Words.{bytes_of}
use Rattle.spec.specs.Records.{Placed, record_size}
use Rattle.spec.specs.Check.{Given, scan_of, check}
use Rattle.spec.specs.Write.{bytes_of_all, has_tag, section_of, parameters_in, module_order, Writing, put, write_by}
use Rattle.records.specs.Steps.{given}
use Rattle.records.specs.Good.{Good}

-- stores whose log and strings are as long as their counts
abbrev pub full_stores : List ℕ → List ℕ → List ℕ → ℕ → Given
full_stores instructions log strings count = given instructions log strings count (length log) (length strings)

-- they are good
unfoldable pub GoodStores : List ℕ → List ℕ → List ℕ → ℕ → Type 0
GoodStores instructions log strings count = Good (full_stores instructions log strings count)

-- in one way alone
pub good_stores_prop : (instructions log strings : List ℕ) (count : ℕ) → IsProp (GoodStores instructions log strings count)
unfolding GoodStores Good
good_stores_prop instructions log strings count = Coded-set (coded_option coded_ℕ) _ _

-- the instructions that they say
unfoldable pub instrs_of : List ℕ → List ℕ → List ℕ → ℕ → List Placed
instrs_of instructions log strings count = (scan_of record_size (full_stores instructions log strings count)).instrs

-- the instruction at an index
unfoldable pub one_at : List Placed → ℕ → List Placed
one_at is i = take 1 (drop i is)

-- the instructions with a tag
unfoldable pub tagged : ℕ → List Placed → List Placed
tagged t is = only (has_tag t) is

-- a section lies in a range of instructions: it has those with its tag from the first on, and from the end on none has it
pub record Ranged (is : List Placed) (t first end : ℕ) : Type 0 where
  pub opens : section_of t is ≡ tagged t (drop first is)
  pub closes : tagged t (drop end is) ≡ []
  pub order : first ≤ end
  pub within : end ≤ length is

-- each section does, and so do the definitions of functions, by their tags
pub record AllRanged (is : List Placed) (first end : List ℕ) : Type 0 where
  pub each : (t : ℕ) → t < 13 → Ranged is t (get_or first t 0) (get_or end t 0)

-- where a range begins when one more of its tag comes: there, where it is a MemoryModel, of which only the last is written, or the
-- first
unfoldable pub begins_at : ℕ → ℕ → ℕ → ℕ → ℕ
begins_at t i first end = if eqb t 4 || eqb end 0 then i else first

-- what the functions write where an instruction comes first: a definition and its parameters, a block's instruction, or nothing
unfoldable pub function_part : List Placed → List Placed
function_part [] = []
function_part (p ∷ ps) =
    if has_tag 12 p then p ∷ parameters_in ps
    else if leb 14 p.tag then p ∷ []
    else []

-- the instructions in module order or as read
unfoldable pub ordered : Bool → List Placed → List Placed
ordered true is = module_order is
ordered false is = is

-- an output has room at a place for some instructions
pub record Room (out : List ℕ) (at : ℕ) (ps : List Placed) : Type 0 where
  pub room : at + length (bytes_of_all ps) ≤ length out

-- instructions written at a place: the place after them, and the output
pub record Wrote (out : List ℕ) (at : ℕ) (ps : List Placed) (next : ℕ) (after : List ℕ) : Type 0 where
  pub place : next ≡ at + length (bytes_of_all ps)
  pub stored : after ≡ sets out at (bytes_of_all ps)

-- a header and the instructions after it
unfoldable pub order_bytes : Bool → List ℕ → List Placed → List ℕ
order_bytes whole header is = joined bytes_of header ++ bytes_of_all (ordered whole is)

-- bytes written over an output, or 29
unfoldable pub written_over : List ℕ → List ℕ → Writing
written_over out bs = put out bs

-- both writers: 30, 29, or the bytes
unfoldable pub write_order : Bool → List ℕ → Given → List ℕ → Writing
write_order whole header x out = write_by (check record_size whole x) (order_bytes whole header) out
