-- The answers as the words that a caller is lent, what each call answers and leaves, and a store that bytes are put into where they fit.
use Rattle.std.specs.Prelude.{ℕ, ◌/◌, ◌%◌, ◌≡◌, List, [], ◌∷◌, leb, length, get_or, if◌then◌else◌}
use Rattle.spec.specs.declared.Loaded.{Loaded}
use Rattle.spec.specs.declared.Written.{Written}
use Rattle.spec.specs.declared.Stands.{Stands}
use Rattle.spec.specs.declared.Turned.{Turned}
use Rattle.spec.specs.declared.Joined.{Joined}
use Rattle.spec.specs.Words.{AllBytes}
use Rattle.spec.specs.Load.{Stores, stores_of, laid_over, laid_on}
use Rattle.spec.specs.Write.{Writing}
use Rattle.spec.specs.Books.{Turning}
use Rattle.spec.specs.Join.{join}
use Rattle.loader.specs.Loading.{loading}

-- the version of the layouts and calls, raised whenever the layout of a store or an answer, or what a call takes, changes
unfoldable pub version : ℕ
version = 3

-- number, offset, index, value; counts of instructions, log bytes, string bytes, type entries; five header words; 1 for a plain module
-- and 0 for another, the lowest offset that breaks it; 0
unfoldable pub load_answer : Loaded → List ℕ
load_answer x =
    x.number ∷ x.offset ∷ x.index ∷ x.value ∷ x.counts.instructions ∷ x.counts.log ∷ x.counts.strings
    ∷ x.counts.types ∷ get_or x.header 0 0 ∷ get_or x.header 1 0 ∷ get_or x.header 2 0 ∷ get_or x.header 3 0
    ∷ get_or x.header 4 0 ∷ (if x.plain then 1 else 0) ∷ x.breaks ∷ 0 ∷ []

-- what a load of a module by a grammar answers, as its number and in words, and leaves in the stores; and that the module is bytes
pub record LoadAnswers (m g : List ℕ) (before after : Stores) (answer : List ℕ) (r : ℕ) : Type 0 where
  pub number : r ≡ (loading m g before).said.number
  pub words : answer ≡ load_answer (loading m g before).said
  pub stores : after ≡ laid_on before (stores_of (loading m g before))
  pub bytes : AllBytes m

-- number, index, bytes written: the low word, then the high word
unfoldable pub write_answer : Written → List ℕ
write_answer x = x.number ∷ x.index ∷ x.bytes % 4294967296 ∷ x.bytes / 4294967296 ∷ []

-- what a write of which x became answers, as its number and in words, and leaves in the output
pub record WriteAnswers (x : Writing) (out answer : List ℕ) (r : ℕ) : Type 0 where
  pub number : r ≡ x.said.number
  pub words : answer ≡ write_answer x.said
  pub output : out ≡ x.output

-- number, index, 1 for yes and 0 for no, 0
unfoldable pub stand_answer : Stands → List ℕ
stand_answer x = x.number ∷ x.index ∷ (if x.yes then 1 else 0) ∷ 0 ∷ []

-- what is answered of standing, as the number and in words
pub record StandAnswers (x : Stands) (answer : List ℕ) (r : ℕ) : Type 0 where
  pub number : r ≡ x.number
  pub words : answer ≡ stand_answer x

-- number, index, records written, 0
unfoldable pub turn_answer : Turned → List ℕ
turn_answer x = x.number ∷ x.index ∷ x.records ∷ 0 ∷ []

-- what turning a book of which x became answers, as its number and in words, and leaves in the output
pub record TurnAnswers (x : Turning) (out answer : List ℕ) (r : ℕ) : Type 0 where
  pub number : r ≡ x.said.number
  pub words : answer ≡ turn_answer x.said
  pub output : out ≡ x.output

-- number, place, value, bytes written
unfoldable pub join_answer : Joined → List ℕ
join_answer x = x.number ∷ x.place ∷ x.value ∷ x.bytes ∷ []

-- what joining two grammars answers, as its number and in words, and leaves in the output; and that they are bytes
pub record JoinAnswers (a b before after answer : List ℕ) (r : ℕ) : Type 0 where
  pub number : r ≡ (join a b before).said.number
  pub words : answer ≡ join_answer (join a b before).said
  pub output : after ≡ (join a b before).output
  pub bytes : AllBytes a × AllBytes b

-- bytes at the start of a store where they fit, else the store as it was
unfoldable pub laid_in : List ℕ → List ℕ → List ℕ
laid_in store bs = if leb (length bs) (length store) then laid_over store bs else store
