-- Last season's books: records of eight words turned into records of ten, and back. "Only the instruction store is turned, into a second
-- buffer"; log, strings and counts are looked at alone.
use Rattle.std.specs.Prelude.{ℕ, suc, ◌+◌, ◌/◌, Bool, false, ◌&&◌, List, [], ◌∷◌, ltb, eqb, length, drop, get_or, if◌then◌else◌}
use Rattle.std.specs.Prelude.{Option, None, Some}
use Rattle.spec.specs.declared.Numbers.{Numbers}
use Rattle.spec.specs.declared.Turned.{Turned}
use Rattle.spec.specs.Base.{joined}
use Rattle.spec.specs.Records.{field_size, field_words, record_size, called_for, numbered}
use Rattle.spec.specs.Load.{laid_over}
use Rattle.spec.specs.Check.{Given, records_in, fault_of}

-- what turning a book comes to: its answer, and the output after it
pub record Turning : Type 0 where
  pub said : Turned
  pub output : List ℕ

-- by a number at the first record at fault, where there is one ("Output unchanged"), or as it goes on
abbrev pub refused_at : ℕ → Option ℕ → List ℕ → Turning → Turning
refused_at n (Some i) out x = record { said = record { number = n; index = i; records = 0 }; output = out }
refused_at n None out x = x

-- "25 for a short output": the first of so many records of a length that does not fit, by "the room in records, plus 1"
unfoldable pub unfit : ℕ → ℕ → List ℕ → Option ℕ
unfit size count out = let room = length out / size in if ltb room count then Some (room + 1) else None

-- so many records' words in an output; past them it stays
abbrev pub turned : ℕ → List ℕ → List ℕ → Turning
turned count ws out = record { said = record { number = 0; index = 0; records = count }; output = laid_over out ws }

-- an old book into a new one: 30, judged as parse order judges it, then 25
unfoldable pub new_book : Given → List ℕ → Turning
new_book x out =
    refused_at 30 (fault_of field_size false x) out
    (refused_at 25 (unfit record_size x.count out) out (turned x.count (numbered (records_in field_size x)) out))

-- are a record's last two words these numbers
abbrev pub has_numbers : List ℕ → Numbers → Bool
has_numbers ws n = eqb (get_or ws 8 0) n.function && eqb (get_or ws 9 0) n.block

-- the first record whose numbers are not those called for, the first of them at an index
unfoldable pub misnumbered : ℕ → List Numbers → List ℕ → Option ℕ
misnumbered index [] ws = None
misnumbered index (n ∷ ns) ws =
    let later = misnumbered (suc index) ns (drop record_size ws) in
    if has_numbers ws n then later else Some index

-- a new book into an old one: 30, "33 at the first record whose added numbers disagree" with those that the tags call for, 25, "in that order"
unfoldable pub old_book : Given → List ℕ → Turning
old_book x out =
    let fs = records_in record_size x in
    refused_at 30 (fault_of record_size false x) out
    (refused_at 33 (misnumbered 1 (called_for fs) x.instructions) out
    (refused_at 25 (unfit field_size x.count out) out (turned x.count (joined field_words fs) out)))
