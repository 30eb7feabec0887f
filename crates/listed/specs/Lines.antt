-- The listing's text in a buffer, piece by piece, and the lines of records by their words.
use Rattle.std.specs.Prelude.{ℕ, zero, suc, ◌%◌, List, [], ◌∷◌, ◌++◌, drop}
use Rattle.spec.specs.declared.Fields.{Fields}
use Rattle.spec.specs.Records.{record_size, fields_at}
use Rattle.spec.specs.Digits.{decimal}
use Rattle.spec.specs.Listing.{numbers_line}

-- a number in decimal, and a byte
unfoldable pub number_then : ℕ → ℕ → List ℕ
number_then v b = decimal v ++ (b ∷ [])

-- "index, offset, tag, opcode, words" of a record's fields
unfoldable pub record_line : ℕ → Fields → List ℕ
record_line index f = numbers_line (index ∷ f.offset ∷ f.tag ∷ f.head % 65536 ∷ f.words ∷ [])

-- the lines of the first n records in some words, the first of them at an index
unfoldable pub lines_of : ℕ → ℕ → List ℕ → List ℕ
lines_of index zero ws = []
lines_of index (suc n) ws = record_line index (fields_at ws) ++ lines_of (suc index) n (drop record_size ws)
