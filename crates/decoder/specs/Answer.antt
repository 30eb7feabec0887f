-- The decoder's answers: what the reader of `spec` comes to, started at the decoder's position with its limit.
use Rattle.std.specs.Prelude.{ℕ, Bool, true, false, List, length, drop}
use Rattle.spec.specs.Text.{text_break}
use Rattle.spec.specs.Reader.{Reader, Read, got, refused, reached, read_word, read_long, reader_at, read_text_at}
use Rattle.decoder.specs.declared.Decoder.{Decoder}
use Rattle.spec.specs.declared.Refusal.{Refusal}
use Rattle.decoder.specs.declared.Text.{Text}
use Rattle.std.specs.Prelude.{Option, None, Some, Result, Ok, Err}

-- a decoder by its two parts
abbrev pub decoder : ℕ → Option ℕ → Decoder
decoder at l = record { offset = at; limit = l }

-- the reader that a decoder is over some bytes
unfoldable pub reader_of : List ℕ → Decoder → Reader
reader_of s d = reader_at s d.offset d.limit

-- the decoder of a reader
abbrev pub decoder_of : Reader → Decoder
decoder_of r = decoder r.at r.limit

-- THE LIMIT

-- the same position, and so many words at most
unfoldable pub set_limit : ℕ → Decoder → Decoder
set_limit n d = decoder d.offset (Some n)

-- the same position, and no limit
unfoldable pub clear_limit : Decoder → Decoder
clear_limit d = decoder d.offset None

-- is there a limit
abbrev pub limited : Option ℕ → Bool
limited None = false
limited (Some n) = true

-- whether a decoder has a limit
unfoldable pub has_limit : Decoder → Bool
has_limit d = limited d.limit

-- whether a decoder's limit is there and reached
unfoldable pub limit_reached : Decoder → Bool
limit_reached d = reached d.limit

-- WORDS AND STRINGS

-- a value, or a refusal; each with the decoder after it
abbrev pub Answered : Type 0 → Type 0
Answered A = Result (A × Decoder) (Refusal × Decoder)

-- a word's answer
unfoldable pub word_answer : Read ℕ → Answered ℕ
word_answer (got w r) = Ok (w, decoder_of r)
word_answer (refused x r) = Err (x, decoder_of r)

-- a word
unfoldable pub word_from : List ℕ → Decoder → Answered ℕ
word_from s d = word_answer (read_word (reader_of s d))

-- a 64-bit literal's answer
unfoldable pub long_answer : Read ℕ → Answered ℕ
long_answer (got v r) = Ok (v, decoder_of r)
long_answer (refused x r) = Err (x, decoder_of r)

-- a 64-bit literal
unfoldable pub long_from : List ℕ → Decoder → Answered ℕ
long_from s d = long_answer (read_long (reader_of s d))

-- a string's answer, where all bytes from it on are these: where it starts, how long it is, whether each byte from its zero to the end
-- of its last word is zero (else where the first is that is not), and the decoder after it
unfoldable pub text_answer : ℕ → List ℕ → Read (List ℕ) → Answered Text
text_answer at rest (got bs r) =
    Ok (record { start = at; length = length bs; breaks = text_break at (length bs) rest }, decoder_of r)
text_answer at rest (refused x r) = Err (x, decoder_of r)

-- a string
unfoldable pub text_from : List ℕ → Decoder → Answered Text
text_from s d = text_answer d.offset (drop d.offset s) (read_text_at s d.offset d.limit)
