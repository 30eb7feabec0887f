-- Words: four bytes, low byte first (the standard, 3.1: the magic number tells the order of bytes; here it is low byte first).
use Rattle.std.specs.Prelude.{ℕ, zero, suc, ◌+◌, ◌*◌, ◌/◌, ◌%◌, ◌<◌, List, [], ◌∷◌, eqb, get_or, if◌then◌else◌}

-- each number is a byte, as every slice of bytes has it
abbrev pub AllBytes : List ℕ → Type 0
AllBytes [] = Unit
AllBytes (b ∷ bs) = (b < 256) × AllBytes bs

-- "A word is four bytes, low byte first."
abbrev pub four : ℕ → ℕ → ℕ → ℕ → ℕ
four a b c d = a + 256 * b + 65536 * c + 16777216 * d

-- the number in the four bytes from a place on
abbrev pub four_at : ℕ → List ℕ → ℕ
four_at i l = four (get_or l i 0) (get_or l (i + 1) 0) (get_or l (i + 2) 0) (get_or l (i + 3) 0)

-- the four bytes of a word
unfoldable pub bytes_of : ℕ → List ℕ
bytes_of w = (w % 256) ∷ (w / 256 % 256) ∷ (w / 65536 % 256) ∷ (w / 16777216 % 256) ∷ []

-- the first word of some bytes and the bytes after it, or too few bytes for a word
pub data Front : Type 0 where
  short : Front
  front : ℕ → List ℕ → Front

-- the first word, where there are four bytes
unfoldable pub front_of : List ℕ → Front
front_of (a ∷ b ∷ c ∷ d ∷ r) = front (four a b c d) r
front_of [] = short
front_of (a ∷ []) = short
front_of (a ∷ b ∷ []) = short
front_of (a ∷ b ∷ c ∷ []) = short

-- the whole words of some bytes; a tail of one to three bytes is ignored
unfoldable pub words_of : List ℕ → List ℕ
words_of (a ∷ b ∷ c ∷ d ∷ r) = four a b c d ∷ words_of r
words_of [] = []
words_of (a ∷ []) = []
words_of (a ∷ b ∷ []) = []
words_of (a ∷ b ∷ c ∷ []) = []

-- "A 64-bit literal is two words, low first" (the standard, 2.2.1, Literal)
abbrev pub long : ℕ → ℕ → ℕ
long low high = low + 4294967296 * high

-- "Major and minor are bits 16 to 23 and 8 to 15 of word 1" (the standard, 2.3)
abbrev pub major : ℕ → ℕ
major version = version / 65536 % 256

-- minor: bits 8 to 15
abbrev pub minor : ℕ → ℕ
minor version = version / 256 % 256

-- the values of the bits that are set, lowest first: of the next n bits of v, whose lowest is worth b
unfoldable pub bits_from : ℕ → ℕ → ℕ → List ℕ
bits_from zero b v = []
bits_from (suc n) b v =
    let more = bits_from n (2 * b) (v / 2) in
    if eqb (v % 2) 1 then b ∷ more else more

-- the bits of a word that are set, each as its value, lowest first
unfoldable pub bits_of : ℕ → List ℕ
bits_of v = bits_from 32 1 v
