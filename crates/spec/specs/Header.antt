-- The header: "magic 07230203, version, generator, bound, reserved. The five header words come back together, by value."
use Rattle.std.specs.Prelude.{ℕ, ◌*◌, ◌/◌, List, [], ◌∷◌, ltb, eqb, length, take, if◌then◌else◌}
use Rattle.spec.specs.declared.HeaderRead.{HeaderRead}
use Rattle.spec.specs.Words.{words_of}
use Rattle.spec.specs.Reader.{refusal}

-- no header words
abbrev pub no_words : List ℕ
no_words = 0 ∷ 0 ∷ 0 ∷ 0 ∷ 0 ∷ []

-- 3 where the magic number's bytes are swapped, 2 where it is another
abbrev pub magic_fault : List ℕ → ℕ
magic_fault [] = 2
magic_fault (w ∷ ws) = if eqb w 0x07230203 then 0 else if eqb w 0x03022307 then 3 else 2

-- a header that is refused
abbrev pub no_header : ℕ → ℕ → HeaderRead
no_header n at = record { refusal = refusal n at 0; words = no_words }

-- a header of five words, by its magic number
abbrev pub header_by : List ℕ → HeaderRead
header_by ws = if eqb (magic_fault ws) 0 then record { refusal = refusal 0 0 0; words = ws } else no_header (magic_fault ws) 0

-- the header of some bytes: 1 at "offset of the missing word" comes before 2 and 3
unfoldable pub header_from : List ℕ → HeaderRead
header_from s = if ltb (length s) 20 then no_header 1 (4 * (length s / 4)) else header_by (words_of (take 20 s))
