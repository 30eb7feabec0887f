-- Strings: where one ends, how many words it takes, and whether its bytes are UTF-8 (the standard, 2.2.1, Literal).
use Rattle.std.specs.Prelude.{ℕ, zero, suc, ◌+◌, ◌*◌, ◌-◌, ◌/◌, ◌%◌, Bool, true, false, List, [], ◌∷◌, ◌++◌, eqb, length, take, drop, replicate, if◌then◌else◌}
use Rattle.std.specs.Prelude.{Option, None, Some}
use Rattle.spec.specs.Base.{within}

-- WHERE A STRING ENDS

-- a byte before others, where they are there
abbrev pub cons_in : ℕ → Option (List ℕ) → Option (List ℕ)
cons_in x None = None
cons_in x (Some xs) = Some (x ∷ xs)

-- "A string ends at the first zero byte": the bytes before it
unfoldable pub until_zero : List ℕ → Option (List ℕ)
until_zero [] = None
until_zero (b ∷ bs) = let more = until_zero bs in if eqb b 0 then Some [] else cons_in b more

-- "and takes (length / 4, rounded down) + 1 words"
abbrev pub text_words : ℕ → ℕ
text_words n = n / 4 + 1

-- the bytes of those words: the string, its zero, and zeros to the end of the last word
unfoldable pub padded : List ℕ → List ℕ
padded s = s ++ replicate (4 - length s % 4) 0

-- the offset of the first of some bytes that is not zero, where they stand from an offset on; 0 for none
unfoldable pub not_zero : ℕ → List ℕ → ℕ
not_zero at [] = 0
not_zero at (b ∷ bs) =
    let more = not_zero (at + 1) bs in
    if eqb b 0 then more else at

-- "whether every byte present from its zero to the end of its last word is zero": 0 for yes, else the offset of the first that is
-- not, of a string of n bytes that stands at an offset, with all bytes from there on
unfoldable pub text_break : ℕ → ℕ → List ℕ → ℕ
text_break at n rest = not_zero (at + n) (drop n (take (4 * text_words n) rest))

-- UTF-8: "Its bytes must be well-formed UTF-8 by Unicode's table"

-- a row of Unicode's table 3-7: the first byte from, to; how many bytes follow; the range of the second
pub data Utf8Row : Type 0 where
  lead : ℕ → ℕ → ℕ → ℕ → ℕ → Utf8Row

-- the table
abbrev pub utf8_table : List Utf8Row
utf8_table =
    lead 0x00 0x7f 0 0x80 0xbf
    ∷ lead 0xc2 0xdf 1 0x80 0xbf
    ∷ lead 0xe0 0xe0 2 0xa0 0xbf
    ∷ lead 0xe1 0xec 2 0x80 0xbf
    ∷ lead 0xed 0xed 2 0x80 0x9f
    ∷ lead 0xee 0xef 2 0x80 0xbf
    ∷ lead 0xf0 0xf0 3 0x90 0xbf
    ∷ lead 0xf1 0xf3 3 0x80 0xbf
    ∷ lead 0xf4 0xf4 3 0x80 0x8f
    ∷ []

-- what may come next: so many bytes of a character, the first of them in a range
pub data Due : Type 0 where
  due : ℕ → ℕ → ℕ → Due

-- what a first byte asks for, where a row has it
unfoldable pub lead_of : ℕ → List Utf8Row → Option Due
lead_of b [] = None
lead_of b (lead from to n lo hi ∷ rows) =
    let later = lead_of b rows in
    if within from b to then Some (due n lo hi) else later

-- what is due after a byte, or nothing where the byte may not stand here
unfoldable pub due_after : Due → ℕ → Option Due
due_after (due zero lo hi) b = lead_of b utf8_table
due_after (due (suc n) lo hi) b = if within lo b hi then Some (due n 0x80 0xbf) else None

-- go on where a byte may stand
abbrev pub on_due : Option Due → (Due → Bool) → Bool
on_due None f = false
on_due (Some d) f = f d

-- the bytes are well-formed where so much is due
unfoldable pub utf8_from : Due → List ℕ → Bool
utf8_from (due zero lo hi) [] = true
utf8_from (due (suc n) lo hi) [] = false
utf8_from d (b ∷ bs) = on_due (due_after d b) (λ e. utf8_from e bs)

-- the bytes are well-formed UTF-8
unfoldable pub is_utf8 : List ℕ → Bool
is_utf8 bs = utf8_from (due 0 0x80 0xbf) bs
