-- Numbers as text, in decimal and in hexadecimal.
use Rattle.std.specs.Prelude.{ℕ, zero, suc, ◌+◌, ◌/◌, ◌%◌, List, [], ◌∷◌, ◌++◌, ltb, if◌then◌else◌}

-- a number's decimal digits, of which there are at most n
unfoldable pub digits_from : ℕ → ℕ → List ℕ
digits_from zero v = []
digits_from (suc n) v = let more = digits_from n (v / 10) in if ltb v 10 then (48 + v) ∷ [] else more ++ ((48 + v % 10) ∷ [])

-- a number in decimal
unfoldable pub decimal : ℕ → List ℕ
decimal v = digits_from 20 v

-- a hexadecimal digit, a capital letter from ten on
unfoldable pub hex_digit : ℕ → ℕ
hex_digit d = if ltb d 10 then 48 + d else 55 + d

-- the last n hexadecimal digits of a number
unfoldable pub hex_digits : ℕ → ℕ → List ℕ
hex_digits zero v = []
hex_digits (suc n) v = hex_digits n (v / 16) ++ (hex_digit (v % 16) ∷ [])
