-- Where the first zero byte of some bytes is.
use Rattle.std.specs.Prelude.{ℕ, List, Option, length, option_map}
use Rattle.spec.specs.Text.{until_zero}

-- the place of the first zero byte: after the bytes before it
unfoldable pub zero_in : List ℕ → Option ℕ
zero_in s = option_map length (until_zero s)
