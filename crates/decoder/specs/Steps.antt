-- What the decoder's inner steps come to.
use Rattle.std.specs.Prelude.{ℕ, List, length, if◌then◌else◌}
use Rattle.std.specs.Prelude.{Option, None, Some, Result, Ok, Err}
use Rattle.spec.specs.Text.{until_zero, is_utf8}
use Rattle.spec.specs.Reader.{less}
use Rattle.decoder.specs.declared.Decoder.{Decoder}
use Rattle.decoder.specs.declared.NoString.{NoString}
use Rattle.decoder.specs.declared.NoString.TheVariants.{NoZero, NotUtf8}
use Rattle.decoder.specs.Answer.{decoder}

-- the same position, and one word less in the limit
unfoldable pub take_one : Decoder → Decoder
take_one d = decoder d.offset (less d.limit 1)

-- where a string ends, by the bytes before the first zero byte
unfoldable pub end_by : Option (List ℕ) → Result ℕ NoString
end_by None = Err NoZero
end_by (Some bs) = if is_utf8 bs then Ok (length bs) else Err NotUtf8

-- where the string at the start of some bytes ends
unfoldable pub end_in : List ℕ → Result ℕ NoString
end_in l = end_by (until_zero l)
