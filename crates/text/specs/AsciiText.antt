-- ASCII text.
use Rattle.std.specs.Prelude.{ℕ, Bool, ◌&&◌, List, leb, ltb}
use Rattle.spec.specs.Base.{every}

-- ASCII text: each of ASCII, and none zero
unfoldable pub is_ascii_text : List ℕ → Bool
is_ascii_text s = every (λ b. leb 1 b && ltb b 128) s
