-- Simple operands: read as the others are, or passed over.
use Rattle.std.specs.Prelude.{ℕ, ◌+◌, ◌*◌, ◌≤◌, List, length}
use Rattle.decoder.specs.declared.Decoder.{Decoder}
use Rattle.used.specs.Parse.{left_of}
use Rattle.decoder.specs.Answer.{Answered}
use Rattle.std.specs.Prelude.{None, Ok, Option, Some}
use Rattle.used.specs.declared.used.Used.{Used}

-- the limit has a word left, and its words are there
pub record There (s : List ℕ) (d : Decoder) : Type 0 where
  pub left : 1 ≤ left_of d.limit
  pub inside : d.offset + 4 * left_of d.limit ≤ length s

-- what is said of an answer that is good, where it is not passed over
unfoldable pub IfTaken : ((Answered Used) → Type 0) → Option (Used × Decoder) → Type 0
IfTaken P (Some (n, e)) = P (Ok (n, e))
IfTaken P None = Unit
