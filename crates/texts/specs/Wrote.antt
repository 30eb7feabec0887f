-- A text in a buffer.
use Rattle.std.specs.Prelude.{ℕ, ◌+◌, ◌≡◌, List, length}
use Rattle.std.proofs.lemmas.List.Edits.{sets}

-- a buffer before and after a text is written into it from a place on, and the place where the text ends
pub record Wrote (before after : List ℕ) (at end : ℕ) (text : List ℕ) : Type 0 where
  pub is : after ≡ sets before at text
  pub ends : end ≡ at + length text
