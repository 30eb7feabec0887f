-- What is found of a name.
use Rattle.std.specs.Prelude.{ℕ, ◌-◌, ◌≤◌, List, take, drop}
use Rattle.std.specs.Prelude.{Option, None, Some}

-- the text that was found: the bytes of the run from where it starts to where it ends
unfoldable pub text_found : List ℕ → Option (ℕ × ℕ) → Option (List ℕ)
text_found run (Some (start, end)) = Some (take (end - start) (drop start run))
text_found run None = None

-- it ends within so many bytes, and not before it starts
unfoldable pub Inside : Option (ℕ × ℕ) → ℕ → Type 0
Inside (Some (start, end)) n = (start ≤ end) × (end ≤ n)
Inside None n = Unit
