-- What a writer's contract says, once for its answer and the output after it.
use Rattle.std.specs.Prelude.{◌≡◌, List, ℕ}
use Rattle.spec.specs.declared.Written.{Written}
use Rattle.spec.specs.Write.{Writing}

-- an output and an answer are what a writing comes to
pub record Writes (x : Writing) (out : List ℕ) (r : Written) : Type 0 where
  pub said : r ≡ x.said
  pub output : out ≡ x.output
