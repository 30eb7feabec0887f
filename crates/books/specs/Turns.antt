-- What the contract of a call that turns a book says, once for its answer and the output after it.
use Rattle.std.specs.Prelude.{◌≡◌, List, ℕ}
use Rattle.spec.specs.declared.Turned.{Turned}
use Rattle.spec.specs.Books.{Turning}

-- an output and an answer are what turning a book comes to
pub record Turns (x : Turning) (out : List ℕ) (r : Turned) : Type 0 where
  pub said : r ≡ x.said
  pub output : out ≡ x.output
