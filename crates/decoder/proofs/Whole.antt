-- The readers that are lent: what one of them answers and the decoder after it are the whole answer again.
use Rattle.std.proofs.Common.{◌≡◌, refl}
use Rattle.std.specs.Prelude.{Ok, Err}
use Rattle.decoder.specs.Answer.{Answered}
use Rattle.decoder.specs.Lent.{given, next, answer_of}

pub whole : {A : Type 0} (r : Answered A) → answer_of (given r) (next r) ≡ r
unfolding answer_of given next
whole (Ok (v, d)) = refl
whole (Err (x, d)) = refl
