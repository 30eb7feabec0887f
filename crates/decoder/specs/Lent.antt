-- The decoder lent: an answer without its decoder, the decoder that is left in place, and both put together again.
use Rattle.std.specs.Prelude.{ℕ, List, Result, Ok, Err}
use Rattle.spec.specs.declared.Refusal.{Refusal}
use Rattle.decoder.specs.declared.Decoder.{Decoder}
use Rattle.decoder.specs.declared.Text.{Text}
use Rattle.decoder.specs.declared.lent.Pair.{Pair}
use Rattle.decoder.specs.Answer.{Answered, word_from, text_from}

-- an answer without the decoder
unfoldable pub given : {A : Type 0} → Answered A → Result A Refusal
given (Ok (v, d)) = Ok v
given (Err (x, d)) = Err x

-- the decoder after an answer
unfoldable pub next : {A : Type 0} → Answered A → Decoder
next (Ok (v, d)) = d
next (Err (x, d)) = d

-- what is given, with the decoder after it
unfoldable pub answer_of : {A : Type 0} → Result A Refusal → Decoder → Answered A
answer_of (Ok v) d = Ok (v, d)
answer_of (Err x) d = Err (x, d)

-- both answers, and the place of the decoder after them
unfoldable pub pair_of : Answered ℕ → Answered Text → Pair
pair_of w t = record { word = given w; text = given t; next = (next t).offset }

-- a word, or its refusal, and the string after it
unfoldable pub pair_from : List ℕ → Decoder → Pair
pair_from s d = let w = word_from s d in pair_of w (text_from s (next w))
