-- An enumerant's word, read with a decoder and any grammar.
use Rattle.std.specs.Prelude.{ℕ, List, if◌then◌else◌}
use Rattle.spec.specs.Reader.{◌into◌, refusal}
use Rattle.spec.specs.Grammar.{grammar_of, well_formed}
use Rattle.spec.specs.Match.{read_enumerant, value_of}
use Rattle.decoder.specs.declared.Decoder.{Decoder}
use Rattle.decoder.specs.Answer.{reader_of, word_answer}
use Rattle.decoder.specs.Answer.{Answered}
use Rattle.std.specs.Prelude.{Err}

-- an enumerant's word, where the grammar is well-formed; else 24
unfoldable pub enumerant_from : List ℕ → List ℕ → ℕ → Decoder → Answered ℕ
enumerant_from g s k d =
    if well_formed g then word_answer ((read_enumerant (grammar_of g) k into value_of) (reader_of s d))
    else Err (refusal 24 0 0, d)
