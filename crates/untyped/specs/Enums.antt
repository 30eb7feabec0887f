-- What the read of an enumerant answers.
use Rattle.std.specs.Prelude.{ℕ, ◌≤◌, ◌≡◌, false, List, length}
use Rattle.std.specs.Prelude.{Some}
use Rattle.spec.specs.Kinds.{is_mask}
use Rattle.spec.specs.Grammar.{grammar_of, parameters_for}
use Rattle.spec.specs.Reader.{got, refused}
use Rattle.spec.specs.Match.{known, read_enumerant}
use Rattle.decoder.specs.declared.Decoder.{Decoder}
use Rattle.decoder.specs.Answer.{reader_of}
use Rattle.used.specs.Parse.{Step, parameters_at}
use Rattle.decoder.specs.Answer.{Answered}
use Rattle.std.specs.Prelude.{Err, Ok}

-- a value that is known, with its parameters' kinds, which start at a place of the grammar unless it is a mask
pub record KnownAs (s g : List ℕ) (k : ℕ) (d : Decoder) (v p : ℕ) (e : Decoder) : Type 0 where
  pub parameters : List ℕ
  pub listed : parameters_for k v (grammar_of g) ≡ Some parameters
  pub read : read_enumerant (grammar_of g) k (reader_of s d) ≡ got (known v parameters) (reader_of s e)
  pub step : Step s d e 1
  pub inside : p ≤ length g
  pub place : is_mask k ≡ false → parameters_at g p ≡ parameters

-- what the read of an enumerant answers
unfoldable pub EnumIs : List ℕ → List ℕ → ℕ → Decoder → Answered (ℕ × ℕ) → Type 0
EnumIs s g k d (Ok ((v, p), e)) = KnownAs s g k d v p e
EnumIs s g k d (Err (y, e)) = read_enumerant (grammar_of g) k (reader_of s d) ≡ refused y (reader_of s e)
