-- Laws of literals: the read of one of a kind, and of a pair.
use Prim.Native.Nat.{ℕ}
use mathlib.Core.Path.{◌≡◌, refl, ap}
use mathlib.Core.Bool.{true}
use mathlib.Core.List.{List, [], ◌∷◌}
use Rattle.std.specs.Prelude.{Option}
use Rattle.spec.specs.declared.Refusal.{Refusal}
use Rattle.spec.specs.Kinds.{is_long}
use Rattle.spec.specs.Records.{Operand, narrow, wide}
use Rattle.spec.specs.Reader.{Reader, Read, got, refused, after, give, refusal, read_word, read_long, reader_at}
use Rattle.spec.specs.Grammar.{Grammar}
use Rattle.spec.specs.Match.{read_one, read_each, read_literal_as}
use Rattle.decoder.specs.declared.Decoder.{Decoder}
use Rattle.decoder.specs.Answer.{reader_of, long_from}
use Rattle.decoder.proofs.Laws.{long_got, long_refused}
use Rattle.used.specs.Parse.{prefix, is_word, literal_alone, pair_alone}
use Rattle.untyped.proofs.KindLaws.{word_short, word_no_enum, word_no_text}
use Rattle.std.specs.Prelude.{Err, None, Ok, Some}

-- THE READ

module _ (s : List ℕ) (d : Decoder) (o : Option ℕ) where
  -- a width that is not supported
  pub literal_none : o ≡ None → literal_alone o (reader_of s d) ≡ refused (refusal 12 d.offset 0) (reader_of s d)
  unfolding literal_alone read_literal_as reader_of reader_at
  literal_none e = rw e

  module _ (k : ℕ) (q : o ≡ Some k) where
    -- one word
    pub literal_one : (g : Grammar) → is_word k ≡ true → literal_alone o (reader_of s d) ≡ read_each g (k ∷ []) (reader_of s d)
    unfolding literal_alone read_literal_as read_each read_one is_word
    literal_one g h = rw q (simp (word_short k h, word_no_enum k h, word_no_text k h))

    module _ (l : is_long k ≡ true) where
      literal_long : (y : Read ℕ) → read_long (reader_of s d) ≡ y
          → literal_alone o (reader_of s d) ≡ after (after y (λ v. give (wide k v))) (λ x. give (x ∷ []))
      unfolding literal_alone read_literal_as
      literal_long y h = rw q (simp l (ap (λ (m : Read ℕ). after (after m (λ v. give (wide k v))) (λ x. give (x ∷ []))) h))

      -- two words
      pub long_good : (w : ℕ) (e : Decoder) → Ok (w, e) ≡ long_from s d → literal_alone o (reader_of s d) ≡ got (wide k w ∷ []) (reader_of s e)
      long_good w e h = literal_long _ (long_got s d e w h).reads

      -- no two words
      pub long_bad : (x : Refusal) (e : Decoder) → Err (x, e) ≡ long_from s d → literal_alone o (reader_of s d) ≡ refused x (reader_of s e)
      long_bad x e h = literal_long _ (long_refused s d e x h)

-- PAIRS

pair_word : (o : Operand) (y : Read ℕ)
    → after y (λ w. give (o ∷ narrow 33 w ∷ [])) ≡ prefix (o ∷ []) (after (after y (λ w. give (narrow 33 w))) (λ x. give (x ∷ [])))
unfolding prefix
pair_word o (got w r) = refl
pair_word o (refused x r) = refl

pair_by : (g : Grammar) (m : Read Operand)
    → after m (λ o r. after (read_word r) (λ w. give (o ∷ narrow 33 w ∷ []))) ≡ after (after m (λ o. give (o ∷ []))) (λ os q. prefix os (read_each g (33 ∷ []) q))
unfolding read_each read_one
pair_by g (got o r) = pair_word o (read_word r)
pair_by g (refused x r) = refl

-- a literal, then an id
pub pair_is : (g : Grammar) (k : Option ℕ) (r : Reader) → pair_alone k r ≡ after (literal_alone k r) (λ os q. prefix os (read_each g (33 ∷ []) q))
unfolding pair_alone literal_alone
pair_is g k r = pair_by g (read_literal_as k r)
