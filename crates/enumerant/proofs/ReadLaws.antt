-- An enumerant's word, by the way that it is read.
use mathlib.Core.Path.{◌≡◌, refl, sym, ap, ◌∙◌}
use mathlib.Core.Bool.{true, false}
use mathlib.Core.List.{List}
use Rattle.std.specs.Prelude.{Option, None, Some}
use Prim.Native.Nat.{ℕ}
use native.Mathlib.Omega.{arith}
use Rattle.spec.specs.Reader.{Read, after, give, read_word, reader_at, refusal}
use Rattle.spec.specs.declared.Refusal.{Refusal}
use Rattle.spec.specs.Grammar.{Grammar, grammar_of, parameters_for, well_formed}
use Rattle.spec.specs.Match.{known_or, value_of, read_enumerant}
use Rattle.decoder.specs.declared.Decoder.{Decoder}
use Rattle.decoder.specs.Answer.{reader_of, limit_reached, word_answer, word_from}
use Rattle.decoder.proofs.Laws.{word_got, word_refused}
use Rattle.grammar.specs.Find.{is_listed}
use Rattle.enumerant.specs.Read.{enumerant_from}
use Rattle.decoder.specs.Answer.{Answered}
use Rattle.std.specs.Prelude.{Err, Ok}

-- what a word that is read comes to
abbrev with_word : Grammar → ℕ → ℕ → Read ℕ → Answered ℕ
with_word g k at y = word_answer (after (after y (λ v. known_or at v (parameters_for k v g))) (λ x. give (value_of x)))

-- a value that is listed
listed_word : (s : List ℕ) (at v : ℕ) (e : Decoder) (o : Option (List ℕ)) → is_listed o ≡ true → word_answer (after (known_or at v o (reader_of s e)) (λ x. give (value_of x))) ≡ Ok (v, e)
unfolding is_listed word_answer reader_of reader_at
listed_word s at v e None h = let z : ◌≡◌ {A = ℕ} 0 1 = cc in absurd (omega arith)
listed_word s at v e (Some ps) h = refl

-- a value that is not
unlisted_word : (s : List ℕ) (at v : ℕ) (e : Decoder) (o : Option (List ℕ)) → is_listed o ≡ false → word_answer (after (known_or at v o (reader_of s e)) (λ x. give (value_of x))) ≡ Err (refusal 10 at v, e)
unfolding is_listed word_answer reader_of reader_at
unlisted_word s at v e None h = refl
unlisted_word s at v e (Some ps) h = let z : ◌≡◌ {A = ℕ} 0 1 = cc in absurd (omega arith)

module _ (g s : List ℕ) (k : ℕ) (d : Decoder) where
  -- a grammar that is not well-formed
  pub read_ill : well_formed g ≡ false → Err (refusal 24 0 0, d) ≡ enumerant_from g s k d
  unfolding enumerant_from
  read_ill w = rw w

  module _ (w : well_formed g ≡ true) where
    -- a spent limit
    pub read_spent : limit_reached d ≡ true → Err (refusal 9 d.offset 0, d) ≡ enumerant_from g s k d
    unfolding enumerant_from read_enumerant reader_of reader_at limit_reached word_answer
    read_spent l = rw (w, l)

    module _ (l : limit_reached d ≡ false) where
      -- words are left: it goes by the word
      read_word_lem : enumerant_from g s k d ≡ with_word (grammar_of g) k d.offset (read_word (reader_of s d))
      unfolding enumerant_from read_enumerant reader_of reader_at limit_reached
      read_word_lem = rw (w, l)

      -- no word
      pub read_none : (x : Refusal) (e : Decoder) → Err (x, e) ≡ word_from s d → Err (x, e) ≡ enumerant_from g s k d
      unfolding word_answer reader_of reader_at
      read_none x e h = sym (read_word_lem ∙ ap (with_word (grammar_of g) k d.offset) (word_refused s d e x h))

      module _ (v : ℕ) (e : Decoder) (h : Ok (v, e) ≡ word_from s d) where
        -- a word that is known
        pub read_known : is_listed (parameters_for k v (grammar_of g)) ≡ true → Ok (v, e) ≡ enumerant_from g s k d
        read_known t =
            sym (read_word_lem ∙ ap (with_word (grammar_of g) k d.offset) (word_got s d e v h).reads
            ∙ listed_word s d.offset v e (parameters_for k v (grammar_of g)) t)

        -- a word that is not
        pub read_unknown : is_listed (parameters_for k v (grammar_of g)) ≡ false → Err (refusal 10 d.offset v, e) ≡ enumerant_from g s k d
        read_unknown t =
            sym (read_word_lem ∙ ap (with_word (grammar_of g) k d.offset) (word_got s d e v h).reads
            ∙ unlisted_word s d.offset v e (parameters_for k v (grammar_of g)) t)
