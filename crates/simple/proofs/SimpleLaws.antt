-- Laws of simple operands: what is taken and passed over, the next word of a limit, and one operand of each sort.
use Prim.Native.Nat.{ℕ, zero, suc, ◌+◌, ◌-◌, ◌≤◌}
use mathlib.Core.Path.{◌≡◌, refl, ap, sym, subst, ◌∙◌}
use mathlib.Core.Bool.{true, false}
use mathlib.Core.List.{List, []}
use Rattle.std.specs.Prelude.{Some}
use native.Mathlib.Omega.{arith}
use borrow.Author.Tests.{ne_eqb}
use lib.ListN.{length, drop}
use Rattle.spec.specs.Base.{every}
use Rattle.spec.specs.Words.{Front, four_at, bits_from, bits_of}
use Rattle.spec.specs.Kinds.{is_enum, is_mask}
use Rattle.spec.specs.Reader.{reached, stream_word, word_at, reader_at}
use Rattle.spec.specs.Grammar.{Grammar, grammar_of, listed, bits_listed, parameters_for}
use Rattle.spec.specs.Match.{read_each, read_operand}
use Rattle.operand.specs.Parts.{parts}
use Rattle.operand.specs.Log.{record_of, Laid}
use Rattle.decoder.specs.declared.Decoder.{Decoder}
use Rattle.decoder.specs.Answer.{decoder, reader_of, limit_reached, word_answer, word_from}
use Rattle.words.proofs.Front.{front_got}
use Rattle.grammar.specs.Find.{Sure, place_found, parameters_found, is_listed}
use Rattle.grammar.specs.Index.{Indexed}
use Rattle.used.specs.declared.used.Used.{Used}
use Rattle.used.specs.Parse.{Pushed, Few, Parses, left_of, is_single, parameters_are, parameters_at}
use Rattle.untyped.specs.Enums.{EnumIs, KnownAs}
use Rattle.simple.specs.Simple.{There, IfTaken}
use Rattle.untyped.proofs.KindLaws.{enum_narrow}
use Rattle.untyped.proofs.One.{held_narrow, few_pushed, spotted_enum, mask_known, value_known}
use Rattle.untyped.proofs.Walk.{same_read, seq, step_went}
use Rattle.untyped.proofs.Carried.{listed_single}
use Rattle.untyped.proofs.Values.{nothing, same_each, same_single, are_known, place_listed, operand_known}
use Rattle.decoder.specs.Answer.{Answered}
use Rattle.std.specs.Prelude.{None, Ok, Option}

-- WHAT IS TAKEN

-- what a limit has left, where there is none
pub left_none : (l : Option ℕ) → l ≡ None → 0 ≡ left_of l
unfolding left_of
left_none l e = rw e refl

-- where there is one
pub left_words : (l : Option ℕ) (n : ℕ) → l ≡ Some n → n ≡ left_of l
unfolding left_of
left_words l n e = rw e refl

module _ (P : Answered Used → Type 0) where
  -- nothing is said of what is passed over
  pub pass : IfTaken P None
  unfolding IfTaken
  pass = tt

  -- what is good is taken
  pub take : (e : Decoder) (n : Used) → P (Ok (n, e)) → IfTaken P (Some (n, e))
  unfolding IfTaken
  take e n h = h

  -- what was taken is good
  pub took : (v : Option (Used × Decoder)) (e : Decoder) (n : Used) → IfTaken P v → v ≡ Some (n, e) → P (Ok (n, e))
  unfolding IfTaken
  took v e n h q = rw q at h

  -- what is said of every answer is said of what was taken of one
  pub take_of : (v : Answered Used) (r : Option (Used × Decoder)) → IfTaken (λ p. v ≡ p) r → P v → IfTaken P r
  unfolding IfTaken
  take_of v (Some (n, e)) h p = subst P h p
  take_of v None h p = tt

  -- what follows from what is said of an answer
  pub take_so : (Q : Answered Used → Type 0) → ((p : Answered Used) → Q p → P p) → (r : Option (Used × Decoder)) → IfTaken Q r → IfTaken P r
  unfolding IfTaken
  take_so Q f (Some (n, e)) h = f (Ok (n, e)) h
  take_so Q f None h = tt

-- what is good is taken, with its limit
pub take_good : (v : Answered Used) (e : Decoder) (n : Used) (m : ℕ) → v ≡ Ok (n, e) → e.limit ≡ Some m → IfTaken (λ p. v ≡ p) (Some (n, decoder e.offset (Some m)))
unfolding IfTaken
take_good v e n m p q = p ∙ ap (λ (l : Option ℕ). Ok (n, decoder e.offset l)) q

-- THE NEXT WORD

-- a word that is there is what the decoder gives
next_by : (s : List ℕ) (at : ℕ) (l : Option ℕ) (w n : ℕ) → 1 ≤ left_of l → at + 4 ≤ length s → w ≡ four_at at s → n ≡ left_of l
    → Ok (w, decoder (at + 4) (Some (n - 1))) ≡ word_from s (decoder at l)
unfolding left_of word_from word_answer reader_of reader_at word_at
next_by s at None w n h i e f = absurd (omega arith)
next_by s at (Some zero) w n h i e f = absurd (omega arith)
next_by s at (Some (suc m)) w n h i e f =
    let p : n - 1 ≡ m = omega arith in
    ap (λ (v : ℕ). Ok (v, decoder (at + 4) (Some (n - 1)))) e ∙ ap (λ (k : ℕ). Ok (four_at at s, decoder (at + 4) (Some k))) p
    ∙ ap (λ (y : Front). word_answer (stream_word at (Some m) (drop at s) y)) (sym (front_got s at i))

-- a limit with a word left is not reached
left_by : (l : Option ℕ) → 1 ≤ left_of l → reached l ≡ false
unfolding left_of
left_by None h = refl
left_by (Some n) h = ne_eqb n 0 (λ e. omega arith)

module _ (s : List ℕ) (d : Decoder) (h : There s d) where
  -- four bytes are there
  there_four : d.offset + 4 ≤ length s
  there_four = omega (arith, h.left, h.inside)

  -- so the word is
  pub next_there : (w n : ℕ) → w ≡ four_at d.offset s → n ≡ left_of d.limit → Ok (w, decoder (d.offset + 4) (Some (n - 1))) ≡ word_from s d
  next_there w n e f = next_by s d.offset d.limit w n h.left there_four e f

  -- and the limit is not reached
  there_left : limit_reached d ≡ false
  unfolding limit_reached
  there_left = left_by d.limit h.left

-- VALUES

-- a mask of no bits is known, with no parameters
mask_zero : (k : ℕ) (g : Grammar) → is_mask k ≡ true → parameters_for k 0 g ≡ Some []
unfolding parameters_for bits_of bits_from bits_listed
mask_zero k g m = simp m

-- so no parameters follow it
pub zero_none : (k : ℕ) (g : Grammar) → is_mask k ≡ true → parameters_are k 0 g ≡ []
zero_none k g m = sym (are_known k 0 g [] (mask_zero k g m))

-- what was found is sure
found_sure : (f : Option ℕ) (p : ℕ) → f ≡ Some p → Sure f
unfolding Sure
found_sure f p e = rw e tt

module _ (s g : List ℕ) (k : ℕ) (d : Decoder) (t : There s d) (w : ℕ) (e : Decoder) (h : Ok (w, e) ≡ word_from s d) where
  -- a mask of no bits is known
  pub known_zero : is_mask k ≡ true → w ≡ 0 → KnownAs s g k d 0 (length g) e
  unfolding EnumIs is_listed
  known_zero m z =
      mask_known s g k d false (sym (there_left s d t)) refl 0 e (ap (λ (v : ℕ). Ok (v, e)) (sym z) ∙ h) true true (sym m) refl
      (sym (ap is_listed (mask_zero k (grammar_of g) m))) refl

  -- another value is, where it was found
  pub known_found : is_mask k ≡ false → (f : Option ℕ) (p : ℕ) → (Sure f → parameters_found g f ≡ listed k w (grammar_of g).enumerants) → place_found f ≤ length g
      → f ≡ Some p → KnownAs s g k d w p e
  unfolding EnumIs
  known_found m f p i l q =
      value_known s g k d false (sym (there_left s d t)) refl w e h false (sym m) refl f (i (found_sure f p q)) p q l

module _ {s g : List ℕ} {d e : Decoder} {k w p : ℕ} (a : KnownAs s g k d w p e) where
  -- its parameters are each one record
  pub known_single : (index : List ℕ) → Indexed g index → is_mask k ≡ false → every is_single (parameters_at g p) ≡ true
  known_single index i m = same_single _ _ (listed_single g index i k w) (sym (place_listed s g k d w p e a m))

  module _ {u n : Used} (f : Few s d u) (q : Pushed k w u n) where
    -- little is in use after it
    pub known_few : Few s e n
    known_few = few_pushed s d e u n 1 k w f a.step (omega arith) q

    module _ (l t l₁ : List ℕ) (i : is_enum k ≡ true) (x : Laid l u.log (record_of (parts k w)) l₁) (b : n.breaks ≡ u.breaks) where
      -- it is held, and its parameters are read then
      value_then : (l₂ t₂ : List ℕ) (v : Answered Used) → Parses s e 0 (read_each (grammar_of g) (parameters_are k w (grammar_of g)) (reader_of s e)) l₁ t l₂ t₂ n v
          → Parses s d 4 (read_operand (grammar_of g) k (reader_of s d)) l t l₂ t₂ u v
      value_then l₂ t₂ v r =
          seq (held_narrow l t l₁ u n k w (enum_narrow k i) q x) s 0 l₂ t₂ _ _
          (step_went s d e 1 a.step f.left f.limited) (spotted_enum s d e u n k w a.step i b) (operand_known s g k d (is_enum k) refl i w p e a) v r

      -- it has none
      pub value_alone : parameters_are k w (grammar_of g) ≡ [] → IfTaken (Parses s d 4 (read_operand (grammar_of g) k (reader_of s d)) l t l₁ t u) (Some (n, e))
      value_alone z = take _ e n (value_then l₁ t (Ok (n, e)) (nothing s (grammar_of g) l₁ t e n _ known_few z))

      module _ (m : is_mask k ≡ false) where
        -- its parameters are those at its place
        are_at : parameters_are k w (grammar_of g) ≡ parameters_at g p
        are_at = sym (a.place m ∙ are_known k w (grammar_of g) a.parameters a.listed)

        -- none start at its place
        pub value_end : parameters_at g p ≡ [] → IfTaken (Parses s d 4 (read_operand (grammar_of g) k (reader_of s d)) l t l₁ t u) (Some (n, e))
        value_end z = value_alone (are_at ∙ z)

        -- those that do were parsed
        pub value_parsed : (l₂ t₂ : List ℕ) (v : Answered Used) (r : Option (Used × Decoder))
            → Parses s e 0 (read_each (grammar_of g) (parameters_at g p) (reader_of s e)) l₁ t l₂ t₂ n v → IfTaken (λ p. v ≡ p) r
            → IfTaken (Parses s d 4 (read_operand (grammar_of g) k (reader_of s d)) l t l₂ t₂ u) r
        value_parsed l₂ t₂ v r y z =
            take_of _ v r z
            (value_then l₂ t₂ v (same_read s e 0 _ _ l₁ t l₂ t₂ n v (same_each (grammar_of g) _ _ (reader_of s e) are_at) y))
