-- Laws of one record: what a kind's read comes to, for each answer of the calls, and what is held then.
use Prim.Native.Nat.{ℕ, ◌+◌, ◌*◌, ◌/◌, ◌%◌, ◌<◌, ◌≤◌}
use mathlib.Core.Path.{◌≡◌, refl, ap, sym, ◌∙◌}
use mathlib.Core.Bool.{Bool, true, false, not}
use mathlib.Core.List.{List, [], ◌∷◌, ◌++◌, append-nil}
use Rattle.std.specs.Prelude.{Option, None, Some}
use native.Mathlib.Omega.{arith}
use native.Mathlib.Nat.{add-zero}
use borrow.Author.Tests.{ne_eqb, ltb-false, not-true}
use lib.Dec.{ltb, eqb}
use lib.ListN.{length, drop, length-drop}
use lib.Seq.{slice, length-slice, get_or-drop}
use Rattle.spec.specs.declared.Refusal.{Refusal}
use Rattle.std.specs.Prelude.{if◌then◌else◌}
use Rattle.spec.specs.Words.{bytes_of, four_at}
use Rattle.spec.specs.Text.{text_words, text_break}
use Rattle.spec.specs.Kinds.{is_enum, is_mask, is_logged, is_long}
use Rattle.spec.specs.Records.{narrow, wide, text, operand_size, operand_log, operands_log, operand_string, operands_strings, long_bytes}
use Rattle.spec.specs.Reader.{Reader, Read, got, refused, after, give, refusal, reached, read_word, read_text, limit_past, reader_at}
use Rattle.spec.specs.Grammar.{Grammar, grammar_of, listed, parameters_for}
use Rattle.spec.specs.Match.{Known, known_or, value_of, read_enumerant, read_one, read_each}
use Rattle.spec.specs.Plain.{first_break, operand_break}
use Rattle.spec.proofs.Choice.{right}
use Rattle.spec.proofs.Breaks.{first_last}
use Rattle.operand.specs.Parts.{parts, is_two, Fits}
use Rattle.operand.specs.Log.{record_by, record_of, length_by, record_length, Laid}
use Rattle.operand.proofs.LogLaws.{length_range, laid_nil}
use Rattle.decoder.specs.declared.Decoder.{Decoder}
use Rattle.decoder.specs.declared.Text.{Text}
use Rattle.decoder.specs.Answer.{reader_of, limit_reached, word_from, long_from, text_from}
use Rattle.decoder.proofs.Laws.{word_got, word_refused, long_got, text_got, text_refused, text_within}
use Rattle.grammar.specs.Find.{place_found, parameters_found, is_listed}
use Rattle.tracker.specs.Track.{literal_of}
use Rattle.used.specs.declared.used.Used.{Used}
use Rattle.used.specs.Parse.{id_ref_of, notes_of, note_as, note, notes, Pushed, Copied, Step, Went, Few, Held, Spotted, Parses, is_word, or_none, parameters_at}
use Rattle.untyped.specs.Enums.{KnownAs, EnumIs}
use Rattle.untyped.proofs.KindLaws.{is_narrow, not_kind, word_no_enum, word_no_text, word_narrow, word_other, enum_narrow}
use Rattle.untyped.proofs.Walk.{accept, step_few, step_went, spotted_one, laid_as}
use Rattle.decoder.specs.Answer.{Answered}
use Rattle.std.specs.Prelude.{Err, Ok}

-- HOW FAR

-- a word
pub step_word : (s : List ℕ) (d e : Decoder) (w : ℕ) → Ok (w, e) ≡ word_from s d → Step s d e 1
step_word s d e w h =
    let g = word_got s d e w h in
    record { next = g.took.next; inside = omega (arith, g.inside, g.took.next); counted = g.took.counted }

-- ENUMERANTS

module _ (s g : List ℕ) (k : ℕ) (d : Decoder) (b : Bool) (p : b ≡ limit_reached d) where
  told : (t : Bool) → b ≡ t → reached d.limit ≡ t
  unfolding limit_reached
  told t q = sym p ∙ q

  -- on a spent limit the number is 9
  pub enum_spent : (v : Answered (ℕ × ℕ)) → b ≡ true → v ≡ Err (refusal 9 d.offset 0, d) → EnumIs s g k d v
  unfolding EnumIs read_enumerant reader_of reader_at
  enum_spent v q e = rw e (simp (told true q))

  enum_on : b ≡ false → read_enumerant (grammar_of g) k (reader_of s d) ≡ after (read_word (reader_of s d)) (λ v. known_or d.offset v (parameters_for k v (grammar_of g)))
  unfolding read_enumerant reader_of reader_at
  enum_on q = simp (told false q)

  module _ (q : b ≡ false) where
    -- no word
    pub enum_unread : (x : Refusal) (e : Decoder) → Err (x, e) ≡ word_from s d → EnumIs s g k d (Err (x, e))
    unfolding EnumIs
    enum_unread x e h = enum_on q ∙ ap (λ (y : Read ℕ). after y (λ v. known_or d.offset v (parameters_for k v (grammar_of g)))) (word_refused s d e x h)

    module _ (w : ℕ) (e : Decoder) (h : Ok (w, e) ≡ word_from s d) where
      looked : (o : Option (List ℕ)) → parameters_for k w (grammar_of g) ≡ o → read_enumerant (grammar_of g) k (reader_of s d) ≡ known_or d.offset w o (reader_of s e)
      looked o l =
          enum_on q ∙ ap (λ (y : Read ℕ). after y (λ v. known_or d.offset v (parameters_for k v (grammar_of g)))) (word_got s d e w h).reads
          ∙ ap (λ (z : Option (List ℕ)). known_or d.offset w z (reader_of s e)) l

      -- the value is known, and its parameters start at a place unless it is a mask
      enum_known : (o : Option (List ℕ)) → parameters_for k w (grammar_of g) ≡ o → is_listed o ≡ true → (n : ℕ) → n ≤ length g
          → (is_mask k ≡ false → parameters_found g (Some n) ≡ o) → EnumIs s g k d (Ok ((w, n), e))
      unfolding EnumIs is_listed parameters_found parameters_at or_none
      enum_known None l t n i f = let z : ◌≡◌ {A = ℕ} 0 1 = cc in absurd (omega arith)
      enum_known (Some ps) l t n i f = record {
        parameters = ps;
        listed = l;
        read = looked (Some ps) l;
        step = step_word s d e w h;
        inside = i;
        place = λ m. ap or_none (f m);
      }

      -- it is not
      pub enum_unknown : (o : Option (List ℕ)) → parameters_for k w (grammar_of g) ≡ o → is_listed o ≡ false → (v : Answered (ℕ × ℕ))
          → v ≡ Err (refusal 10 d.offset w, e) → EnumIs s g k d v
      unfolding EnumIs is_listed
      enum_unknown None l t v r = rw r (looked None l)
      enum_unknown (Some ps) l t v r = let z : ◌≡◌ {A = ℕ} 0 1 = cc in absurd (omega arith)

      -- a mask that is known
      pub mask_known : (m t : Bool) → m ≡ is_mask k → m ≡ true → t ≡ is_listed (parameters_for k w (grammar_of g)) → t ≡ true
          → EnumIs s g k d (Ok ((w, length g), e))
      mask_known m t a c f i =
          enum_known (parameters_for k w (grammar_of g)) refl (sym f ∙ i) (length g) (omega arith) (λ n.
          let y : true ≡ false = sym c ∙ a ∙ n in
          let z : ◌≡◌ {A = ℕ} 0 1 = cc in
          absurd (omega arith))

      -- another value, as it was looked up
      module _ (m : Bool) (a : m ≡ is_mask k) (c : m ≡ false) (f : Option ℕ) (i : parameters_found g f ≡ listed k w (grammar_of g).enumerants) where
        listed_found : (x : Option ℕ) → f ≡ x → parameters_for k w (grammar_of g) ≡ parameters_found g x
        unfolding parameters_for
        listed_found x r = simp (sym a ∙ c) (sym i ∙ ap (parameters_found g) r)

        -- it is known
        pub value_known : (n : ℕ) → f ≡ Some n → place_found f ≤ length g → EnumIs s g k d (Ok ((w, n), e))
        unfolding parameters_found place_found is_listed
        value_known n r l = enum_known (parameters_found g (Some n)) (listed_found (Some n) r) refl n (rw r at l) (λ x. refl)

        -- it is not
        pub value_unknown : f ≡ None → (v : Answered (ℕ × ℕ)) → v ≡ Err (refusal 10 d.offset w, e) → EnumIs s g k d v
        unfolding parameters_found is_listed
        value_unknown r = enum_unknown (parameters_found g None) (listed_found None r) refl

-- an enumerant's answer, taken apart
pub known_told : (s g : List ℕ) (k : ℕ) (d : Decoder) (v : Answered (ℕ × ℕ)) (w p : ℕ) (e : Decoder) → EnumIs s g k d v → v ≡ Ok ((w, p), e) → KnownAs s g k d w p e
unfolding EnumIs
known_told s g k d v w p e h q = rw q at h

pub unread_told : (s g : List ℕ) (k : ℕ) (d : Decoder) (v : Answered (ℕ × ℕ)) (x : Refusal) (e : Decoder) → EnumIs s g k d v → v ≡ Err (x, e)
    → read_enumerant (grammar_of g) k (reader_of s d) ≡ refused x (reader_of s e)
unfolding EnumIs
unread_told s g k d v x e h q = rw q at h

-- READS

module _ (s : List ℕ) (g : Grammar) (k : ℕ) (d : Decoder) where
  module _ (z : is_word k ≡ true) where
    each_word : (y : Read ℕ) → read_word (reader_of s d) ≡ y
        → read_each g (k ∷ []) (reader_of s d) ≡ after (after y (λ a. give (narrow k a))) (λ o. give (o ∷ []))
    unfolding read_each read_one
    each_word y h =
        simp (word_no_enum k z, word_no_text k z) (ap (λ (m : Read ℕ). after (after m (λ a. give (narrow k a))) (λ o. give (o ∷ []))) h)

    -- a word
    word_good : (w : ℕ) (e : Decoder) → Ok (w, e) ≡ word_from s d → read_each g (k ∷ []) (reader_of s d) ≡ got (narrow k w ∷ []) (reader_of s e)
    word_good w e h = each_word (got w (reader_of s e)) (word_got s d e w h).reads

    -- no word
    pub word_bad : (x : Refusal) (e : Decoder) → Err (x, e) ≡ word_from s d → read_each g (k ∷ []) (reader_of s d) ≡ refused x (reader_of s e)
    word_bad x e h = each_word (refused x (reader_of s e)) (word_refused s d e x h)

  module _ (z : k ≡ 40) (i : d.offset ≤ length s) where
    each_text : (y : Read (List ℕ)) → read_text (reader_of s d) ≡ y
        → read_each g (k ∷ []) (reader_of s d) ≡ after (after y (λ a. give (text a))) (λ o. give (o ∷ []))
    unfolding read_each read_one
    each_text y h = rw z (ap (λ (m : Read (List ℕ)). after (after m (λ a. give (text a))) (λ o. give (o ∷ []))) h)

    -- a string
    text_good_lem : (x : Text) (e : Decoder) → Ok (x, e) ≡ text_from s d
        → read_each g (k ∷ []) (reader_of s d) ≡ got (text (slice x.start (x.start + x.length) s) ∷ []) (reader_of s e)
    text_good_lem x e h = each_text _ (sym (text_within s d i) ∙ (text_got s d e x h).reads)

    -- no string
    pub text_bad : (x : Refusal) (e : Decoder) → Err (x, e) ≡ text_from s d → read_each g (k ∷ []) (reader_of s d) ≡ refused x (reader_of s e)
    text_bad x e h = each_text _ (sym (text_within s d i) ∙ text_refused s d e x h)

module _ (s g : List ℕ) (k : ℕ) (d : Decoder) (t : Bool) (b : t ≡ is_enum k) (q : t ≡ true) where
  enum_kind : is_enum k ≡ true
  enum_kind = sym b ∙ q

  each_enum : (y : Read Known) → read_enumerant (grammar_of g) k (reader_of s d) ≡ y
      → read_each (grammar_of g) (k ∷ []) (reader_of s d) ≡ after (after y (λ a. give (narrow k (value_of a)))) (λ o. give (o ∷ []))
  unfolding read_each read_one
  each_enum y h =
      simp enum_kind (ap (λ (m : Read Known). after (after m (λ a. give (narrow k (value_of a)))) (λ o. give (o ∷ []))) h)

  -- an enumerant
  enum_good : (w p : ℕ) (e : Decoder) → KnownAs s g k d w p e → read_each (grammar_of g) (k ∷ []) (reader_of s d) ≡ got (narrow k w ∷ []) (reader_of s e)
  enum_good w p e h = each_enum _ h.read

  -- no enumerant
  pub enum_bad : (x : Refusal) (e : Decoder) → read_enumerant (grammar_of g) k (reader_of s d) ≡ refused x (reader_of s e)
      → read_each (grammar_of g) (k ∷ []) (reader_of s d) ≡ refused x (reader_of s e)
  enum_bad x e h = each_enum _ h

-- WHAT IS HELD

-- a record of one word
pub held_narrow : (l t l₁ : List ℕ) (u n : Used) (j w : ℕ) → is_narrow j ≡ true → Pushed j w u n
    → Laid l u.log (record_of (parts j w)) l₁ → Held l t l₁ t u n (narrow j w ∷ [])
unfolding operands_log operand_log operands_strings operand_string literal_of id_ref_of notes note record_of record_by record_length length_by bytes_of is_narrow
held_narrow l t l₁ u n j w i p h =
    let z = not-true (is_two j) (right (is_logged j) (not (is_two j)) i) in
    let a : n.log ≡ u.log + 5 = simp z at p.log in
    let b : record_of (parts j w) ≡ j ∷ bytes_of w = simp z in
    record {
      rtype = p.rtype;
      rid = p.rid;
      base = p.base;
      nlog = a;
      nstrings = p.strings ∙ sym (add-zero u.strings);
      noted = p.noted;
      log_laid = laid_as refl b h;
      strings_laid = laid_nil t u.strings;
    }

-- a record more is one operand more
one_more : (u r : Used) (a b : Option ℕ) → notes_of r ≡ note_as a b (notes_of u) → r.operands ≡ u.operands + 1
unfolding notes_of note_as
one_more u r a b e = ap (λ n. n.count) e

-- little is in use after a record
pub few_pushed : (s : List ℕ) (d e : Decoder) (u r : Used) (n j w : ℕ) → Few s d u → Step s d e n → 1 ≤ n → Pushed j w u r → Few s e r
few_pushed s d e u r n j w f t h p =
    step_few s d e u r n f t h (one_more u r _ _ p.noted) (omega (arith, p.log, (length_range (parts j w)).1)) (omega (arith, p.strings)) p.base (p.fits f.fits)

-- what is in use before a record leaves room to count on
few_small : {s : List ℕ} {d : Decoder} {u : Used} → Few s d u → (u.log ≤ 1000000000) × (u.operands ≤ 1000000000) × (u.base + u.strings ≤ 67108864)
few_small f = (
  omega (arith, f.short, f.inside, f.log),
  omega (arith, f.short, f.inside, f.operands),
  omega (arith, f.short, f.inside, f.strings),
)

-- there is room to count on
pub may_count : {s : List ℕ} {d : Decoder} {u : Used} → Few s d u → (u.log ≤ 1000000000) × (u.operands ≤ 1000000000)
may_count f = ((few_small f).0, (few_small f).1)

-- a record may be added
pub may_push : {s : List ℕ} {d : Decoder} {u : Used} {k v : ℕ} → Few s d u → Fits k v → (u.log ≤ 1000000000) × (u.operands ≤ 1000000000) × Fits k v
may_push f h = ((few_small f).0, (few_small f).1, h)

-- WHAT BREAKS

-- nothing
pub none_breaks : (u n : Used) (b : ℕ) → b ≡ 0 → n.breaks ≡ u.breaks → n.breaks ≡ first_break u.breaks b
none_breaks u n b z e = e ∙ sym (ap (first_break u.breaks) z ∙ first_last u.breaks)

-- a word that is no embedded opcode
pub spotted_word : (s : List ℕ) (d e : Decoder) (u n : Used) (k w : ℕ) → Step s d e 1 → (k ≡ 39 → ⊥) → n.breaks ≡ u.breaks
    → Spotted s d e u n (narrow k w ∷ [])
unfolding operand_size operand_break
spotted_word s d e u n k w t h b =
    let z : eqb k 39 ≡ false = ne_eqb k 39 h in
    spotted_one s d e u n (narrow k w) t.next (none_breaks u n _ (simp z) b)

-- a result, which is a word as an id is
pub spotted_id : (s : List ℕ) (d e : Decoder) (u n : Used) (w : ℕ) → Step s d e 1 → n.breaks ≡ u.breaks
    → Spotted s d e u n (narrow 33 w ∷ [])
unfolding operand_size operand_break
spotted_id s d e u n w t b = spotted_one s d e u n (narrow 33 w) t.next (none_breaks u n _ refl b)

-- an enumerant
pub spotted_enum : (s : List ℕ) (d e : Decoder) (u n : Used) (k w : ℕ) → Step s d e 1 → is_enum k ≡ true → n.breaks ≡ u.breaks
    → Spotted s d e u n (narrow k w ∷ [])
spotted_enum s d e u n k w t h b = spotted_word s d e u n k w t (not_kind is_enum k 39 h refl) b

-- a literal of two words
pub spotted_long : (s : List ℕ) (d e : Decoder) (u n : Used) (k w : ℕ) → Step s d e 2 → n.breaks ≡ u.breaks
    → Spotted s d e u n (wide k w ∷ [])
unfolding operand_size operand_break
spotted_long s d e u n k w t b = spotted_one s d e u n (wide k w) t.next (none_breaks u n _ refl b)

-- the word at an offset is the first of those from there on
four_at_lem : (s : List ℕ) (at : ℕ) → four_at at s ≡ four_at 0 (drop at s)
four_at_lem s at = simp (get_or-drop, add-zero)

-- an embedded opcode
pub spotted_opcode : (s : List ℕ) (d e : Decoder) (u n : Used) (w : ℕ) → Ok (w, e) ≡ word_from s d
    → n.breaks ≡ first_break u.breaks (if ltb 65535 w then d.offset else 0) → Spotted s d e u n (narrow 39 (w % 65536) ∷ [])
unfolding operand_size operand_break
spotted_opcode s d e u n w h b =
    let is : w ≡ four_at 0 (drop d.offset s) = (word_got s d e w h).value ∙ four_at_lem s d.offset in
    spotted_one s d e u n (narrow 39 (w % 65536)) (step_word s d e w h).next
    (b ∙ ap (λ (i : ℕ). first_break u.breaks (if ltb 65535 i then d.offset else 0)) is)

-- a record of a word was read
pub word_parsed : (s l t l₁ : List ℕ) (d e : Decoder) (u n : Used) (k w : ℕ) (g : Grammar) → Few s d u → is_word k ≡ true → Ok (w, e) ≡ word_from s d
    → Pushed k w u n → Laid l u.log (record_of (parts k w)) l₁ → n.breaks ≡ u.breaks
    → Parses s d 4 (read_each g (k ∷ []) (reader_of s d)) l t l₁ t u (Ok (n, e))
word_parsed s l t l₁ d e u n k w g f i h p q b =
    let x = step_word s d e w h in
    accept s d 4 _ l t l₁ t u n e _ (word_good s g k d i w e h) (held_narrow l t l₁ u n k w (word_narrow k i) p q)
    (few_pushed s d e u n 1 k w f x (omega arith) p) (step_went s d e 1 x f.left f.limited)
    (spotted_word s d e u n k w x (word_other k i) b)

-- a record of an enumerant was read
pub enum_parsed : (s l t l₁ g : List ℕ) (d e : Decoder) (u n : Used) (k w p : ℕ) → Few s d u → is_enum k ≡ true → KnownAs s g k d w p e
    → Pushed k w u n → Laid l u.log (record_of (parts k w)) l₁ → n.breaks ≡ u.breaks
    → Parses s d 4 (read_each (grammar_of g) (k ∷ []) (reader_of s d)) l t l₁ t u (Ok (n, e))
enum_parsed s l t l₁ g d e u n k w p f i h a q b =
    accept s d 4 _ l t l₁ t u n e _ (enum_good s g k d (is_enum k) refl i w p e h) (held_narrow l t l₁ u n k w (enum_narrow k i) a q)
    (few_pushed s d e u n 1 k w f h.step (omega arith) a) (step_went s d e 1 h.step f.left f.limited)
    (spotted_enum s d e u n k w h.step i b)

-- STRINGS

past_by : (t : Bool) (x : Refusal) (r : Reader) (z : Read (List ℕ)) (bs : List ℕ) (q : Reader) → (if t then refused x r else z) ≡ got bs q → t ≡ false
past_by true x r z bs q h = let y : ◌≡◌ {A = ℕ} 0 1 = cc in absurd (omega arith)
past_by false x r z bs q h = refl

text_limit : (s : List ℕ) (d : Decoder) (m : ℕ) (bs : List ℕ) (q : Reader) → d.limit ≡ Some m → read_text (reader_of s d) ≡ got bs q
    → 4 * m ≤ length (drop d.offset s)
unfolding read_text reader_of reader_at
text_limit s d m bs q e h =
    let y = past_by (limit_past d.limit (drop d.offset s)) _ _ _ bs q h in
    ltb-false (length (drop d.offset s)) (4 * m) (rw e at y)

-- a string, within a limit
step_text : (s : List ℕ) (d e : Decoder) (u : Used) (x : Text) → Ok (x, e) ≡ text_from s d → Few s d u → Step s d e (text_words x.length)
step_text s d e u x h f =
    let g = text_got s d e x h in
    let b = text_limit s d f.left _ _ f.limited (sym (text_within s d f.inside) ∙ g.reads) in
    let c = g.took.counted f.left f.limited in
    record {
      next = g.took.next;
      inside = omega (arith, b, c.0, g.took.next, length-drop d.offset s, f.inside);
      counted = g.took.counted;
    }

-- where it stands
text_inside : (s : List ℕ) (d e : Decoder) (x : Text) → Ok (x, e) ≡ text_from s d → x.start + x.length < length s
text_inside s d e x h = (text_got s d e x h).inside

-- its record: start, length
text_record : (a b : ℕ) → a < 4294967296 → record_of (parts 40 (a + 4294967296 * b)) ≡ 40 ∷ (bytes_of a ++ bytes_of b)
unfolding record_of record_by
text_record a b h =
    let x : (a + 4294967296 * b) % 4294967296 ≡ a = omega arith in
    let y : (a + 4294967296 * b) / 4294967296 ≡ b = omega arith in
    simp (x, y)

module _ (s : List ℕ) (from size : ℕ) (h : from + size < length s) where
  size_is : length (slice from (from + size) s) ≡ size
  size_is = length-slice from (from + size) s (omega arith) ∙ omega arith

  -- a string's record and its bytes
  held_text : (l t l₁ t₁ : List ℕ) (u n : Used) → u.base + u.strings < 4294967296 → {b : ℕ} → Copied size b u n
      → Laid l u.log (record_of (parts 40 (u.base + u.strings + 4294967296 * size))) l₁ → Laid t u.strings (slice from (from + size) s) t₁
      → Held l t l₁ t₁ u n (text (slice from (from + size) s) ∷ [])
  unfolding operands_log operand_log operands_strings operand_string notes note bytes_of
  held_text l t l₁ t₁ u n z p hl ht =
      let e : slice from (from + size) s ++ [] ≡ slice from (from + size) s = append-nil (slice from (from + size) s) in
      record {
        rtype = p.rtype;
        rid = p.rid;
        base = p.base;
        nlog = p.log;
        nstrings = p.strings ∙ ap (λ (i : ℕ). u.strings + i) (sym (ap length e ∙ size_is));
        noted = p.noted;
        log_laid =
            laid_as refl (text_record (u.base + u.strings) size z ∙ ap (λ (i : ℕ). 40 ∷ (bytes_of (u.base + u.strings) ++ bytes_of i)) (sym size_is)) hl;
        strings_laid = laid_as refl (sym e) ht;
      }

-- little is in use after a string
few_copied : (s : List ℕ) (d e : Decoder) (u r : Used) (size b : ℕ) → Few s d u → Step s d e (text_words size) → Copied size b u r → Few s e r
few_copied s d e u r size b f t p =
    step_few s d e u r (text_words size) f t (omega arith) (one_more u r _ _ p.noted) (omega (arith, p.log)) (omega (arith, p.strings)) p.base (p.fits f.fits)

-- a string takes a word or more
text_went : (s : List ℕ) (d e : Decoder) (size m : ℕ) → Step s d e (text_words size) → d.limit ≡ Some m → Went d e 4
text_went s d e size m t q =
    let w = step_went s d e (text_words size) t m q in
    record { pace = w.pace; forth = omega (arith, w.forth) }

-- what breaks a string is what breaks its padding
spotted_text : (s : List ℕ) (d e : Decoder) (u n : Used) (x : Text) → Ok (x, e) ≡ text_from s d → Step s d e (text_words x.length)
    → n.breaks ≡ first_break u.breaks x.breaks → Spotted s d e u n (text (slice x.start (x.start + x.length) s) ∷ [])
unfolding operand_size operand_break
spotted_text s d e u n x h t b =
    let g = text_got s d e x h in
    let size : length (slice x.start (x.start + x.length) s) ≡ x.length = size_is s x.start x.length g.inside in
    spotted_one s d e u n (text (slice x.start (x.start + x.length) s))
    (t.next ∙ ap (λ (i : ℕ). d.offset + 4 * text_words i) (sym size))
    (b ∙ ap (first_break u.breaks)
    (g.breaks ∙ ap (λ (i : ℕ). text_break i x.length (drop d.offset s)) g.start
    ∙ ap (λ (i : ℕ). text_break d.offset i (drop d.offset s)) (sym size)))

-- a string may be added
pub may_copy : {s : List ℕ} {d e : Decoder} {u : Used} {x : Text} → Few s d u → Ok (x, e) ≡ text_from s d
    → ((u.log ≤ 1000000000) × (u.operands ≤ 1000000000) × (u.strings ≤ 1000000000) × (x.length ≤ 1000000000) × (u.base ≤ 1000000000))
    × (x.start + x.length ≤ length s)
may_copy {s} {d} {e} {u} {x} f h =
    let b = few_small f in
    let i = text_inside s d e x h in
    ((b.0, b.1, omega (arith, b.2), omega (arith, i, f.short), omega (arith, b.2)), omega (arith, i))

-- a string was read
pub text_parsed : (s l t l₁ t₁ : List ℕ) (d e : Decoder) (u n : Used) (k : ℕ) (g : Grammar) (x : Text) → Few s d u → k ≡ 40 → Ok (x, e) ≡ text_from s d
    → Copied x.length x.breaks u n → Laid l u.log (record_of (parts 40 (u.base + u.strings + 4294967296 * x.length))) l₁
    → Laid t u.strings (slice x.start (x.start + x.length) s) t₁
    → Parses s d 4 (read_each g (k ∷ []) (reader_of s d)) l t l₁ t₁ u (Ok (n, e))
text_parsed s l t l₁ t₁ d e u n k g x f z h p q r =
    let y = step_text s d e u x h f in
    accept s d 4 _ l t l₁ t₁ u n e _ (text_good_lem s g k d z f.inside x e h)
    (held_text s x.start x.length (text_inside s d e x h) l t l₁ t₁ u n (omega (arith, (few_small f).2)) p q r)
    (few_copied s d e u n x.length x.breaks f y p) (text_went s d e x.length f.left y f.limited)
    (spotted_text s d e u n x h y p.breaks)

-- LITERALS OF TWO WORDS

-- two words
pub step_long : (s : List ℕ) (d e : Decoder) (w : ℕ) → Ok (w, e) ≡ long_from s d → Step s d e 2
step_long s d e w h =
    let g = long_got s d e w h in
    record { next = g.took.next; inside = omega (arith, g.inside, g.took.next); counted = g.took.counted }

-- two words are one or more
pub long_went : (s : List ℕ) (d e : Decoder) (m : ℕ) → Step s d e 2 → d.limit ≡ Some m → Went d e 4
long_went s d e m t q = let w = step_went s d e 2 t m q in record { pace = w.pace; forth = omega (arith, w.forth) }

-- a record of two words
pub held_wide : (l t l₁ : List ℕ) (u n : Used) (j w : ℕ) → is_long j ≡ true → Pushed j w u n
    → Laid l u.log (record_of (parts j w)) l₁ → Held l t l₁ t u n (wide j w ∷ [])
unfolding operands_log operand_log operands_strings operand_string literal_of id_ref_of notes note record_of record_by record_length length_by bytes_of
held_wide l t l₁ u n j w z p h =
    let a : n.log ≡ u.log + 9 = simp z at p.log in
    let b : record_of (parts j w) ≡ j ∷ long_bytes w = simp z in
    let c : eqb j 34 ≡ false = ne_eqb j 34 (not_kind is_long j 34 z refl) in
    let d : eqb j 33 ≡ false = ne_eqb j 33 (not_kind is_long j 33 z refl) in
    record {
      rtype = p.rtype;
      rid = p.rid;
      base = p.base;
      nlog = a;
      nstrings = p.strings ∙ sym (add-zero u.strings);
      noted = simp (c, d) at p.noted;
      log_laid = laid_as refl b h;
      strings_laid = laid_nil t u.strings;
    }
