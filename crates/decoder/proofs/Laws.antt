-- What the decoder's answers say of the reader and of how far it moved, for whoever calls the decoder.
use Prim.Native.Nat.{ℕ, zero, suc, ◌+◌, ◌*◌, ◌-◌, ◌<◌, ◌≤◌}
use mathlib.Core.Path.{◌≡◌, refl, ap, sym, ◌∙◌}
use mathlib.Core.Bool.{Bool, true, false}
use mathlib.Core.List.{List}
use Rattle.std.specs.Prelude.{Option, None, Some, option_map}
use native.Mathlib.Omega.{arith}
use borrow.Author.Tests.{le-ltb, ltb-false}
use lib.Dec.{ltb}
use lib.ListN.{length, take, drop, length-drop, length-take}
use lib.Seq.{slice, drop-drop, take-add, drop_at, length-take-le, take-take, length-slice}
use Rattle.spec.specs.declared.Refusal.{Refusal}
use Rattle.spec.specs.Words.{front_of, four_at, long}
use Rattle.spec.specs.Text.{until_zero, text_words, text_break, is_utf8}
use Rattle.spec.specs.Reader.{reader, Read, got, refused, Parse, after, give, refusal, stream_word, word_at, read_word, read_long, reader_at, less, searched, no_zero, text_found, limit_past, read_text, read_text_at}
use Rattle.text.specs.Zero.{zero_in}
use Rattle.text.proofs.Laws.{zero_at}
use Rattle.decoder.specs.declared.Decoder.{Decoder}
use Rattle.decoder.specs.declared.Text.{Text}
use Rattle.decoder.specs.Answer.{decoder, reader_of, word_answer, word_from, long_answer, long_from, text_answer, text_from}
use Rattle.spec.proofs.Answered.{ok_parts, err_parts}
use Rattle.words.proofs.Front.{by_front}
use Rattle.std.specs.Prelude.{Err, Ok}

-- HOW FAR A READ MOVES

-- so many words were taken: the position moved past them; a limit had them, and lost them
pub record Took (d e : Decoder) (k : ℕ) : Type 0 where
  pub next : e.offset ≡ d.offset + 4 * k
  pub free : d.limit ≡ None → e.limit ≡ None
  pub counted : (n : ℕ) → d.limit ≡ Some n → (k ≤ n) × (e.limit ≡ Some (n - k))

-- without a limit
took_free : (at k : ℕ) → Took (decoder at None) (decoder (at + 4 * k) None) k
took_free at k = record {
  next = refl;
  free = λ q. refl;
  counted = λ n q. let z : ◌≡◌ {A = ℕ} 0 1 = cc in absurd (omega arith);
}

-- with a limit
took_words : (at k m : ℕ) → k ≤ m → Took (decoder at (Some m)) (decoder (at + 4 * k) (Some (m - k))) k
took_words at k m h = record {
  next = refl;
  free = λ q. let z : ◌≡◌ {A = ℕ} 0 1 = cc in absurd (omega arith);
  counted = λ n q. let z : m ≡ n = cc in (omega arith, ap (λ (i : ℕ). Some (i - k)) z);
}

-- one word after another
took_two : {d e f : Decoder} → Took d e 1 → Took e f 1 → Took d f 2
took_two a b = record {
  next = omega (arith, a.next, b.next);
  free = λ q. b.free (a.free q);
  counted = λ n q.
      let x = a.counted n q in
      let y = b.counted (n - 1) x.1 in
      (omega (arith, x.0, y.0), y.1 ∙ ap Some (omega arith));
}

-- WORDS

-- What holds of each refusal, and of the word at the position where it was taken, holds of the word that is read.
module _ (s : List ℕ) (P : Read ℕ → Type 0) (bad : (x : Refusal) (e : Decoder) → P (refused x (reader_of s e))) where
  -- a word of the stream
  by_stream : (at : ℕ) (l : Option ℕ) → (at + 4 ≤ length s → P (got (four_at at s) (reader_of s (decoder (at + 4) l))))
      → P (stream_word at l (drop at s) (front_of (drop at s)))
  unfolding reader_of reader_at
  by_stream at l good = by_front s at (λ f. P (stream_word at l (drop at s) f)) good (λ h. bad (refusal 9 at 0) (decoder at l))

  -- a word, by the limit
  by_limit : (at : ℕ) (l : Option ℕ)
      → ((e : Decoder) → at + 4 ≤ length s → Took (decoder at l) e 1 → P (got (four_at at s) (reader_of s e)))
      → P (read_word (reader_of s (decoder at l)))
  unfolding reader_of reader_at word_at
  by_limit at None good = by_stream at None (λ h. good (decoder (at + 4) None) h (took_free at 1))
  by_limit at (Some zero) good = bad (refusal 8 at 0) (decoder at (Some 0))
  by_limit at (Some (suc n)) good =
      let p : suc n - 1 ≡ n = omega arith in
      let t : Took (decoder at (Some (suc n))) (decoder (at + 4) (Some n)) 1 = rw p at (took_words at 1 (suc n) (omega arith)) in
      by_stream at (Some n) (λ h. good (decoder (at + 4) (Some n)) h t)

  -- a word
  by_word : (d : Decoder)
      → ((e : Decoder) → d.offset + 4 ≤ length s → Took d e 1 → P (got (four_at d.offset s) (reader_of s e)))
      → P (read_word (reader_of s d))
  by_word d good = by_limit d.offset d.limit good

-- a word was got: the reader gets it too, and it is the word at the position
pub record WordGot (s : List ℕ) (d e : Decoder) (w : ℕ) (y : Read ℕ) : Type 0 where
  pub reads : y ≡ got w (reader_of s e)
  pub value : w ≡ four_at d.offset s
  pub inside : d.offset + 4 ≤ length s
  pub took : Took d e 1

-- from a word's answer
pub word_got : (s : List ℕ) (d e : Decoder) (w : ℕ) → Ok (w, e) ≡ word_from s d → WordGot s d e w (read_word (reader_of s d))
unfolding word_from word_answer reader_of reader_at
word_got s d e w =
    by_word s (λ y. Ok (w, e) ≡ word_answer y → WordGot s d e w y)
    (λ x f h. let z : ◌≡◌ {A = ℕ} 0 1 = cc in absurd (omega arith)) d
    (λ f i t h.
    let g : Ok (w, e) ≡ Ok (four_at d.offset s, f) = h in
    let parts = ok_parts _ _ _ _ g in
    let p : e ≡ f = parts.1 in
    let q : w ≡ four_at d.offset s = parts.0 in
    record { reads = cc; value = q; inside = i; took = rw p t })

-- a word was refused: the reader refuses it too
pub word_refused : (s : List ℕ) (d e : Decoder) (x : Refusal) → Err (x, e) ≡ word_from s d → read_word (reader_of s d) ≡ refused x (reader_of s e)
unfolding word_from word_answer reader_of reader_at
word_refused s d e x =
    by_word s (λ y. Err (x, e) ≡ word_answer y → y ≡ refused x (reader_of s e))
    (λ v f h.
    let g : Err (x, e) ≡ Err (v, f) = h in
    let parts = err_parts _ _ _ _ g in
    let p : e ≡ f = parts.1 in
    let q : x ≡ v = parts.0 in
    cc) d
    (λ f i t h. let z : ◌≡◌ {A = ℕ} 0 1 = cc in absurd (omega arith))

-- 64-BIT LITERALS

-- what is read after a literal's low word
abbrev pub high_after : ℕ → Parse ℕ
high_after low r = after (read_word r) (λ high. give (long low high))

-- what holds of each refusal, and of the two words at the position where they were taken, holds of the literal that is read
by_long : (s : List ℕ) (P : Read ℕ → Type 0) → ((x : Refusal) (e : Decoder) → P (refused x (reader_of s e))) → (d : Decoder)
    → ((e : Decoder) → d.offset + 8 ≤ length s → Took d e 2 → P (got (long (four_at d.offset s) (four_at (d.offset + 4) s)) (reader_of s e)))
    → P (read_long (reader_of s d))
unfolding read_long
by_long s P bad d good =
    by_word s (λ y. P (after y high_after)) bad d
    (λ e i t.
    by_word s (λ y. P (after y (λ high. give (long (four_at d.offset s) high)))) bad e
    (λ f j u.
    let p : e.offset ≡ d.offset + 4 = t.next in
    let q : d.offset + 8 ≤ length s = omega (arith, p, j) in
    rw p (good f q (took_two t u))))

-- a literal was got: the reader gets it too, and it is the two words at the position
pub record LongGot (s : List ℕ) (d e : Decoder) (v : ℕ) (y : Read ℕ) : Type 0 where
  pub reads : y ≡ got v (reader_of s e)
  pub value : v ≡ long (four_at d.offset s) (four_at (d.offset + 4) s)
  pub inside : d.offset + 8 ≤ length s
  pub took : Took d e 2

-- from a literal's answer
pub long_got : (s : List ℕ) (d e : Decoder) (v : ℕ) → Ok (v, e) ≡ long_from s d → LongGot s d e v (read_long (reader_of s d))
unfolding long_from long_answer reader_of reader_at
long_got s d e v =
    by_long s (λ y. Ok (v, e) ≡ long_answer y → LongGot s d e v y)
    (λ x f h. let z : ◌≡◌ {A = ℕ} 0 1 = cc in absurd (omega arith)) d
    (λ f i t h.
    let g : Ok (v, e) ≡ Ok (long (four_at d.offset s) (four_at (d.offset + 4) s), f) = h in
    let parts = ok_parts _ _ _ _ g in
    let p : e ≡ f = parts.1 in
    let q : v ≡ long (four_at d.offset s) (four_at (d.offset + 4) s) = parts.0 in
    record { reads = cc; value = q; inside = i; took = rw p t })

-- a literal was refused: the reader refuses it too
pub long_refused : (s : List ℕ) (d e : Decoder) (x : Refusal) → Err (x, e) ≡ long_from s d → read_long (reader_of s d) ≡ refused x (reader_of s e)
unfolding long_from long_answer reader_of reader_at
long_refused s d e x =
    by_long s (λ y. Err (x, e) ≡ long_answer y → y ≡ refused x (reader_of s e))
    (λ v f h.
    let g : Err (x, e) ≡ Err (v, f) = h in
    let parts = err_parts _ _ _ _ g in
    let p : e ≡ f = parts.1 in
    let q : x ≡ v = parts.0 in
    cc) d
    (λ f i t h. let z : ◌≡◌ {A = ℕ} 0 1 = cc in absurd (omega arith))

-- STRINGS

-- a string that ends is the front of the bytes, and shorter
pub ends_in : (l bs : List ℕ) → until_zero l ≡ Some bs → (length bs < length l) × (bs ≡ take (length bs) l)
unfolding zero_in
ends_in l bs e =
    let z = zero_at l (length bs) (sym (ap (option_map length) e)) in
    let p : Some bs ≡ Some (take (length bs) l) = sym e ∙ z.1 in
    (z.0, (cc))

-- so it is of the bytes from the position on, of which a limit's are searched
ends_here : (l : Option ℕ) (r bs : List ℕ) → until_zero (searched l r) ≡ Some bs → (length bs < length r) × (bs ≡ take (length bs) r)
ends_here None r bs e = ends_in r bs e
ends_here (Some m) r bs e =
    let z = ends_in (take (4 * m) r) bs e in
    (omega (arith, z.0, length-take (4 * m) r), z.1 ∙ take-take (length bs) (4 * m) r (omega (arith, z.0, length-take (4 * m) r)))

-- and its words are taken, which a limit has
ends_took : (at : ℕ) (l : Option ℕ) (r bs : List ℕ) → until_zero (searched l r) ≡ Some bs
    → Took (decoder at l) (decoder (at + 4 * text_words (length bs)) (less l (text_words (length bs)))) (text_words (length bs))
ends_took at None r bs e = took_free at (text_words (length bs))
ends_took at (Some m) r bs e =
    let z = ends_in (take (4 * m) r) bs e in
    took_words at (text_words (length bs)) m (omega (arith, z.0, length-take (4 * m) r))

-- the bytes from a position on, as a part of all of them
pub front_slice : (at n : ℕ) (s : List ℕ) → at ≤ length s → take n (drop at s) ≡ slice at (at + n) s
front_slice at n s h = sym (ap (drop at) (take-add at n s) ∙ drop_at (take at s) (take n (drop at s)) at (length-take-le at s h))

-- without a zero byte a string is refused
by_none : (s : List ℕ) (P : Read (List ℕ) → Type 0) (at : ℕ) (l : Option ℕ) → ((x : Refusal) → P (refused x (reader_at s at l)))
    → P (no_zero l (reader_at s at l))
unfolding reader_at
by_none s P at None bad = bad (refusal 9 at 0)
by_none s P at (Some n) bad = bad (refusal 8 (at + 4 * n) 0)

-- What holds of each refusal, and of the bytes at the position where they were taken, holds of the string that is read.
module _ (s : List ℕ) (P : Read (List ℕ) → Type 0) (at : ℕ) (l : Option ℕ) (bad : (x : Refusal) → P (refused x (reader_at s at l)))
    (good : (n : ℕ) (e : Decoder) → at + n < length s → Took (decoder at l) e (text_words n) → P (got (slice at (at + n) s) (reader_of s e))) where
  -- a string that ends, UTF-8 or not
  by_utf8 : (bs : List ℕ) (t : Bool) → is_utf8 bs ≡ t → at ≤ length s → until_zero (searched l (drop at s)) ≡ Some bs
      → P (text_found (Some bs) (reader_at s at l))
  unfolding reader_of reader_at
  by_utf8 bs true g h e =
      let k : ℕ = text_words (length bs) in
      let z = ends_here l (drop at s) bs e in
      let p : got bs (reader (at + 4 * k) (less l k) (drop (4 * k) (drop at s)))
      ≡ got (slice at (at + length bs) s) (reader_at s (at + 4 * k) (less l k)) =
      ap (λ (b : List ℕ). got b (reader (at + 4 * k) (less l k) (drop (4 * k) (drop at s)))) (z.1 ∙ front_slice at (length bs) s h)
      ∙ ap (λ (r : List ℕ). got (slice at (at + length bs) s) (reader (at + 4 * k) (less l k) r)) (drop-drop (4 * k) at s) in
      rw (g, p) (good (length bs) (decoder (at + 4 * k) (less l k)) (omega (arith, z.0, length-drop at s)) (ends_took at l (drop at s) bs e))
  by_utf8 bs false g h e = rw g (bad (refusal 11 at 0))

  -- a string that ends or not
  by_end : (o : Option (List ℕ)) → at ≤ length s → until_zero (searched l (drop at s)) ≡ o → P (text_found o (reader_at s at l))
  unfolding reader_at
  by_end None h e = by_none s P at l bad
  by_end (Some bs) h e = by_utf8 bs (is_utf8 bs) refl h e

  -- by the tests of the position and of the limit
  by_tests : (t u : Bool) → ltb (length s) at ≡ t → limit_past l (drop at s) ≡ u → P (read_text_at s at l)
  unfolding read_text_at read_text reader_at
  by_tests true u e f = rw e (bad (refusal 9 at 0))
  by_tests false true e f = rw (e, f) (bad (refusal 9 at 0))
  by_tests false false e f = rw (e, f) (by_end (until_zero (searched l (drop at s))) (ltb-false (length s) at e) refl)

  -- a string
  by_text : P (read_text_at s at l)
  by_text = by_tests (ltb (length s) at) (limit_past l (drop at s)) refl refl

-- a string was got: the reader gets its bytes too, at the position; the zero byte after them is there, and what breaks the padding is said
pub record TextGot (s : List ℕ) (d e : Decoder) (t : Text) (y : Read (List ℕ)) : Type 0 where
  pub reads : y ≡ got (slice t.start (t.start + t.length) s) (reader_of s e)
  pub start : t.start ≡ d.offset
  pub inside : t.start + t.length < length s
  pub breaks : t.breaks ≡ text_break t.start t.length (drop d.offset s)
  pub took : Took d e (text_words t.length)

-- from a string's answer
pub text_got : (s : List ℕ) (d e : Decoder) (t : Text) → Ok (t, e) ≡ text_from s d → TextGot s d e t (read_text_at s d.offset d.limit)
unfolding text_from text_answer reader_of reader_at
text_got s d e t =
    by_text s (λ y. Ok (t, e) ≡ text_answer d.offset (drop d.offset s) y → TextGot s d e t y) d.offset d.limit
    (λ x h. let z : ◌≡◌ {A = ℕ} 0 1 = cc in absurd (omega arith))
    (λ n f i u h.
    let size : ℕ = length (slice d.offset (d.offset + n) s) in
    let g : Ok (t, e) ≡ Ok (record { start = d.offset; length = size; breaks = text_break d.offset size (drop d.offset s) }, f) = h in
    let k : length (slice d.offset (d.offset + n) s) ≡ n = length-slice d.offset (d.offset + n) s (omega arith) ∙ omega arith in
    let parts = ok_parts _ _ _ _ g in
    let q : e ≡ f = parts.1 in
    let p : t ≡ record { start = d.offset; length = n; breaks = text_break d.offset n (drop d.offset s) } =
    parts.0 ∙ ap (λ (i : ℕ). record { start = d.offset; length = i; breaks = text_break d.offset i (drop d.offset s) }) k in
    rw (p, q) (record { reads = refl; start = refl; inside = i; breaks = refl; took = u }))

-- a string was refused: the reader refuses it too
pub text_refused : (s : List ℕ) (d e : Decoder) (x : Refusal) → Err (x, e) ≡ text_from s d
    → read_text_at s d.offset d.limit ≡ refused x (reader_of s e)
unfolding text_from text_answer reader_of reader_at
text_refused s d e x =
    by_text s (λ y. Err (x, e) ≡ text_answer d.offset (drop d.offset s) y → y ≡ refused x (reader_of s e)) d.offset d.limit
    (λ v h.
    let g : Err (x, e) ≡ Err (v, d) = h in
    let parts = err_parts _ _ _ _ g in
    let p : e ≡ d = parts.1 in
    let q : x ≡ v = parts.0 in
    cc)
    (λ n f i u h. let z : ◌≡◌ {A = ℕ} 0 1 = cc in absurd (omega arith))

-- from within the bytes a string is the reader's
pub text_within : (s : List ℕ) (d : Decoder) → d.offset ≤ length s → read_text_at s d.offset d.limit ≡ read_text (reader_of s d)
unfolding read_text_at reader_of
text_within s d h = simp (le-ltb (length s) d.offset h)
