-- From the decoder's code to the definitions: a law for each way through a function.
use Prim.Native.Nat.{ℕ, zero, suc, ◌+◌, ◌*◌, ◌-◌, ◌/◌, ◌<◌, ◌≤◌}
use mathlib.Core.Path.{◌≡◌, refl, ap, sym, ◌∙◌}
use mathlib.Core.Bool.{Bool, true, false}
use mathlib.Core.List.{List, ◌∷◌}
use Rattle.std.specs.Prelude.{Option, None, Some, Result, Ok, Err, min}
use native.Mathlib.Numerals.{add-one}
use native.Mathlib.Omega.{arith}
use borrow.Author.Tests.{leb-true, leb-false, lt-ltb, le-ltb, ltb-true, ltb-false, eq-eqb, ne_eqb, eqb-true, eqb-false}
use borrow.Rule.Slice.PartMut.{mid_len}
use lib.Dec.{leb, ltb, eqb}
use lib.ListN.{length, take, drop, get_or, length-drop, drop_of_length-le}
use lib.Seq.{slice, take_all, drop-drop, slice-cons, length-take-le}
use Rattle.spec.specs.declared.Refusal.{Refusal}
use Rattle.std.specs.Prelude.{if◌then◌else◌}
use Rattle.spec.specs.Text.{until_zero, text_words, not_zero, text_break, is_utf8}
use Rattle.spec.specs.Words.{Front, front_of, four_at, long}
use Rattle.spec.specs.Reader.{Read, got, refused, after, give, refusal, stream_word, word_at, read_word, read_long, reader_at, less, limit_past, searched, no_zero, text_found, read_text, read_text_at}
use Rattle.text.specs.Zero.{zero_in}
use Rattle.text.proofs.Laws.{zero_at, zero_nothing}
use Rattle.decoder.specs.declared.Decoder.{Decoder}
use Rattle.decoder.specs.declared.NoString.{NoString}
use Rattle.decoder.specs.declared.NoString.TheVariants.{NoZero, NotUtf8}
use Rattle.decoder.specs.Answer.{decoder, reader_of, limit_reached, word_answer, word_from, long_answer, long_from, text_answer, text_from}
use Rattle.decoder.specs.Steps.{take_one, end_by, end_in}
use Rattle.words.proofs.Front.{front_got, front_short}
use Rattle.decoder.proofs.Laws.{word_got, word_refused, high_after, ends_in, front_slice}
use Rattle.decoder.specs.Answer.{Answered}
use Rattle.decoder.specs.declared.Text.{Text}
use Rattle.std.specs.Prelude.{Err, Ok}

-- WORDS

-- under four bytes the stream ends before any word does
pub ends_short : (n at : ℕ) → n < 4 → true ≡ ltb n (at + 4)
ends_short n at h = sym (lt-ltb n (at + 4) (omega arith))

-- of four bytes or more the test goes by where the last word could start
ends_by : (n at : ℕ) (t : Bool) → 4 ≤ n → ltb (n - 4) at ≡ t → ltb (n - 4) at ≡ ltb n (at + 4)
ends_by n at true h e = e ∙ sym (lt-ltb n (at + 4) (omega (arith, ltb-true (n - 4) at e)))
ends_by n at false h e = e ∙ sym (le-ltb n (at + 4) (omega (arith, ltb-false (n - 4) at e)))

-- whichever way it comes out
pub ends_long : (n at : ℕ) → 4 ≤ n → ltb (n - 4) at ≡ ltb n (at + 4)
ends_long n at h = ends_by n at (ltb (n - 4) at) h refl

-- one word less in a limit
pub one_less : (at : ℕ) (l : Option ℕ) (n : ℕ) → l ≡ Some n → decoder at (Some (n - 1)) ≡ take_one (decoder at l)
unfolding take_one
one_less at l n e = rw e

-- no less where there is none
pub none_less : (at : ℕ) (l : Option ℕ) → l ≡ None → decoder at l ≡ take_one (decoder at l)
unfolding take_one
none_less at l e = ap (decoder at) (rw e)

-- a limit that is not reached has a word
pub one_left : (at : ℕ) (l : Option ℕ) (n : ℕ) → l ≡ Some n → limit_reached (decoder at l) ≡ false → 1 ≤ n
unfolding limit_reached
one_left at l n e h = let z : eqb n 0 ≡ false = rw e at h in omega (arith, eqb-false n 0 z)

-- on a spent limit a word is refused
pub word_spent : (s : List ℕ) (at : ℕ) (l : Option ℕ) (x : Answered ℕ) → limit_reached (decoder at l) ≡ true → x ≡ Err (refusal 8 at 0, decoder at l)
    → x ≡ word_from s (decoder at l)
unfolding limit_reached word_from word_answer reader_of reader_at word_at
word_spent s at None x e h = let z : ◌≡◌ {A = ℕ} 0 1 = cc in absurd (omega arith)
word_spent s at (Some zero) x e h = h
word_spent s at (Some (suc n)) x e h = absurd (omega (arith, eqb-true (suc n) 0 e))

-- otherwise it is the stream's, with one less in the limit
word_next_lem : (s : List ℕ) (at : ℕ) (l : Option ℕ) → limit_reached (decoder at l) ≡ false
    → word_answer (stream_word at (less l 1) (drop at s) (front_of (drop at s))) ≡ word_from s (decoder at l)
unfolding limit_reached word_from reader_of reader_at word_at
word_next_lem s at None e = refl
word_next_lem s at (Some zero) e = let z : ◌≡◌ {A = ℕ} 0 1 = cc in absurd (omega arith)
word_next_lem s at (Some (suc n)) e =
    let p : suc n - 1 ≡ n = omega arith in
    ap (λ (k : ℕ). word_answer (stream_word at (Some k) (drop at s) (front_of (drop at s)))) p

module _ (s : List ℕ) (d e : Decoder) (x : Answered ℕ) (h : limit_reached d ≡ false) (p : e ≡ take_one d) where
  -- the stream ends
  pub word_ended : ltb (length s) (d.offset + 4) ≡ true → x ≡ Err (refusal 9 e.offset 0, e) → x ≡ word_from s d
  unfolding word_answer take_one
  word_ended g q =
      q ∙ ap (λ (f : Decoder). Err (refusal 9 f.offset 0, f)) p
      ∙ ap (λ (f : Front). word_answer (stream_word d.offset (less d.limit 1) (drop d.offset s) f))
      (sym (front_short s d.offset (ltb-true (length s) (d.offset + 4) g)))
      ∙ word_next_lem s d.offset d.limit h

  -- the word is there
  pub word_there : (w : ℕ) → ltb (length s) (d.offset + 4) ≡ false → w ≡ four_at d.offset s → x ≡ Ok (w, decoder (d.offset + 4) e.limit)
      → x ≡ word_from s d
  unfolding word_answer take_one
  word_there w g q r =
      r ∙ ap (λ (v : ℕ). Ok (v, decoder (d.offset + 4) e.limit)) q
      ∙ ap (λ (f : Decoder). Ok (four_at d.offset s, decoder (d.offset + 4) f.limit)) p
      ∙ ap (λ (f : Front). word_answer (stream_word d.offset (less d.limit 1) (drop d.offset s) f))
      (sym (front_got s d.offset (ltb-false (length s) (d.offset + 4) g)))
      ∙ word_next_lem s d.offset d.limit h

-- 64-BIT LITERALS

-- the first word is refused
pub long_none : (s : List ℕ) (d e : Decoder) (x : Refusal) → Err (x, e) ≡ word_from s d → Err (x, e) ≡ long_from s d
unfolding long_from long_answer read_long reader_of reader_at
long_none s d e x h =
    ap (λ (y : Read ℕ). long_answer (after y high_after)) (sym (word_refused s d e x h))

module _ (s : List ℕ) (d e : Decoder) (low : ℕ) (h : Ok (low, e) ≡ word_from s d) where
  -- the second word decides
  long_then : (y : Read ℕ) → read_word (reader_of s e) ≡ y → long_answer (after y (λ high. give (long low high))) ≡ long_from s d
  unfolding long_from read_long
  long_then y g =
      ap (λ (z : Read ℕ). long_answer (after z (λ high. give (long low high)))) (sym g)
      ∙ ap (λ (z : Read ℕ). long_answer (after z high_after)) (sym (word_got s d e low h).reads)

  -- the second word is refused
  pub long_half : (f : Decoder) (x : Refusal) → Err (x, f) ≡ word_from s e → Err (x, f) ≡ long_from s d
  unfolding long_answer reader_of reader_at
  long_half f x g = long_then (refused x (reader_of s f)) (word_refused s e f x g)

  -- both are there
  pub long_whole : (f : Decoder) (high : ℕ) → Ok (high, f) ≡ word_from s e → Ok (long low high, f) ≡ long_from s d
  unfolding long_answer reader_of reader_at
  long_whole f high g = long_then (got high (reader_of s f)) (word_got s e f high g).reads

-- WHERE A STRING ENDS

-- no zero byte is found
pub end_none : (l : List ℕ) → None ≡ zero_in l → Err NoZero ≡ end_in l
unfolding end_in end_by
end_none l h = sym (ap end_by (zero_nothing l h))

-- a zero byte is found: so many bytes lie before it
pub end_size : (l : List ℕ) (n : ℕ) → Some n ≡ zero_in l → n ≡ length (take n l)
end_size l n h = sym (length-take-le n l (omega (arith, (zero_at l n h).0)))

-- and they are UTF-8 or not
pub end_found : (l : List ℕ) (n : ℕ) (t : Bool) → Some n ≡ zero_in l → is_utf8 (take n l) ≡ t → (if t then Ok n else Err NotUtf8) ≡ end_in l
unfolding end_in end_by
end_found l n t h e = sym (ap end_by (zero_at l n h).1 ∙ simp (e, ← end_size l n h))

-- a string that ends, by whether it is UTF-8, is shorter than the bytes
after_if : (l : List ℕ) (n : ℕ) (bs : List ℕ) (t : Bool) → until_zero l ≡ Some bs → Ok n ≡ (if t then Ok (length bs) else Err NotUtf8) → n < length l
after_if l n bs true e h = let q : n ≡ length bs = cc in omega (arith, (ends_in l bs e).0)
after_if l n bs false e h = let z : ◌≡◌ {A = ℕ} 0 1 = cc in absurd (omega arith)

-- by the bytes before the first zero byte
after_by : (l : List ℕ) (n : ℕ) (o : Option (List ℕ)) → until_zero l ≡ o → Ok n ≡ end_by o → n < length l
unfolding end_by
after_by l n None e h = let z : ◌≡◌ {A = ℕ} 0 1 = cc in absurd (omega arith)
after_by l n (Some bs) e h = after_if l n bs (is_utf8 bs) e h

-- A STRING

-- the bytes from a position to an end are those that are searched; what is left of the limit after some words; the refusal without a zero byte
pub record Sought (s : List ℕ) (at : ℕ) (l : Option ℕ) (end : ℕ) (left : ℕ → Option ℕ) (x : Refusal) : Type 0 where
  pub from : at ≤ length s
  pub to : end ≤ length s
  pub unpassed : limit_past l (drop at s) ≡ false
  pub bytes : take (end - at) (drop at s) ≡ searched l (drop at s)
  pub takes : (k : ℕ) → left k ≡ less l k
  pub none : no_zero l (reader_at s at l) ≡ refused x (reader_at s at l)

-- all bytes from the position on, without a limit
pub sought_free : (s : List ℕ) (at : ℕ) (l : Option ℕ) → l ≡ None → at ≤ length s → Sought s at l (length s) (λ k. l) (refusal 9 at 0)
unfolding reader_at
sought_free s at None e h = record {
  from = h;
  to = omega arith;
  unpassed = refl;
  bytes = take_all (length s - at) (drop at s) (simp length-drop (omega arith));
  takes = λ k. refl;
  none = refl;
}
sought_free s at (Some m) e h = let z : ◌≡◌ {A = ℕ} 0 1 = cc in absurd (omega arith)

-- the limit's words, where the bytes have them
pub sought_words : (s : List ℕ) (at : ℕ) (l : Option ℕ) (m : ℕ) → l ≡ Some m → at ≤ length s → m ≤ (length s - at) / 4
    → Sought s at l (at + 4 * m) (λ k. Some (m - k)) (refusal 8 (at + 4 * m) 0)
unfolding reader_at
sought_words s at None m e h g = let z : ◌≡◌ {A = ℕ} 0 1 = cc in absurd (omega arith)
sought_words s at (Some n) m e h g =
    let q : n ≡ m = cc in
    let p : at + 4 * m - at ≡ 4 * n = omega arith in
    record {
      from = h;
      to = omega arith;
      unpassed = le-ltb (length (drop at s)) (4 * n) (simp length-drop (omega arith));
      bytes = ap (λ (k : ℕ). take k (drop at s)) p;
      takes = λ k. ap (λ (i : ℕ). Some (i - k)) (sym q);
      none = ap (λ (i : ℕ). refused (refusal 8 (at + 4 * i) 0) (reader_at s at (Some n))) q;
    }

-- a string's answer by where it ends
unfoldable pub end_answer : List ℕ → ℕ → Option ℕ → (ℕ → Option ℕ) → Refusal → Result ℕ NoString → Answered Text
end_answer s at l left x (Ok n) =
    Ok (record { start = at; length = n; breaks = text_break at n (drop at s) }, decoder (at + 4 * text_words n) (left (text_words n)))
end_answer s at l left x (Err NoZero) = Err (x, decoder at l)
end_answer s at l left x (Err NotUtf8) = Err (refusal 11 at 0, decoder at l)

-- a string with what breaks its padding
pub with_breaks : (s : List ℕ) (at n b : ℕ) (e : Decoder) → b ≡ text_break at n (drop at s)
    → ◌≡◌ {A = Answered Text} (Ok (record { start = at; length = n; breaks = b }, e))
    (Ok (record { start = at; length = n; breaks = text_break at n (drop at s) }, e))
with_breaks s at n b e h = let answer : ℕ → Answered Text = λ i. Ok (record { start = at; length = n; breaks = i }, e) in ap answer h

module _ {s : List ℕ} {at : ℕ} {l : Option ℕ} {end : ℕ} {left : ℕ → Option ℕ} {x : Refusal} (r : Sought s at l end left x) where
  -- a string that ends, UTF-8 or not, has that answer
  answer_utf8 : (bs : List ℕ) (t : Bool) → is_utf8 bs ≡ t
      → end_answer s at l left x (end_by (Some bs)) ≡ text_answer at (drop at s) (text_found (Some bs) (reader_at s at l))
  unfolding end_answer end_by text_answer reader_at
  answer_utf8 bs true e =
      simp e
      (let answer : Option ℕ → Answered Text = λ m. Ok (record { start = at; length = length bs; breaks = text_break at (length bs) (drop at s) }, decoder (at + 4 * text_words (length bs)) m) in ap answer
      (r.takes (text_words (length bs))))
  answer_utf8 bs false e = simp e

  -- a string that ends or not has it
  answer_end : (o : Option (List ℕ)) → end_answer s at l left x (end_by o) ≡ text_answer at (drop at s) (text_found o (reader_at s at l))
  unfolding end_answer end_by text_answer reader_at
  answer_end None = sym (ap (text_answer at (drop at s)) r.none)
  answer_end (Some bs) = answer_utf8 bs (is_utf8 bs) refl

  -- a string, by where it ends
  pub text_by : (v : Result ℕ NoString) (y : Answered Text) → v ≡ end_in (take (end - at) (drop at s)) → y ≡ end_answer s at l left x v → y ≡ text_from s (decoder at l)
  unfolding end_in text_from read_text_at read_text reader_at
  text_by v y e h =
      h ∙ ap (end_answer s at l left x) (e ∙ ap end_in r.bytes) ∙ answer_end (until_zero (searched l (drop at s)))
      ∙ sym (ap (text_answer at (drop at s)) (simp (le-ltb (length s) at r.from, r.unpassed)))

  -- its end lies within the bytes that are searched
  pub text_inside : (n : ℕ) → Ok n ≡ end_in (take (end - at) (drop at s)) → n < end - at
  unfolding end_in
  text_inside n e =
      omega (arith, after_by (take (end - at) (drop at s)) n (until_zero (take (end - at) (drop at s))) refl e, mid_len at end s r.to)

-- THE BYTES AFTER A STRING

module _ (s : List ℕ) (at n : ℕ) (h : at + n < length s) where
  -- those from its zero on, of so many from its start, are a part of all bytes
  padding_part : (m : ℕ) → slice (at + n) (at + m) s ≡ drop n (take m (drop at s))
  padding_part m = sym (ap (drop n) (front_slice at m s (omega arith)) ∙ drop-drop n at (take (at + m) s))

  -- the words of the string are there
  end_there : at + 4 * text_words n ≤ length s
      → (slice (at + n) (at + 4 * text_words n) s ≡ drop n (take (4 * text_words n) (drop at s))) × (at + 4 * text_words n ≤ length s)
  end_there i = (padding_part (4 * text_words n), i)

  -- the bytes end before
  end_before : length s ≤ at + 4 * text_words n
      → (slice (at + n) (length s) s ≡ drop n (take (4 * text_words n) (drop at s))) × (length s ≤ length s)
  end_before i = (
    ap (drop (at + n)) (take_all (length s) s (omega arith) ∙ sym (take_all (at + 4 * text_words n) s (omega arith))) ∙ padding_part (4 * text_words n),
    omega arith,
  )

  -- whichever is less
  end_least : (to : ℕ) (t : Bool) → leb (at + 4 * text_words n) (length s) ≡ t → to ≡ min (at + 4 * text_words n) (length s)
      → (slice (at + n) to s ≡ drop n (take (4 * text_words n) (drop at s))) × (to ≤ length s)
  end_least to true e m =
      let i : at + 4 * text_words n ≤ length s = leb-true (at + 4 * text_words n) (length s) e in
      let q : to ≡ at + 4 * text_words n = omega arith in
      rw q (end_there i)
  end_least to false e m =
      let i : length s < at + 4 * text_words n = leb-false (at + 4 * text_words n) (length s) e in
      let q : to ≡ length s = omega arith in
      rw q (end_before (omega arith))

  pub end_min : (to : ℕ) → to ≡ min (at + 4 * text_words n) (length s)
      → (slice (at + n) to s ≡ drop n (take (4 * text_words n) (drop at s))) × (to ≤ length s)
  end_min to m = end_least to (leb (at + 4 * text_words n) (length s)) refl m

-- the bytes of the padding before i are zero
pub record Padded (s : List ℕ) (at n to i : ℕ) : Type 0 where
  pub answer : text_break at n (drop at s) ≡ not_zero i (slice i to s)
  pub within : to ≤ length s

-- before the first
pub padding_starts : (s : List ℕ) (at n to : ℕ) → (slice (at + n) to s ≡ drop n (take (4 * text_words n) (drop at s))) × (to ≤ length s)
    → Padded s at n to (at + n)
unfolding text_break
padding_starts s at n to p = record { answer = ap (not_zero (at + n)) (sym p.0); within = p.1 }

module _ {s : List ℕ} {at n to i : ℕ} (r : Padded s at n to i) where
  -- a byte and those after it
  padding_next : i < to → text_break at n (drop at s) ≡ not_zero i (get_or s i 0 ∷ slice (i + 1) to s)
  padding_next h = r.answer ∙ ap (not_zero i) (rw add-one (slice-cons i to s 0 h r.within))

  -- one that is not zero
  pub padding_finds : i < to → (get_or s i 0 ≡ 0 → ⊥) → i ≡ text_break at n (drop at s)
  unfolding not_zero
  padding_finds h z = sym (padding_next h ∙ simp (ne_eqb (get_or s i 0) 0 z))

  -- one that is
  pub padding_goes_on : i < to → get_or s i 0 ≡ 0 → Padded s at n to (i + 1)
  unfolding not_zero
  padding_goes_on h z = record { answer = padding_next h ∙ simp (eq-eqb (get_or s i 0) 0 z); within = r.within }

  -- no byte is left
  pub padding_ends : to ≤ i → 0 ≡ text_break at n (drop at s)
  unfolding not_zero
  padding_ends h = sym (r.answer ∙ ap (not_zero i) (drop_of_length-le (take to s) {i = i} (rw (length-take-le to s r.within) h)))

-- a string from beyond the bytes
pub text_beyond : (s : List ℕ) (d : Decoder) (y : Answered Text) → y ≡ Err (refusal 9 d.offset 0, d) → length s < d.offset → y ≡ text_from s d
unfolding text_from text_answer read_text_at reader_at
text_beyond s d y e h = simp (lt-ltb (length s) d.offset h) e

-- a limit past the bytes
pub text_past : (s : List ℕ) (at : ℕ) (l : Option ℕ) (m : ℕ) (y : Answered Text) → l ≡ Some m → at ≤ length s → (length s - at) / 4 < m
    → y ≡ Err (refusal 9 at 0, decoder at l) → y ≡ text_from s (decoder at l)
unfolding text_from text_answer read_text_at read_text reader_at
text_past s at None m y e h g q = let z : ◌≡◌ {A = ℕ} 0 1 = cc in absurd (omega arith)
text_past s at (Some n) m y e h g q =
    let p : n ≡ m = cc in
    let past : length (drop at s) < 4 * n = simp length-drop (omega arith) in
    simp (le-ltb (length s) at h, lt-ltb (length (drop at s)) (4 * n) past) q
