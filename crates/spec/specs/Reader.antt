-- Reading: a position, a limit, and the bytes from the position on ("The decoder is a position and a limit").
use Rattle.std.specs.Prelude.{ℕ, zero, suc, ◌+◌, ◌*◌, ◌-◌, Bool, false, List, ltb, eqb, length, take, drop, if◌then◌else◌}
use Rattle.std.specs.Prelude.{Option, None, Some}
use Rattle.spec.specs.declared.Refusal.{Refusal}
use Rattle.spec.specs.Words.{Front, short, front, front_of, long}
use Rattle.spec.specs.Text.{until_zero, text_words, is_utf8}

infixl 10 ◌>>=◌
infixl 10 ◌into◌
-- the position in bytes, the limit in words, and the bytes from the position on
pub record Reader : Type 0 where
  pub at : ℕ
  pub limit : Option ℕ
  pub rest : List ℕ

-- a reader by its three parts
abbrev pub reader : ℕ → Option ℕ → List ℕ → Reader
reader a l r = record { at = a; limit = l; rest = r }

-- what reading comes to: a value or a refusal, and the reader after it
pub data Read (A : Type 0) : Type 0 where
  got : A → Reader → Read A
  refused : Refusal → Reader → Read A

-- what reads from a reader
abbrev pub Parse : Type 0 → Type 0
Parse A = Reader → Read A

-- go on with what was read; a refusal stands
abbrev pub after : {A B : Type 0} → Read A → (A → Parse B) → Read B
after (got a r) f = f a r
after (refused x r) f = refused x r

-- one read after the other
abbrev pub ◌>>=◌ : {A B : Type 0} → Parse A → (A → Parse B) → Parse B
◌>>=◌ m f = λ r. after (m r) f

-- a value, with nothing read
abbrev pub give : {A : Type 0} → A → Parse A
give a = λ r. got a r

-- what was read, made into something else
abbrev pub ◌into◌ : {A B : Type 0} → Parse A → (A → B) → Parse B
◌into◌ m f = m >>= (λ a. give (f a))

-- a refusal by its number, place and value
abbrev pub refusal : ℕ → ℕ → ℕ → Refusal
refusal n p v = record { number = n; place = p; value = v }

-- a refusal with a value
abbrev pub refuse_with : {A : Type 0} → ℕ → ℕ → ℕ → Parse A
refuse_with n p v = λ r. refused (refusal n p v) r

-- a refusal at a place; "values not listed are 0"
abbrev pub refuse : {A : Type 0} → ℕ → ℕ → Parse A
refuse n p = refuse_with n p 0

-- the position
abbrev pub here : Parse ℕ
here = λ r. got r.at r

-- the limit is there and reached
abbrev pub reached : Option ℕ → Bool
reached None = false
reached (Some n) = eqb n 0

-- whether no words are left
abbrev pub spent : Parse Bool
spent = λ r. got (reached r.limit) r

-- another limit
abbrev pub with_limit : Option ℕ → Parse Unit
with_limit l = λ r. got tt (reader r.at l r.rest)

-- WORDS: "Word reading tests the limit first, then the stream."

-- a word of the stream, else 9 at the position; "A stream refusal leaves the position"
abbrev pub stream_word : ℕ → Option ℕ → List ℕ → Front → Read ℕ
stream_word at l rest (front w r) = got w (reader (at + 4) l r)
stream_word at l rest short = refuse 9 at (reader at l rest)

-- 8 at the position on a spent limit; "but has already taken one from the limit"
unfoldable pub word_at : ℕ → Option ℕ → List ℕ → Read ℕ
word_at at (Some zero) rest = refuse 8 at (reader at (Some 0) rest)
word_at at (Some (suc n)) rest = stream_word at (Some n) rest (front_of rest)
word_at at None rest = stream_word at None rest (front_of rest)

-- a word
abbrev pub read_word : Parse ℕ
read_word r = word_at r.at r.limit r.rest

-- a 64-bit literal: two words; "whose second word is missing leaves the position four bytes on"
unfoldable pub read_long : Parse ℕ
read_long = do
  low ← read_word
  high ← read_word
  give (long low high)

-- STRINGS: "Refused strings move nothing."

-- so many words off the limit
abbrev pub less : Option ℕ → ℕ → Option ℕ
less None n = None
less (Some m) n = Some (m - n)

-- "With a limit, only the limit's bytes are searched"
abbrev pub searched : Option ℕ → List ℕ → List ℕ
searched None rest = rest
searched (Some n) rest = take (4 * n) rest

-- "none found is refusal 8 at their end. Without a limit it is refusal 9 at the string's start."
abbrev pub no_zero : Option ℕ → Parse (List ℕ)
no_zero None r = refuse 9 r.at r
no_zero (Some n) r = refuse 8 (r.at + 4 * n) r

-- the reader after a string of so many bytes
abbrev pub past_text : ℕ → Reader → Reader
past_text n r = reader (r.at + 4 * text_words n) (less r.limit (text_words n)) (drop (4 * text_words n) r.rest)

-- a string that ends: 11 at its start where it is not UTF-8, else its words are taken
abbrev pub text_found : Option (List ℕ) → Parse (List ℕ)
text_found None r = no_zero r.limit r
text_found (Some s) r = if is_utf8 s then got s (past_text (length s) r) else refuse 11 r.at r

-- the limit runs past the bytes
abbrev pub limit_past : Option ℕ → List ℕ → Bool
limit_past None rest = false
limit_past (Some n) rest = ltb (length rest) (4 * n)

-- a string; "The Rust panics on a limit that runs past the bytes ..; the port gives 9 at the string's start."
unfoldable pub read_text : Parse (List ℕ)
read_text r =
    if limit_past r.limit r.rest then refuse 9 r.at r
    else text_found (until_zero (searched r.limit r.rest)) r

-- FROM ANY POSITION: the decoder's calls, for any position and limit

-- the reader at a position of some bytes, with a limit
unfoldable pub reader_at : List ℕ → ℕ → Option ℕ → Reader
reader_at s at l = reader at l (drop at s)

-- a string; "or a string read from beyond them; the port gives 9 at the string's start"
unfoldable pub read_text_at : List ℕ → ℕ → Option ℕ → Read (List ℕ)
read_text_at s at l = if ltb (length s) at then refuse 9 at (reader_at s at l) else read_text (reader_at s at l)
