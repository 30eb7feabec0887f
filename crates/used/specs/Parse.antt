-- The parser's answers, and the stores after those that are good, as what the reader of `spec` comes to.
use Rattle.std.specs.Prelude.{ℕ, ◌+◌, ◌*◌, ◌-◌, ◌%◌, ◌≤◌, ◌≡◌, Bool, true, ◌&&◌, ◌||◌, List, [], ◌∷◌, ◌++◌, eqb, length, drop, if◌then◌else◌}
use Rattle.std.specs.Prelude.{Option, None, Some}
use Rattle.spec.specs.Base.{within}
use Rattle.spec.specs.Words.{bits_of}
use Rattle.spec.specs.Kinds.{is_mask, is_result, may_be_operand, may_be_parameter, may_embed}
use Rattle.spec.specs.Grammar.{Grammar, Enumerant, Slot, slot, listed, parameters_of, slots_of, items}
use Rattle.spec.specs.Records.{narrow, operands_size, operands_log, operands_strings, Entry}
use Rattle.spec.specs.Records as records
use Rattle.spec.specs.Reader.{Read, got, refused, Parse, ◌>>=◌, ◌into◌, give, read_word}
use Rattle.spec.specs.Plain.{first_break, operands_break, in_order}
use Rattle.spec.specs.Types.{literal_int}
use Rattle.spec.specs.Match.{Seen, nothing_seen, selector, literal_kind_of, type_of, read_literal_as, read_operand, read_embedded}
use Rattle.operand.specs.declared.Parts.{Parts}
use Rattle.operand.specs.Parts.{parts}
use Rattle.operand.specs.Log.{record_length, Laid}
use Rattle.decoder.specs.declared.Decoder.{Decoder}
use Rattle.decoder.specs.Answer.{reader_of}
use Rattle.tracker.specs.Track.{FirstFit, literal_of}
use Rattle.used.specs.declared.used.Used.{Used}
use Rattle.decoder.specs.Answer.{Answered}
use Rattle.std.specs.Prelude.{Err, Ok}

-- WHAT IS NOTED OF OPERANDS

-- how many operands there are, the literal numbers of the first two, and the id that the first one is
pub record Notes : Type 0 where
  pub count : ℕ
  pub first : Option ℕ
  pub second : Option ℕ
  pub id : Option ℕ

-- the id of an operand that is an IdRef, the arm of kind 33
unfoldable pub id_ref_of : Parts → Option ℕ
id_ref_of p = if eqb p.kind 33 then Some p.value else None

-- the first operand in use
abbrev pub first_of : Used → Parts
first_of u = parts u.kind1 u.value1

-- the second
abbrev pub second_of : Used → Parts
second_of u = parts u.kind2 u.value2

-- the id that the first operand in use is
unfoldable pub selector_of : Used → Option ℕ
selector_of u = if eqb u.operands 0 then None else id_ref_of (first_of u)

-- the notes of what is in use
unfoldable pub notes_of : Used → Notes
notes_of u = record { count = u.operands; first = literal_of (first_of u); second = literal_of (second_of u); id = selector_of u }

-- the notes with one operand more, of which the literal number and the id are known
unfoldable pub note_as : Option ℕ → Option ℕ → Notes → Notes
note_as a i n =
    record {
      count = n.count + 1;
      first = if eqb n.count 0 then a else n.first;
      second = if eqb n.count 1 then a else n.second;
      id = if eqb n.count 0 then i else n.id;
    }

-- one operand more
unfoldable pub note : records.Operand → Notes → Notes
note o n = note_as (literal_int o) (selector (o ∷ [])) n

-- operands more
unfoldable pub notes : List records.Operand → Notes → Notes
notes [] n = n
notes (o ∷ os) n = notes os (note o n)

-- ONE RECORD MORE

-- the first two operands in use are operands, where they are there
abbrev pub FirstFits : Used → Type 0
FirstFits u = FirstFit u.operands (first_of u) (second_of u)

-- the same results and strings, and one record of a kind and a value more
pub record Pushed (k v : ℕ) (u r : Used) : Type 0 where
  pub rtype : r.rtype ≡ u.rtype
  pub rid : r.rid ≡ u.rid
  pub base : r.base ≡ u.base
  pub strings : r.strings ≡ u.strings
  pub log : r.log ≡ u.log + record_length (parts k v)
  pub noted : notes_of r ≡ note_as (literal_of (parts k v)) (id_ref_of (parts k v)) (notes_of u)
  pub fits : FirstFits u → FirstFits r

-- the same results, a string's record more, so many bytes, and what breaks its padding
pub record Copied (size b : ℕ) (u r : Used) : Type 0 where
  pub rtype : r.rtype ≡ u.rtype
  pub rid : r.rid ≡ u.rid
  pub base : r.base ≡ u.base
  pub strings : r.strings ≡ u.strings + size
  pub log : r.log ≡ u.log + 9
  pub noted : notes_of r ≡ note_as None None (notes_of u)
  pub fits : FirstFits u → FirstFits r
  pub breaks : r.breaks ≡ first_break u.breaks b

-- READS AND STORES

-- so many words were taken, all of them within the bytes; a limit had them, and lost them
pub record Step (s : List ℕ) (d e : Decoder) (n : ℕ) : Type 0 where
  pub next : e.offset ≡ d.offset + 4 * n
  pub inside : e.offset ≤ length s
  pub counted : (m : ℕ) → d.limit ≡ Some m → (n ≤ m) × (e.limit ≡ Some (m - n))

-- the words that a limit has left
unfoldable pub left_of : Option ℕ → ℕ
left_of None = 0
left_of (Some n) = n

-- from a decoder to a later one, so many bytes on or more: the limit ends where it did
pub record Went (d e : Decoder) (m : ℕ) : Type 0 where
  pub pace : e.offset + 4 * left_of e.limit ≡ d.offset + 4 * left_of d.limit
  pub forth : d.offset + m ≤ e.offset

-- so little is in use that nothing wraps: a record of nine bytes at most for each word, a byte of string for each byte; there is a limit,
-- and the first two operands are operands
pub record Few (s : List ℕ) (d : Decoder) (u : Used) : Type 0 where
  pub short : length s ≤ 67108864
  pub inside : d.offset ≤ length s
  pub left : ℕ
  pub limited : d.limit ≡ Some left
  pub operands : 4 * u.operands ≤ d.offset
  pub strings : u.base + u.strings ≤ d.offset
  pub log : 4 * u.log ≤ 9 * d.offset
  pub fits : FirstFits u

-- operands are what was added to what is in use and, where they fit, to the stores
pub record Held (log₀ strs₀ log strs : List ℕ) (u n : Used) (os : List records.Operand) : Type 0 where
  pub rtype : n.rtype ≡ u.rtype
  pub rid : n.rid ≡ u.rid
  pub base : n.base ≡ u.base
  pub nlog : n.log ≡ u.log + length (operands_log (u.base + u.strings) os)
  pub nstrings : n.strings ≡ u.strings + length (operands_strings os)
  pub noted : notes_of n ≡ notes os (notes_of u)
  pub log_laid : Laid log₀ u.log (operands_log (u.base + u.strings) os) log
  pub strings_laid : Laid strs₀ u.strings (operands_strings os) strs

-- operands stand one after the other from a decoder to a later one, and what breaks is what broke before them, else what breaks them
pub record Spotted (s : List ℕ) (d e : Decoder) (u n : Used) (os : List records.Operand) : Type 0 where
  pub size : e.offset ≡ d.offset + 4 * operands_size os
  pub breaks : n.breaks ≡ first_break u.breaks (operands_break d.offset os (drop d.offset s))

-- operands were read, and they are held
pub record Accepted (s : List ℕ) (d : Decoder) (m : ℕ) (x : Read (List records.Operand)) (log₀ strs₀ log strs : List ℕ) (u : Used) (e : Decoder) (n : Used) : Type 0 where
  pub operands : List records.Operand
  pub read : x ≡ got operands (reader_of s e)
  pub held : Held log₀ strs₀ log strs u n operands
  pub few : Few s e n
  pub went : Went d e m
  pub spotted : Spotted s d e u n operands

-- the answer to a read that comes to x, so many bytes on or more, and the stores after it where it is good
unfoldable pub Parses : List ℕ → Decoder → ℕ → Read (List records.Operand) → List ℕ → List ℕ → List ℕ → List ℕ → Used → Answered Used → Type 0
Parses s d m x log₀ strs₀ log strs u (Ok (n, e)) = Accepted s d m x log₀ strs₀ log strs u e n
Parses s d m x log₀ strs₀ log strs u (Err (y, e)) = x ≡ refused y (reader_of s e)

-- operands before those of the rest
unfoldable pub prefix : List records.Operand → Read (List records.Operand) → Read (List records.Operand)
prefix a (got os r) = got (a ++ os) r
prefix a (refused y r) = refused y r

-- KINDS

-- the kinds of one record: a parameter's, or a float literal of one word
unfoldable pub is_single : ℕ → Bool
is_single k = may_be_parameter k || eqb k 37

-- those of one word as it stands: ids and numbers, or a float literal of one word
unfoldable pub is_word : ℕ → Bool
is_word k = within 31 k 35 || eqb k 37

-- the kinds that `parse_operand` reads, with no type, embedded operation or result: one record and its parameters, or a pair
unfoldable pub is_untyped : ℕ → Bool
is_untyped k = may_be_parameter k || within 50 k 51

-- what a row's operand may be
unfoldable pub is_operand : Slot → Bool
is_operand (slot k q) = may_be_operand k

-- ENUMERANTS

-- the parameters from a place on
unfoldable pub parameters_at : List ℕ → ℕ → List ℕ
parameters_at g p = parameters_of (items (drop p g))

-- the parameters that are listed, or none
unfoldable pub or_none : Option (List ℕ) → List ℕ
or_none None = []
or_none (Some ps) = ps

-- the parameters of each of some bits, in their order
unfoldable pub bit_parameters : ℕ → List Enumerant → List ℕ → List ℕ
bit_parameters k es [] = []
bit_parameters k es (b ∷ bs) = or_none (listed k b es) ++ bit_parameters k es bs

-- the parameters of a value: of each set bit for a mask
unfoldable pub parameters_are : ℕ → ℕ → Grammar → List ℕ
parameters_are k v g = if is_mask k then bit_parameters k g.enumerants (bits_of v) else or_none (listed k v g.enumerants)

-- the parameters of a bit that is set
unfoldable pub if_set : ℕ → ℕ → ℕ → List Enumerant → List ℕ
if_set k b v es = if eqb (v % 2) 1 then or_none (listed k b es) else []

-- LITERALS BY TYPE

-- none, or a kind of a literal by type
unfoldable pub is_literal : Option ℕ → Bool
is_literal None = true
is_literal (Some k) = eqb k 34 || within 36 k 38

-- the kind of the literal that an operand is read as: by the type of the result type for 48, of the first operand for 49, none for others
unfoldable pub literal_for : List Entry → Used → ℕ → Option ℕ
literal_for types u k =
    if eqb k 48 then literal_kind_of (type_of u.rtype types)
    else if eqb k 49 then literal_kind_of (type_of (selector_of u) types)
    else None

-- a literal of a kind, as the one operand
unfoldable pub literal_alone : Option ℕ → Parse (List records.Operand)
literal_alone k = read_literal_as k into (λ o. o ∷ [])

-- a literal of a kind, then an id
unfoldable pub pair_alone : Option ℕ → Parse (List records.Operand)
pair_alone k = do
  o ← read_literal_as k
  w ← read_word
  give (o ∷ narrow 33 w ∷ [])

-- EMBEDDED OPERATIONS

-- the operands from a place on
unfoldable pub slots_at : List ℕ → ℕ → List Slot
slots_at g p = slots_of (items (drop p g))

-- what an operand of an embedded row may be
unfoldable pub is_inner : ℕ → Bool
is_inner k = may_be_operand k && may_embed k

-- an operand of an embedded row, read once; a result is not there
unfoldable pub once_alone : Grammar → ℕ → Parse (List records.Operand)
once_alone g k = if is_result k then give [] else read_operand g k

-- ROWS

-- an operand that is no result, where a literal by type is of a kind
unfoldable pub kind_alone : Grammar → Option ℕ → ℕ → Parse (List records.Operand)
kind_alone g literal k =
    if eqb k 48 then literal_alone literal
    else if eqb k 49 then pair_alone literal
    else if eqb k 39 then read_embedded g
    else read_operand g k

-- the notes of no operand
unfoldable pub no_notes : Notes
no_notes = record { count = 0; first = None; second = None; id = None }

-- what was seen of a row is what was added to what was in use before it and, where it fits, to the stores
pub record Walked (log₀ strs₀ log strs : List ℕ) (u n : Used) (x : Seen) : Type 0 where
  pub rtype : n.rtype ≡ x.result_type
  pub rid : n.rid ≡ x.result_id
  pub base : n.base ≡ u.base
  pub nlog : n.log ≡ u.log + length (operands_log (u.base + u.strings) x.operands)
  pub nstrings : n.strings ≡ u.strings + length (operands_strings x.operands)
  pub noted : notes_of n ≡ notes x.operands no_notes
  pub log_laid : Laid log₀ u.log (operands_log (u.base + u.strings) x.operands) log
  pub strings_laid : Laid strs₀ u.strings (operands_strings x.operands) strs

-- operands of a row were read, so many bytes on or more
pub record RowRead (s : List ℕ) (d : Decoder) (m : ℕ) (x : Read Seen) (log₀ strs₀ log strs : List ℕ) (u : Used) (e : Decoder) (n : Used) : Type 0 where
  pub seen : Seen
  pub read : x ≡ got seen (reader_of s e)
  pub walked : Walked log₀ strs₀ log strs u n seen
  pub few : Few s e n
  pub went : Went d e m
  pub spotted : Spotted s d e u n (in_order seen.result_type seen.result_id seen.operands)

-- the answer to a walk over a row that comes to x, and the stores after it where it is good
unfoldable pub Walks : List ℕ → Decoder → ℕ → Read Seen → List ℕ → List ℕ → List ℕ → List ℕ → Used → Answered Used → Type 0
Walks s d m x log₀ strs₀ log strs u (Ok (n, e)) = RowRead s d m x log₀ strs₀ log strs u e n
Walks s d m x log₀ strs₀ log strs u (Err (y, e)) = x ≡ refused y (reader_of s e)

-- where the kind is a result's, that result is free: nothing was seen before a result type, and no result id or operand before a result id
abbrev pub ResultFree : ℕ → Seen → Type 0
ResultFree k y =
    (eqb k 46 ≡ true → y ≡ nothing_seen) × (eqb k 47 ≡ true → (y.result_id ≡ None) × (y.operands ≡ []))

-- one operand of a row was read, a word or more, after what was seen: what stands there then follows on, where results come first
pub record SlotRead (s : List ℕ) (d : Decoder) (k : ℕ) (y : Seen) (x : Read Seen) (log₀ strs₀ log strs : List ℕ) (u₀ u : Used) (e : Decoder) (n : Used) : Type 0 where
  pub seen : Seen
  pub read : x ≡ got seen (reader_of s e)
  pub walked : Walked log₀ strs₀ log strs u₀ n seen
  pub few : Few s e n
  pub went : Went d e 4
  pub more : List records.Operand
  pub spotted : Spotted s d e u n more
  pub adds : ResultFree k y
      → in_order seen.result_type seen.result_id seen.operands ≡ in_order y.result_type y.result_id y.operands ++ more
  pub others : eqb k 46 ≡ true → (seen.result_id ≡ y.result_id) × (seen.operands ≡ y.operands)

-- the answer to the read of one operand of a row, after what was seen
unfoldable pub SlotWalk : List ℕ → Decoder → ℕ → Seen → Read Seen → List ℕ → List ℕ → List ℕ → List ℕ → Used → Used → Answered Used → Type 0
SlotWalk s d k y x log₀ strs₀ log strs u₀ u (Ok (n, e)) = SlotRead s d k y x log₀ strs₀ log strs u₀ u e n
SlotWalk s d k y x log₀ strs₀ log strs u₀ u (Err (z, e)) = x ≡ refused z (reader_of s e)

-- the same, whatever the walk has seen so far
unfoldable pub SlotWalks : List ℕ → Decoder → ℕ → (Seen → Read Seen) → List ℕ → List ℕ → List ℕ → List ℕ → Used → Answered Used → Type 0
SlotWalks s d k f log strs log₁ strs₁ u v =
    (log₀ strs₀ : List ℕ) (u₀ : Used) (x : Seen) → Walked log₀ strs₀ log strs u₀ u x → SlotWalk s d k x (f x) log₀ strs₀ log₁ strs₁ u₀ u v
