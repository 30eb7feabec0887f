-- Matching: the operands of an instruction against the row of its opcode ("Matching"; the standard, 2.3 and 3).
use Rattle.std.specs.Prelude.{ℕ, zero, suc, ◌-◌, ◌/◌, ◌%◌, Bool, List, [], ◌∷◌, ◌++◌, eqb, if◌then◌else◌}
use Rattle.std.specs.Prelude.{Option, None, Some}
use Rattle.spec.specs.Base.{is_in, every}
use Rattle.spec.specs.Kinds.{is_enum, is_result, may_embed, is_long, is_text}
use Rattle.spec.specs.Reader.{Parse, ◌>>=◌, ◌into◌, give, refuse, refuse_with, here, spent, with_limit, read_word, read_long, read_text}
use Rattle.spec.specs.Grammar.{Slot, slot, Grammar, row_of, parameters_for}
use Rattle.spec.specs.Records.{Operand, narrow, wide, text, Instr, Entry, entry}
use Rattle.spec.specs.Types.{entry_of}

-- ENUMERANTS

-- a value that is known, with the kinds of its parameters
pub data Known : Type 0 where
  known : ℕ → List ℕ → Known

-- "A value must be listed": 10 at its word, with the value, where it is not
abbrev pub known_or : ℕ → ℕ → Option (List ℕ) → Parse Known
known_or at v None = refuse_with 10 at v
known_or at v (Some ps) = give (known v ps)

-- an enumerant's word; "On a spent limit an enumerant read gives the number" 9
unfoldable pub read_enumerant : Grammar → ℕ → Parse Known
read_enumerant g k = do
  at ← here
  end ← spent
  if end then refuse 9 at else do
    v ← read_word
    known_or at v (parameters_for k v g)

-- the value alone
abbrev pub value_of : Known → ℕ
value_of (known v ps) = v

-- OPERANDS

-- one record of a kind: an enumerant (a parameter's kind has no parameters itself), a string, or one word
unfoldable pub read_one : Grammar → ℕ → Parse Operand
read_one g k =
    if is_enum k then read_enumerant g k into (λ x. narrow k (value_of x))
    else if is_text k then read_text into text
    else read_word into narrow k

-- one record of each kind
unfoldable pub read_each : Grammar → List ℕ → Parse (List Operand)
read_each g [] = give []
read_each g (k ∷ ks) = do
  o ← read_one g k
  os ← read_each g ks
  give (o ∷ os)

-- an enumerant's record, then "Parameters follow"
abbrev pub with_parameters : Grammar → ℕ → Known → Parse (List Operand)
with_parameters g k (known v ps) = read_each g ps into (λ os. narrow k v ∷ os)

-- the records of a kind without enumerants: an id and a number for 50, two ids for 51
abbrev pub parts_of : ℕ → List ℕ
parts_of k = if eqb k 50 then 33 ∷ 34 ∷ [] else if eqb k 51 then 33 ∷ 33 ∷ [] else k ∷ []

-- `parse_operand`: an operand with its parameters
unfoldable pub read_operand : Grammar → ℕ → Parse (List Operand)
read_operand g k = if is_enum k then read_enumerant g k >>= with_parameters g k else read_each g (parts_of k)

-- LITERALS BY TYPE

-- "integers 8, 16, 32 one word, 64 two; floats 16, 32 one, 64 two; other widths 12": the kind of the record, or none
abbrev pub literal_kind : ℕ → ℕ → Option ℕ
literal_kind width sort =
    if eqb sort 3
    then (if is_in width (16 ∷ 32 ∷ []) then Some 37 else if eqb width 64 then Some 38 else None)
    else (if is_in width (8 ∷ 16 ∷ 32 ∷ []) then Some 34 else if eqb width 64 then Some 36 else None)

-- "unknown type one word"
abbrev pub literal_kind_of : Option Entry → Option ℕ
literal_kind_of None = Some 34
literal_kind_of (Some (entry id width sort)) = literal_kind width sort

-- a literal as a record of a kind: 12 at the position, before a word is read, where there is none
unfoldable pub read_literal_as : Option ℕ → Parse Operand
read_literal_as None = here >>= (λ at. refuse 12 at)
read_literal_as (Some k) = if is_long k then read_long into wide k else read_word into narrow k

-- the entry of an id that is there
abbrev pub type_of : Option ℕ → List Entry → Option Entry
type_of None types = None
type_of (Some id) types = entry_of id types

-- `parse_literal`: a literal by the type of an id
unfoldable pub read_literal : List Entry → Option ℕ → Parse Operand
read_literal types id = read_literal_as (literal_kind_of (type_of id types))

-- EMBEDDED OPERATIONS

-- "Each operand of that row except 46 and 47 is read exactly once, quantifier ignored."
unfoldable pub read_once : Grammar → List Slot → Parse (List Operand)
read_once g [] = give []
read_once g (slot k q ∷ ss) =
    if is_result k then read_once g ss else do
      os ← read_operand g k
      more ← read_once g ss
      give (os ++ more)

-- may the operand stand in an embedded row
abbrev pub embeds : Slot → Bool
embeds (slot k q) = may_embed k

-- 13 for no row, 14 for a row with 39, 48 or 49: "13 and 14 name the place after the number"
abbrev pub embedded_by : Grammar → ℕ → Option (List Slot) → Parse (List Operand)
embedded_by g op None = here >>= (λ at. refuse 13 at)
embedded_by g op (Some ss) =
    if every embeds ss then read_once g ss into (λ os. narrow 39 op ∷ os) else here >>= (λ at. refuse 14 at)

-- `parse_spec_constant_op`: "the low sixteen bits of the word are looked up"
unfoldable pub read_embedded : Grammar → Parse (List Operand)
read_embedded g = do
  w ← read_word
  embedded_by g (w % 65536) (row_of (w % 65536) g.rows)

-- ROWS

-- what of an instruction is read already
pub record Seen : Type 0 where
  pub result_type : Option ℕ
  pub result_id : Option ℕ
  pub operands : List Operand

-- nothing read yet
abbrev pub nothing_seen : Seen
nothing_seen = record { result_type = None; result_id = None; operands = [] }

-- a result type more
abbrev pub with_type : Seen → ℕ → Seen
with_type s w = record { result_type = Some w; result_id = s.result_id; operands = s.operands }

-- a result id more
abbrev pub with_id : Seen → ℕ → Seen
with_id s w = record { result_type = s.result_type; result_id = Some w; operands = s.operands }

-- operands more
abbrev pub with_operands : Seen → List Operand → Seen
with_operands s os = record { result_type = s.result_type; result_id = s.result_id; operands = s.operands ++ os }

-- the id that the first operand holds
abbrev pub selector : List Operand → Option ℕ
selector (narrow k v ∷ os) = if eqb k 33 then Some v else None
selector (wide k v ∷ os) = None
selector (text s ∷ os) = None
selector [] = None

-- kind 49: a literal "by the type of the first operand", then an id
unfoldable pub read_pair : List Entry → List Operand → Parse (List Operand)
read_pair types os = do
  o ← read_literal types (selector os)
  id ← read_word
  give (o ∷ narrow 33 id ∷ [])

-- the records of an operand that is no result; "Kind 48 is read by the type of the result type"
unfoldable pub read_kind : Grammar → List Entry → Seen → ℕ → Parse (List Operand)
read_kind g types s k =
    if eqb k 48 then read_literal types s.result_type into (λ o. o ∷ [])
    else if eqb k 49 then read_pair types s.operands
    else if eqb k 39 then read_embedded g
    else read_operand g k

-- an operand of a row
unfoldable pub read_slot : Grammar → List Entry → Seen → ℕ → Parse Seen
read_slot g types s k =
    if eqb k 46 then read_word into with_type s
    else if eqb k 47 then read_word into with_id s
    else read_kind g types s k into with_operands s

-- "with none left, One is 6 and the others end the walk"
abbrev pub none_left : List Slot → Seen → Parse Seen
none_left [] s = give s
none_left (slot k q ∷ ss) s = if eqb q 0 then here >>= (λ at. refuse 6 at) else give s

-- "and ZeroOrMore stays"
abbrev pub slots_after : ℕ → ℕ → List Slot → List Slot
slots_after k q ss = if eqb q 2 then slot k q ∷ ss else ss

-- `parse_operands`: "with words left an operand is read". Each takes a word or more, so where n is at least the words left, none is
-- left when n is zero
unfoldable pub read_row : Grammar → List Entry → ℕ → List Slot → Seen → Parse Seen
read_row g types zero ss s = none_left ss s
read_row g types (suc n) [] s = give s
read_row g types (suc n) (slot k q ∷ ss) s = do
  end ← spent
  if end then none_left (slot k q ∷ ss) s else do
    t ← read_slot g types s k
    read_row g types n (slots_after k q ss) t

-- INSTRUCTIONS

-- the instruction at an offset, of so many words
abbrev pub instr_of : ℕ → ℕ → ℕ → Seen → Instr
instr_of at count op s =
    record {
      opcode = op;
      result_type = s.result_type;
      result_id = s.result_id;
      operands = s.operands;
      offset = at;
      words = count;
    }

-- words left over are 7 at the position
unfoldable pub all_read : Instr → Parse Instr
all_read i = do
  at ← here
  end ← spent
  if end then with_limit None into (λ u. i) else refuse 7 at

-- an opcode without a row is 5, with the opcode; then "operands left to right; words left over"
abbrev pub read_body : Grammar → List Entry → ℕ → ℕ → ℕ → Option (List Slot) → Parse Instr
read_body g types at count op None = refuse_with 5 at op
read_body g types at count op (Some ss) = do
  u ← with_limit (Some (count - 1))
  s ← read_row g types (count - 1) ss nothing_seen
  all_read (instr_of at count op s)

-- `parse_inst`: "Check order for an instruction: word count zero; opcode; operands left to right; words left over"
unfoldable pub read_instr : Grammar → List Entry → Parse Instr
read_instr g types = do
  at ← here
  w ← read_word
  if eqb (w / 65536) 0 then refuse 4 at else read_body g types at (w / 65536) (w % 65536) (row_of (w % 65536) g.rows)
