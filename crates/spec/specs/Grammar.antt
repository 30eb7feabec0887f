-- A grammar's bytes as items, the rules that make it well-formed, and its rows and enumerants.
use Rattle.std.specs.Prelude.{ℕ, zero, suc, ◌+◌, ◌*◌, Bool, true, false, not, ◌&&◌, ◌||◌, List, [], ◌∷◌, ◌++◌, leb, ltb, eqb, length, get_or, if◌then◌else◌}
use Rattle.std.specs.Prelude.{Option, None, Some}
use Rattle.spec.specs.Base.{implies, has, every}
use Rattle.spec.specs.Words.{four_at, bits_of}
use Rattle.spec.specs.Kinds.{is_mask, is_enum, may_be_operand, may_be_parameter, is_result}

-- BYTES TO ITEMS: "One byte of kind, then a fixed body, numbers low byte first"

-- row: opcode; operand: kind, quantifier; enumerant: kind, value; parameter: kind; broken: no item, or one cut short
pub data Item : Type 0 where
  row : ℕ → Item
  operand : ℕ → ℕ → Item
  enumerant : ℕ → ℕ → Item
  parameter : ℕ → Item
  broken : Item

-- how many bytes follow the byte of kind: 2 for 1 and 2, 5 for 3, 1 for 4
abbrev pub body_length : ℕ → ℕ
body_length b = if leb b 2 then 2 else if eqb b 3 then 5 else 1

-- the item whose byte of kind is b, with the bytes after it
abbrev pub item_of : ℕ → List ℕ → Item
item_of b l =
    if not (has (body_length b) l) then broken
    else if eqb b 1 then row (get_or l 0 0 + 256 * get_or l 1 0)
    else if eqb b 2 then operand (get_or l 0 0) (get_or l 1 0)
    else if eqb b 3 then enumerant (get_or l 0 0) (four_at 1 l)
    else if eqb b 4 then parameter (get_or l 0 0)
    else broken

-- the items of some bytes: the first starts after the bytes skipped, and each other where the one before it ends
unfoldable pub items_from : ℕ → List ℕ → List Item
items_from n [] = []
items_from (suc n) (b ∷ l) = items_from n l
items_from zero (b ∷ l) = item_of b l ∷ items_from (body_length b) l

-- the items of a grammar
unfoldable pub items : List ℕ → List Item
items g = items_from 0 g

-- OPERANDS OF A ROW

-- an operand of a row: kind and quantifier, "0 One, 1 ZeroOrOne, 2 ZeroOrMore"
pub data Slot : Type 0 where
  slot : ℕ → ℕ → Slot

-- is it of that kind and quantifier
abbrev pub is_slot : ℕ → ℕ → Slot → Bool
is_slot k q (slot j p) = eqb j k && eqb p q

-- "46 only first and One": it stands first
abbrev pub is_first : List Slot → Bool
is_first [] = true
is_first (s ∷ ss) = false

-- the operands so far are 46 alone
abbrev pub after_type : List Slot → Bool
after_type [] = false
after_type (s ∷ []) = is_slot 46 0 s
after_type (s ∷ t ∷ ss) = false

-- "after 46": the row's first operand is 46
abbrev pub typed : List Slot → Bool
typed [] = false
typed (s ∷ ss) = is_slot 46 0 s

-- "after a first non-result operand of kind 33 and One"
abbrev pub selects : List Slot → Bool
selects [] = false
selects (slot k q ∷ ss) = if is_result k then selects ss else is_slot 33 0 (slot k q)

-- "46 only first and One; 47 only first or just after 46, One."
abbrev pub result_rule : List Slot → ℕ → ℕ → Bool
result_rule before k q =
    implies (eqb k 46) (is_first before && eqb q 0)
    && implies (eqb k 47) ((is_first before || after_type before) && eqb q 0)

-- "48 only in rows 43 and 50, One, after 46. 49 only in row 251, ZeroOrMore, after a first non-result operand of kind 33
-- and One. 39 only in row 52, One."
abbrev pub literal_rule : ℕ → List Slot → ℕ → ℕ → Bool
literal_rule op before k q =
    implies (eqb k 48) ((eqb op 43 || eqb op 50) && eqb q 0 && typed before)
    && implies (eqb k 49) (eqb op 251 && eqb q 2 && selects before)
    && implies (eqb k 39) (eqb op 52 && eqb q 0)

-- "Rows 21 and 22, where present, are 47, 34, 34 and 47, 34, all One."
abbrev pub fixed_row : ℕ → Option (List ℕ)
fixed_row op = if eqb op 21 then Some (47 ∷ 34 ∷ 34 ∷ []) else if eqb op 22 then Some (47 ∷ 34 ∷ []) else None

-- the next operand of such a row is the one that stands at its place
abbrev pub fixed_next : Option (List ℕ) → List Slot → ℕ → ℕ → Bool
fixed_next None before k q = true
fixed_next (Some ks) before k q = eqb q 0 && eqb k (get_or ks (length before) 0)

-- such a row ends where all its operands are there
abbrev pub fixed_end : Option (List ℕ) → List Slot → Bool
fixed_end None before = true
fixed_end (Some ks) before = eqb (length before) (length ks)

-- the next operand of a row, after those before it
abbrev pub operand_rule : ℕ → List Slot → ℕ → ℕ → Bool
operand_rule op before k q =
    may_be_operand k && leb q 2 && result_rule before k q && literal_rule op before k q && fixed_next (fixed_row op) before k q

-- the row that ends here is whole
abbrev pub row_end : ℕ → List Slot → Bool
row_end op before = fixed_end (fixed_row op) before

-- ENUMERANTS

-- a kind that has enumerants; "for masks .. the value is zero or one bit"
abbrev pub enumerant_rule : ℕ → ℕ → Bool
enumerant_rule k v = is_enum k && implies (is_mask k) (leb (length (bits_of v)) 1)

-- "(kind, value) strictly rising"
abbrev pub rises : ℕ → ℕ → ℕ → ℕ → Bool
rises j u k v = ltb j k || (eqb j k && ltb u v)

-- a parameter's kind; "and zero has no parameters"
abbrev pub parameter_rule : ℕ → ℕ → ℕ → Bool
parameter_rule j u k = may_be_parameter k && implies (is_mask j) (ltb 0 u)

-- THE RULES, ITEM BY ITEM

-- what went before an item: nothing; a row, with its opcode and its operands so far; an enumerant, with kind and value
pub data Before : Type 0 where
  start : Before
  in_row : ℕ → List Slot → Before
  in_enumerant : ℕ → ℕ → Before

-- what holds at an item: "rows before enumerants; opcodes strictly rising", operands in rows, parameters in enumerants
unfoldable pub rule : Before → Item → Bool
rule start (row o) = true
rule start (operand k q) = false
rule start (enumerant k v) = enumerant_rule k v
rule start (parameter k) = false
rule start broken = false
rule (in_row op before) (row o) = row_end op before && ltb op o
rule (in_row op before) (operand k q) = operand_rule op before k q
rule (in_row op before) (enumerant k v) = row_end op before && enumerant_rule k v
rule (in_row op before) (parameter k) = false
rule (in_row op before) broken = false
rule (in_enumerant j u) (row o) = false
rule (in_enumerant j u) (operand k q) = false
rule (in_enumerant j u) (enumerant k v) = rises j u k v && enumerant_rule k v
rule (in_enumerant j u) (parameter k) = parameter_rule j u k
rule (in_enumerant j u) broken = false

-- a row with one operand more; elsewhere no operand may stand
abbrev pub with_slot : Before → ℕ → ℕ → Before
with_slot (in_row op before) k q = in_row op (before ++ (slot k q ∷ []))
with_slot start k q = start
with_slot (in_enumerant j u) k q = in_enumerant j u

-- what went before the item after this one
unfoldable pub next : Before → Item → Before
next s (row o) = in_row o []
next s (operand k q) = with_slot s k q
next s (enumerant k v) = in_enumerant k v
next s (parameter k) = s
next s broken = s

-- what holds at the end
abbrev pub at_end : Before → Bool
at_end start = true
at_end (in_row op before) = row_end op before
at_end (in_enumerant j u) = true

-- the rules hold at each item and at the end
unfoldable pub rules_from : Before → List Item → Bool
rules_from s [] = at_end s
rules_from s (x ∷ xs) = let more = rules_from (next s x) xs in rule s x && more

-- ROWS AND ENUMERANTS

-- a row: its opcode and its operands
pub record Row : Type 0 where
  pub opcode : ℕ
  pub slots : List Slot

-- an enumerant: its kind, its value, and the kinds of its parameters
pub record Enumerant : Type 0 where
  pub kind : ℕ
  pub value : ℕ
  pub parameters : List ℕ

-- a grammar: its rows and its enumerants
pub record Grammar : Type 0 where
  pub rows : List Row
  pub enumerants : List Enumerant

-- the operands that items begin with
unfoldable pub slots_of : List Item → List Slot
slots_of [] = []
slots_of (operand k q ∷ xs) = slot k q ∷ slots_of xs
slots_of (row o ∷ xs) = []
slots_of (enumerant k v ∷ xs) = []
slots_of (parameter k ∷ xs) = []
slots_of (broken ∷ xs) = []

-- the parameters that items begin with
unfoldable pub parameters_of : List Item → List ℕ
parameters_of [] = []
parameters_of (parameter k ∷ xs) = k ∷ parameters_of xs
parameters_of (row o ∷ xs) = []
parameters_of (operand k q ∷ xs) = []
parameters_of (enumerant k v ∷ xs) = []
parameters_of (broken ∷ xs) = []

-- the rows of some items
unfoldable pub rows_of : List Item → List Row
rows_of [] = []
rows_of (row o ∷ xs) = record { opcode = o; slots = slots_of xs } ∷ rows_of xs
rows_of (operand k q ∷ xs) = rows_of xs
rows_of (enumerant k v ∷ xs) = rows_of xs
rows_of (parameter k ∷ xs) = rows_of xs
rows_of (broken ∷ xs) = rows_of xs

-- the enumerants of some items
unfoldable pub enumerants_of : List Item → List Enumerant
enumerants_of [] = []
enumerants_of (enumerant k v ∷ xs) = record { kind = k; value = v; parameters = parameters_of xs } ∷ enumerants_of xs
enumerants_of (row o ∷ xs) = enumerants_of xs
enumerants_of (operand k q ∷ xs) = enumerants_of xs
enumerants_of (parameter k ∷ xs) = enumerants_of xs
enumerants_of (broken ∷ xs) = enumerants_of xs

-- the grammar that items say
unfoldable pub grammar_by : List Item → Grammar
grammar_by xs = record { rows = rows_of xs; enumerants = enumerants_of xs }

-- the grammar that bytes say
unfoldable pub grammar_of : List ℕ → Grammar
grammar_of g = grammar_by (items g)

-- WELL-FORMED

-- no enumerant of the kind has parameters
unfoldable pub parameterless : List Enumerant → ℕ → Bool
parameterless es k = every (λ e. implies (eqb e.kind k) (not (has 1 e.parameters))) es

-- parameters are of kinds "that have no parameters themselves"
unfoldable pub all_flat : List Enumerant → Bool
all_flat es = every (λ e. every (parameterless es) e.parameters) es

-- every rule on items
unfoldable pub well_formed_items : List Item → Bool
well_formed_items xs = rules_from start xs && all_flat (enumerants_of xs)

-- "Well-formed: at most 65,535 bytes", and every rule
unfoldable pub well_formed : List ℕ → Bool
well_formed g = leb (length g) 65535 && well_formed_items (items g)

-- LOOKING UP

-- the operands of the row with an opcode
unfoldable pub row_of : ℕ → List Row → Option (List Slot)
row_of op [] = None
row_of op (r ∷ rs) = let later = row_of op rs in if eqb r.opcode op then Some r.slots else later

-- the parameters of the enumerant with a kind and a value
unfoldable pub listed : ℕ → ℕ → List Enumerant → Option (List ℕ)
listed k v [] = None
listed k v (e ∷ es) =
    let later = listed k v es in
    if eqb e.kind k && eqb e.value v then Some e.parameters else later

-- the parameters of two values, where both are listed
abbrev pub both_listed : Option (List ℕ) → Option (List ℕ) → Option (List ℕ)
both_listed None b = None
both_listed (Some a) None = None
both_listed (Some a) (Some b) = Some (a ++ b)

-- the parameters of each of some bits, in their order
unfoldable pub bits_listed : ℕ → List ℕ → List Enumerant → Option (List ℕ)
bits_listed k [] es = Some []
bits_listed k (b ∷ bs) es = both_listed (listed k b es) (bits_listed k bs es)

-- "A value must be listed. A mask is known when each set bit is listed; zero always is. Parameters follow, for masks lowest bit
-- first."
unfoldable pub parameters_for : ℕ → ℕ → Grammar → Option (List ℕ)
parameters_for k v g = if is_mask k then bits_listed k (bits_of v) g.enumerants else listed k v g.enumerants
