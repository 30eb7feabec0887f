-- The types of ids, as `TypeTracker::track` keeps them.
use Rattle.std.specs.Prelude.{ℕ, Bool, List, [], ◌∷◌, eqb, if◌then◌else◌}
use Rattle.std.specs.Prelude.{Option, None, Some}
use Rattle.spec.specs.Base.{is_in}
use Rattle.spec.specs.Records.{Operand, narrow, wide, text, Instr, Entry, entry}

-- `is_type`: the opcodes whose results `track` takes for types
abbrev pub tracked_types : List ℕ
tracked_types =
    19 ∷ 20 ∷ 21 ∷ 22 ∷ 23 ∷ 24 ∷ 25 ∷ 26 ∷ 27 ∷ 28 ∷ 29 ∷ 30 ∷ 31 ∷ 32 ∷ 33 ∷ 34 ∷ 35 ∷ 36 ∷ 37 ∷ 38 ∷ 39 ∷ 4472 ∷ 5341 ∷ []

-- does the opcode declare a type
abbrev pub is_type : ℕ → Bool
is_type op = is_in op tracked_types

-- `resolve`: the entry of an id
unfoldable pub entry_of : ℕ → List Entry → Option Entry
entry_of i [] = None
entry_of i (entry id w s ∷ es) = let later = entry_of i es in if eqb id i then Some (entry id w s) else later

-- "The last definition of an id holds, in the same entry"; a new id's entry comes last
unfoldable pub define : ℕ → ℕ → ℕ → List Entry → List Entry
define i w s [] = entry i w s ∷ []
define i w s (entry id x y ∷ es) =
    let later = define i w s es in
    if eqb id i then entry i w s ∷ es else entry id x y ∷ later

-- the number of an operand that is a LiteralInt32
abbrev pub literal_int : Operand → Option ℕ
literal_int (narrow k v) = if eqb k 34 then Some v else None
literal_int (wide k v) = None
literal_int (text s) = None

-- an integer type: width, and sign 1 for signed; "an operand record that is no LiteralInt32 sets no width"
abbrev pub define_int : ℕ → Option ℕ → Option ℕ → List Entry → List Entry
define_int i (Some w) (Some sign) es = define i w (if eqb sign 1 then 2 else 1) es
define_int i (Some w) None es = es
define_int i None sign es = es

-- a float type: width
abbrev pub define_float : ℕ → Option ℕ → List Entry → List Entry
define_float i (Some w) es = define i w 3 es
define_float i None es = es

-- OpTypeInt: its first two operands
abbrev pub track_int : ℕ → List Operand → List Entry → List Entry
track_int i (w ∷ sign ∷ os) es = define_int i (literal_int w) (literal_int sign) es
track_int i (w ∷ []) es = es
track_int i [] es = es

-- OpTypeFloat: its first operand
abbrev pub track_float : ℕ → List Operand → List Entry → List Entry
track_float i (w ∷ os) es = define_float i (literal_int w) es
track_float i [] es = es

-- a result that is a type: integers and floats alone are tracked
abbrev pub track_type : ℕ → ℕ → List Operand → List Entry → List Entry
track_type op i os es = if eqb op 21 then track_int i os es else if eqb op 22 then track_float i os es else es

-- a result with the entry of its result type
abbrev pub inherit : ℕ → Option Entry → List Entry → List Entry
inherit i None es = es
inherit i (Some (entry id w s)) es = define i w s es

-- a result that is no type: its result type's entry, where it has a result type that is tracked
abbrev pub track_value : ℕ → Option ℕ → List Entry → List Entry
track_value i None es = es
track_value i (Some t) es = inherit i (entry_of t es) es

-- the entries after a result, by opcode, result type and operands
abbrev pub track_result : ℕ → Option ℕ → Option ℕ → List Operand → List Entry → List Entry
track_result op t None os es = es
track_result op t (Some i) os es = if is_type op then track_type op i os es else track_value i t es

-- the entries after an instruction
unfoldable pub track : Instr → List Entry → List Entry
track i es = track_result i.opcode i.result_type i.result_id i.operands es
