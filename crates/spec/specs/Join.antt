-- Two grammars joined into one: their rows and enumerants in document 01's layout, those that are in both taken once.
use Rattle.std.specs.Prelude.{ℕ, ◌+◌, ◌*◌, ◌/◌, ◌%◌, ◌≡◌, refl, Bool, true, false, not, List, [], ◌∷◌, ltb, eqb, length, if◌then◌else◌}
use Rattle.std.specs.Prelude.{Option, None, Some}
use Rattle.spec.specs.declared.Joined.{Joined}
use Rattle.spec.specs.Base.{same, joined}
use Rattle.spec.specs.Words.{bytes_of, bits_from, bits_of}
use Rattle.spec.specs.Grammar.{Item, row, operand, enumerant, parameter, broken, items, items_from, rule, next, rules_from, parameters_of, enumerants_of, parameterless, all_flat, well_formed, well_formed_items}
use Rattle.spec.specs.Table.{table}
use Rattle.spec.specs.Builtin.{item_bytes, builtin}
use Rattle.spec.specs.Load.{laid_over}

-- PIECES: THE ROWS AND ENUMERANTS, EACH WHOLE

-- a row and its operands, or an enumerant and its parameters
pub record Piece : Type 0 where
  pub head : Item
  pub body : List Item

-- the operands and parameters that items begin with
unfoldable pub body_of : List Item → List Item
body_of [] = []
body_of (operand k q ∷ xs) = operand k q ∷ body_of xs
body_of (parameter k ∷ xs) = parameter k ∷ body_of xs
body_of (row o ∷ xs) = []
body_of (enumerant k v ∷ xs) = []
body_of (broken ∷ xs) = []

-- the rows and enumerants of some items, in their order
unfoldable pub pieces_of : List Item → List Piece
pieces_of [] = []
pieces_of (row o ∷ xs) = record { head = row o; body = body_of xs } ∷ pieces_of xs
pieces_of (enumerant k v ∷ xs) = record { head = enumerant k v; body = body_of xs } ∷ pieces_of xs
pieces_of (operand k q ∷ xs) = pieces_of xs
pieces_of (parameter k ∷ xs) = pieces_of xs
pieces_of (broken ∷ xs) = pieces_of xs

-- the rows and enumerants of a grammar
unfoldable pub pieces : List ℕ → List Piece
pieces g = pieces_of (items g)

-- the items of a piece
abbrev pub piece_items : Piece → List Item
piece_items e = e.head ∷ e.body

-- the bytes of a piece, its operands or parameters as they came
unfoldable pub piece_bytes : Piece → List ℕ
piece_bytes e = joined item_bytes (piece_items e)

-- THEIR ORDER: rows by opcode, then enumerants by kind and value; no kind is 0, so that no row has an enumerant's key

-- kind and value as one number, a row having kind 0 and its opcode for value
unfoldable pub key_of : Item → ℕ
key_of (row o) = o
key_of (enumerant k v) = k * 4294967296 + v
key_of (operand k q) = 0
key_of (parameter k) = 0
key_of broken = 0

-- the key of a piece
abbrev pub key : Piece → ℕ
key e = key_of e.head

-- the kind in a key, 0 for a row
abbrev pub kind_in : ℕ → ℕ
kind_in n = n / 4294967296

-- the opcode or value in a key
abbrev pub value_in : ℕ → ℕ
value_in n = n % 4294967296

-- the piece with a key
unfoldable pub found : ℕ → List Piece → Option Piece
found n [] = None
found n (e ∷ es) = let later = found n es in if eqb (key e) n then Some e else later

-- MERGED

-- a piece put in its place among others, for the one with its key where there is one
unfoldable pub put_in : Piece → List Piece → List Piece
put_in x [] = x ∷ []
put_in x (y ∷ ys) =
    let later = put_in x ys in
    if ltb (key x) (key y) then x ∷ y ∷ ys else if eqb (key x) (key y) then x ∷ ys else y ∷ later

-- the pieces of the first and of the second, each in its place: "A row or enumerant in both is taken once"
unfoldable pub merged : List Piece → List Piece → List Piece
merged [] ys = ys
merged (x ∷ xs) ys = put_in x (merged xs ys)

-- CLASHES

-- is there a piece, and not "equal in every byte"
unfoldable pub differs : Piece → Option Piece → Bool
differs x None = false
differs x (Some y) = not (same (piece_bytes x) (piece_bytes y))

-- the first key of two pieces that differ: the lowest, since the keys of a well-formed grammar rise
unfoldable pub clash : List Piece → List Piece → Option ℕ
clash [] ys = None
clash (x ∷ xs) ys = let later = clash xs ys in if differs x (found (key x) ys) then Some (key x) else later

-- JOINING

-- the grammar that "holds exactly the rows and enumerants of the two"
unfoldable pub union : List ℕ → List ℕ → List ℕ
union a b = joined piece_bytes (merged (pieces a) (pieces b))

-- the answer, and the output after it
pub record Joining : Type 0 where
  pub said : Joined
  pub output : List ℕ

-- a refusal: "the output is untouched"
abbrev pub unjoined : ℕ → ℕ → ℕ → List ℕ → Joining
unjoined n p v out = record { said = record { number = n; place = p; value = v; bytes = 0 }; output = out }

-- "24 when the union breaks a rule, 35 when it does not fit"; else it is written, and past it stands what was there
abbrev pub put_union : List ℕ → List ℕ → Joining
put_union u out =
    if not (well_formed u) then unjoined 24 0 0 out
    else if ltb (length out) (length u) then unjoined 35 0 0 out
    else record { said = record { number = 0; place = 0; value = 0; bytes = length u }; output = laid_over out u }

-- "34 with the lowest clashing opcode as value and place 0, or else the lowest clashing kind as place and its value"
abbrev pub unless_clash : Option ℕ → List ℕ → List ℕ → Joining
unless_clash (Some n) u out = unjoined 34 (kind_in n) (value_in n) out
unless_clash None u out = put_union u out

-- "Refusals, in this order: 24 for the first input, 24 for the second, 34 .., 24 when the union breaks a rule, 35 when it does not fit"
unfoldable pub join : List ℕ → List ℕ → List ℕ → Joining
join a b out =
    if not (well_formed a) then unjoined 24 0 0 out
    else if not (well_formed b) then unjoined 24 0 0 out
    else unless_clash (clash (pieces a) (pieces b)) (union a b) out

-- WORKED EXAMPLES, computed

-- a house row: opcode 61440, one id
unfoldable pub house : List ℕ
house = 1 ∷ 0 ∷ 240 ∷ 2 ∷ 33 ∷ 0 ∷ []

-- the same row with two ids
abbrev pub other_house : List ℕ
other_house = 1 ∷ 0 ∷ 240 ∷ 2 ∷ 33 ∷ 0 ∷ 2 ∷ 33 ∷ 0 ∷ []

-- the row stands before an enumerant of the other grammar, and past the union stands what was there
house_joined : join (3 ∷ 9 ∷ 1 ∷ 0 ∷ 0 ∷ 0 ∷ 4 ∷ 33 ∷ []) house (7 ∷ 7 ∷ 7 ∷ 7 ∷ 7 ∷ 7 ∷ 7 ∷ 7 ∷ 7 ∷ 7 ∷ 7 ∷ 7 ∷ 7 ∷ 7 ∷ 7 ∷ [])
    ≡ record {
      said = record { number = 0; place = 0; value = 0; bytes = 14 };
      output = 1 ∷ 0 ∷ 240 ∷ 2 ∷ 33 ∷ 0 ∷ 3 ∷ 9 ∷ 1 ∷ 0 ∷ 0 ∷ 0 ∷ 4 ∷ 33 ∷ 7 ∷ [];
    }
unfolding join house union pieces pieces_of body_of piece_bytes key_of found put_in merged differs clash laid_over bytes_of items items_from well_formed well_formed_items rule next rules_from enumerants_of parameters_of parameterless all_flat bits_of bits_from
house_joined = refl

-- one row two ways
house_clashes : (out : List ℕ) → join house other_house out ≡ unjoined 34 0 61440 out
unfolding join house union pieces pieces_of body_of piece_bytes key_of found put_in merged differs clash items items_from well_formed well_formed_items rule next rules_from enumerants_of parameters_of parameterless all_flat
house_clashes out = refl

-- no row of the built-in grammar is the house's, and the two together are well-formed
house_beside_builtin : (clash (pieces builtin) (pieces house) ≡ None) × (well_formed (union builtin house) ≡ true)
unfolding builtin table house union pieces pieces_of body_of piece_bytes key_of found put_in merged clash differs bytes_of items items_from well_formed well_formed_items rule next rules_from enumerants_of parameters_of parameterless all_flat bits_of bits_from
house_beside_builtin = (refl, refl)
