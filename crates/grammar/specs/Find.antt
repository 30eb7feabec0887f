-- What the lookups find, and what is read on from there.
use Rattle.std.specs.Prelude.{ℕ, ◌+◌, Bool, true, false, ◌&&◌, List, [], ◌∷◌, ◌++◌, eqb, drop, if◌then◌else◌}
use Rattle.std.specs.Prelude.{Option, None, Some}
use Rattle.spec.specs.Grammar.{Slot, slot, items, slots_of, parameters_of, operand_rule, row_end, Enumerant, listed}

-- a place found, so many bytes on
abbrev pub past : ℕ → Option ℕ → Option ℕ
past n (Some p) = Some (p + n)
past n None = None

-- something was found
unfoldable pub Sure : Option ℕ → Type 0
Sure (Some p) = Unit
Sure None = ⊥

-- the place that was found, or 0
unfoldable pub place_found : Option ℕ → ℕ
place_found (Some p) = p
place_found None = 0

-- the operands of a row that was found: those from the place on
unfoldable pub row_found : List ℕ → Option ℕ → Option (List Slot)
row_found g (Some p) = Some (slots_of (items (drop p g)))
row_found g None = None

-- the parameters of an enumerant that was found: those from the place on
unfoldable pub parameters_found : List ℕ → Option ℕ → Option (List ℕ)
parameters_found g (Some p) = Some (parameters_of (items (drop p g)))
parameters_found g None = None

-- an operand and those after it, or none
unfoldable pub slots_then : Option (ℕ × ℕ) → List Slot → List Slot
slots_then (Some (k, q)) rest = slot k q ∷ rest
slots_then None rest = []

-- the bytes that an operand's item takes
unfoldable pub slot_bytes : Option (ℕ × ℕ) → ℕ
slot_bytes (Some (k, q)) = 3
slot_bytes None = 0

-- a parameter and those after it, or none
unfoldable pub parameters_then : Option ℕ → List ℕ → List ℕ
parameters_then (Some k) rest = k ∷ rest
parameters_then None rest = []

-- the bytes that a parameter's item takes
unfoldable pub parameter_bytes : Option ℕ → ℕ
parameter_bytes (Some k) = 2
parameter_bytes None = 0

-- is there a list of parameters
unfoldable pub is_listed : Option (List ℕ) → Bool
is_listed None = false
is_listed (Some ps) = true

-- is a bit listed, where it is set
unfoldable pub bit_listed : List Enumerant → ℕ → ℕ → ℕ → Bool
bit_listed es k set bit = if eqb set 1 then is_listed (listed k bit es) else true

-- the operands of a row after those before it: each meets the rule of its place, and the row ends where they end
unfoldable pub row_good_from : ℕ → List Slot → List Slot → Bool
row_good_from op before [] = row_end op before
row_good_from op before (slot k q ∷ ss) = operand_rule op before k q && row_good_from op (before ++ (slot k q ∷ [])) ss

-- a row's operands meet the rules
unfoldable pub row_good : ℕ → List Slot → Bool
row_good op ss = row_good_from op [] ss
