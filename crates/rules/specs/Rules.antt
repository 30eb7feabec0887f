-- What the check keeps of a row's operands, and the kinds and rows that most rules pass by.
use Rattle.std.specs.Prelude.{ℕ, ◌+◌, Bool, true, not, ◌&&◌, ◌||◌, List, [], ◌∷◌, leb, ltb, eqb, if◌then◌else◌}
use Rattle.spec.specs.Base.{within}
use Rattle.spec.specs.Kinds.{is_result, may_be_parameter}
use Rattle.spec.specs.Grammar.{Slot, slot, is_slot, typed, rises}
use Rattle.rules.specs.declared.rules.Passed.{Passed}

-- WHAT WENT BEFORE

-- how many operands there are; 4 stands for four or more
unfoldable pub count_of : List Slot → ℕ
count_of [] = 0
count_of (a ∷ []) = 1
count_of (a ∷ b ∷ []) = 2
count_of (a ∷ b ∷ c ∷ []) = 3
count_of (a ∷ b ∷ c ∷ d ∷ ss) = 4

-- such a count with one more
unfoldable pub more : ℕ → ℕ
more n = if ltb n 4 then n + 1 else n

-- the first operand that is no result, with one more that is none: 0 where there is none, 1 for 33 and One, 2 for another
unfoldable pub lead_with : ℕ → ℕ → ℕ → ℕ
lead_with lead k q = if eqb lead 0 then if is_slot 33 0 (slot k q) then 1 else 2 else lead

-- the first operand that is no result
unfoldable pub lead_of : List Slot → ℕ
lead_of [] = 0
lead_of (slot k q ∷ ss) = let later = lead_of ss in if is_result k then later else lead_with 0 k q

-- what is kept of a row's operands
unfoldable pub passed_of : List Slot → Passed
passed_of ss = record { count = count_of ss; typed = typed ss; lead = lead_of ss }

-- the kind that stands after so many operands in a row of n: 47, then 34; 0 past its end
abbrev pub fixed_kind : ℕ → ℕ → ℕ
fixed_kind count n = if leb n count then 0 else if eqb count 0 then 47 else 34

-- WHAT MOST RULES PASS BY

-- a kind that no rule on kinds is about: one that a parameter may have, or a pair that starts with an id
unfoldable pub is_free : ℕ → Bool
is_free k = may_be_parameter k || within 50 k 51

-- a row that is fixed: 21 or 22
unfoldable pub is_fixed : ℕ → Bool
is_fixed op = eqb op 21 || eqb op 22

-- WHAT FOLLOWS, AND WHAT IS NOTED

-- may a row (kind 0, its opcode as value) or an enumerant come: as the first, or after one of kind j and value u
unfoldable pub follows : Bool → ℕ → ℕ → ℕ → ℕ → Bool
follows first j u k v = first || rises j u k v

-- no kind is noted in both
unfoldable pub is_apart : List Bool → List Bool → Bool
is_apart [] m = true
is_apart (a ∷ l) [] = true
is_apart (a ∷ l) (b ∷ m) = not (a && b) && is_apart l m
