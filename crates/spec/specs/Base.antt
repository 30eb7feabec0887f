-- Choices, tests, lists and texts: what the other definitions are written with.
use Rattle.std.specs.Prelude.{ℕ, zero, suc, Bool, true, false, not, ◌&&◌, ◌||◌, List, [], ◌∷◌, ◌++◌, leb, eqb, if◌then◌else◌}
use Prim.Native.Char.{code}
use Prim.Native.String.{String, [] as []ˢ, ◌∷◌ as ◌∷ˢ◌}
use Rattle.std.specs.Prelude.{Option, None, Some}

-- a test that is asked only where another holds
abbrev pub implies : Bool → Bool → Bool
implies a b = not a || b

-- a ≤ k ≤ b
abbrev pub within : ℕ → ℕ → ℕ → Bool
within a k b = leb a k && leb k b

-- is the number in the list
abbrev pub is_in : ℕ → List ℕ → Bool
is_in k [] = false
is_in k (x ∷ xs) = eqb k x || is_in k xs

-- are there n elements or more
abbrev pub has : {A : Type 0} → ℕ → List A → Bool
has zero l = true
has (suc n) [] = false
has (suc n) (x ∷ l) = has n l

-- the number that is there, or 0
abbrev pub or_zero : Option ℕ → ℕ
or_zero None = 0
or_zero (Some n) = n

-- go on with what is there
abbrev pub and_then : {A B : Type 0} → Option A → (A → Option B) → Option B
and_then None f = None
and_then (Some a) f = f a

-- the first that is there
abbrev pub or_else : {A : Type 0} → Option A → Option A → Option A
or_else None b = b
or_else (Some a) b = Some a

-- are they the same numbers
abbrev pub same : List ℕ → List ℕ → Bool
same [] [] = true
same [] (y ∷ ys) = false
same (x ∷ xs) [] = false
same (x ∷ xs) (y ∷ ys) = eqb x y && same xs ys

-- each element's list, one after the other
abbrev pub joined : {A B : Type 0} → (A → List B) → List A → List B
joined f [] = []
joined f (x ∷ xs) = f x ++ joined f xs

-- does each element pass
abbrev pub every : {A : Type 0} → (A → Bool) → List A → Bool
every f [] = true
every f (x ∷ xs) = f x && every f xs

-- the elements that pass, in their order
abbrev pub only : {A : Type 0} → (A → Bool) → List A → List A
only f [] = []
only f (x ∷ xs) = let more = only f xs in if f x then x ∷ more else more

-- the bytes of a text of ASCII
abbrev pub ascii : String → List ℕ
ascii []ˢ = []
ascii (c ∷ˢ s) = code c ∷ ascii s
