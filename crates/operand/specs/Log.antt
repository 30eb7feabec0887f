-- An operand's record in the operand log, kept where there is room.
use Rattle.std.specs.Prelude.{ℕ, ◌+◌, ◌≤◌, ◌≡◌, Bool, true, false, List, ◌∷◌, length}
use Rattle.std.proofs.lemmas.List.Edits.{sets}
use Rattle.spec.specs.Words.{bytes_of}
use Rattle.spec.specs.Records.{long_bytes}
use Rattle.operand.specs.declared.Parts.{Parts}
use Rattle.operand.specs.Parts.{is_two}

-- "kind byte, then 4 bytes; 8 for kinds 36, 38 and 40"
unfoldable pub record_by : Bool → ℕ → ℕ → List ℕ
record_by true k v = k ∷ long_bytes v
record_by false k v = k ∷ bytes_of v

-- an operand's record
unfoldable pub record_of : Parts → List ℕ
record_of p = record_by (is_two p.kind) p.kind p.value

-- its length
unfoldable pub length_by : Bool → ℕ
length_by true = 9
length_by false = 5

-- the length of an operand's record
unfoldable pub record_length : Parts → ℕ
record_length p = length_by (is_two p.kind)

-- a store with bytes from a place on, where they are kept; else as it was
unfoldable pub kept : Bool → List ℕ → ℕ → List ℕ → List ℕ
kept true l at bs = sets l at bs
kept false l at bs = l

-- bytes went into a store from a place on: no byte more or less, and they are there where they fit
pub record Laid (l₀ : List ℕ) (at : ℕ) (bs l : List ℕ) : Type 0 where
  pub same : length l ≡ length l₀
  pub there : at + length bs ≤ length l₀ → l ≡ sets l₀ at bs
