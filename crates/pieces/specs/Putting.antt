-- Text placed in an output: the room it needs, and what was written or only measured; and pieces of text that the code makes one by one.
use Rattle.std.specs.Prelude.{ℕ, ◌+◌, ◌<◌, ◌≤◌, min, ◌≡◌, Bool, true, false, not, ◌&&◌, List, [], ◌++◌, eqb, length, if◌then◌else◌}
use Rattle.std.specs.Prelude.{Option, None, Some}
use Rattle.spec.specs.Base.{joined, ascii}
use Rattle.spec.specs.Kinds.{is_mask}
use Rattle.spec.specs.Names.{name_of}
use Rattle.spec.specs.Disassembly.{id_text, is_there, name_text, barred}
use Rattle.operand.specs.Log.{kept}

-- the largest place
abbrev pub largest : ℕ
largest = 18446744073709551615

-- an output has room at a place for a text, where it is kept
pub record Room (keep : Bool) (out : List ℕ) (at : ℕ) (bs : List ℕ) : Type 0 where
  pub small : length out < largest
  pub room : keep ≡ true → at + length bs ≤ length out

-- a text kept at a place, or only measured: the place after it (the largest stands for all beyond it), and the output
pub record Wrote (keep : Bool) (out : List ℕ) (at : ℕ) (bs : List ℕ) (next : ℕ) (after : List ℕ) : Type 0 where
  pub place : next ≡ min (at + length bs) largest
  pub stored : after ≡ kept keep out at bs

-- names that follow others, or come first
unfoldable pub barred_from : Bool → ℕ → List ℕ → List ℕ
barred_from true set ns = joined (λ n. ascii "|" ++ name_text set n) ns
barred_from false set ns = barred set ns

-- a bit's name where it is set, after others or first
unfoldable pub bit_text : ℕ → ℕ → ℕ → Bool → List ℕ
bit_text set digit bit bar = if eqb digit 1 then (if bar then ascii "|" else []) ++ name_text set bit else []

-- a result type that is there, with a blank before operands
unfoldable pub type_by : Option ℕ → Bool → List ℕ
type_by None more = []
type_by (Some t) more = ascii "  " ++ id_text t ++ (if more then ascii " " else [])

-- has a bit a name, where it is set
unfoldable pub bit_named : ℕ → ℕ → ℕ → Bool
bit_named set digit bit = if eqb digit 1 then is_there (name_of set bit) else true

-- is a value's text that of its bits
unfoldable pub has_bits : ℕ → ℕ → Bool
has_bits k v = is_mask k && not (eqb v 0)
