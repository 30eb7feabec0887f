-- The walk over two grammars, lowest piece first: what holds where a piece ends, after each step, and at the end.
use Rattle.std.specs.Prelude.{ℕ, ◌+◌, ◌-◌, ◌≤◌, ◌<◌, ◌≡◌, Bool, true, false, ◌&&◌, List, ◌∷◌, ◌++◌, ltb, length, take, drop, if◌then◌else◌}
use Rattle.std.specs.Prelude.{None, Some, Result, Ok, Err}
use Rattle.spec.specs.Grammar.{Item, row, operand, enumerant, parameter, broken, items, start, rules_from, enumerants_of}
use Rattle.spec.specs.declared.Joined.{Joined}
use Rattle.spec.specs.Join.{Piece, pieces, piece_bytes, clash, union, Joining}
use Rattle.formed.specs.Check.{flat_over}
use Rattle.operand.specs.Log.{kept}

-- is it an operand or a parameter
unfoldable pub is_part : Item → Bool
is_part (operand k q) = true
is_part (parameter k) = true
is_part (row o) = false
is_part (enumerant k v) = false
is_part broken = false

-- some bytes, from a place to another
abbrev pub between : ℕ → ℕ → List ℕ → List ℕ
between from to l = take (to - from) (drop from l)

-- a place of a grammar's bytes where a piece starts, or their end: the bytes from there on meet the rules by themselves
pub record Starts (g : List ℕ) (at : ℕ) : Type 0 where
  pub within : at ≤ length g
  pub rules : rules_from start (items (drop at g)) ≡ true

-- a piece stands between two places
pub record Stretch (g : List ℕ) (at end : ℕ) : Type 0 where
  pub some_bytes : at < end
  pub piece : Piece
  pub first : pieces (drop at g) ≡ piece ∷ pieces (drop end g)
  pub bytes : between at end g ≡ piece_bytes piece
  pub next : Starts g end

-- the bytes of the piece that a step takes: the first's, where its place moves, else the second's
unfoldable pub taken : List ℕ → ℕ → ℕ → List ℕ → ℕ → ℕ → List ℕ
taken a i i' b j j' = if ltb i i' then between i i' a else between j j' b

-- a step from two places to two others takes the lowest piece, from both where it is in both
pub record Onward (a : List ℕ) (i i' : ℕ) (b : List ℕ) (j j' : ℕ) : Type 0 where
  pub first : Starts a i'
  pub second : Starts b j'
  pub up : (i ≤ i') × (j ≤ j') × (i + j < i' + j')
  pub apart : clash (pieces (drop i a)) (pieces (drop j b)) ≡ clash (pieces (drop i' a)) (pieces (drop j' b))
  pub whole : union (drop i a) (drop j b) ≡ taken a i i' b j j' ++ union (drop i' a) (drop j' b)

-- what a step says: where it goes, or the key of the pieces that differ
unfoldable pub Stepped : List ℕ → ℕ → List ℕ → ℕ → Result (ℕ × ℕ) ℕ → Type 0
Stepped a i b j (Ok (i', j')) = Onward a i i' b j j'
Stepped a i b j (Err n) = clash (pieces (drop i a)) (pieces (drop j b)) ≡ Some n

-- what the walk says, and leaves in the output: the lowest key that clashes, or the length of the union, which is kept where it is to be
unfoldable pub Walked : List ℕ → List ℕ → Bool → List ℕ → List ℕ → Result ℕ ℕ → Type 0
Walked a b keep before after (Err n) = (clash (pieces a) (pieces b) ≡ Some n) × (after ≡ before)
Walked a b keep before after (Ok n) =
    (clash (pieces a) (pieces b) ≡ None) × (n ≡ length (union a b)) × (after ≡ kept keep before 0 (union a b))

-- the union may be kept: nothing clashes, and there is room for it
unfoldable pub MayKeep : List ℕ → List ℕ → List ℕ → Type 0
MayKeep a b out = (clash (pieces a) (pieces b) ≡ None) × (length (union a b) ≤ length out)

-- the parameters of each grammar are of kinds that have none in the other
unfoldable pub flat_both : List ℕ → List ℕ → Bool
flat_both a b = flat_over (enumerants_of (items b)) (enumerants_of (items a)) && flat_over (enumerants_of (items a)) (enumerants_of (items b))

-- what joining of which x became answers, and leaves in the output
pub record Joins (x : Joining) (r : Joined) (after : List ℕ) : Type 0 where
  pub said : r ≡ x.said
  pub output : after ≡ x.output
