-- Laws of an operand's parts: the value that is taken apart into words is put together again.
use Prim.Native.Nat.{ℕ, zero, suc, ◌+◌, ◌*◌, ◌/◌, ◌%◌, ◌<◌, ◌≤◌}
use mathlib.Core.Path.{◌≡◌, ap, sym, ◌∙◌}
use mathlib.Core.Bool.{true, false}
use native.Mathlib.Omega.{arith}
use Rattle.spec.specs.Kinds.{is_logged}
use Rattle.spec.proofs.Choice.{in_range}
use Rattle.operand.specs.Parts.{parts, is_two, Fits}

-- a kind with one word: the word is the whole value
pub one_word : (k kind v : ℕ) → kind ≡ k → is_two k ≡ false → Fits kind v → parts k (v % 4294967296) ≡ parts kind v
one_word k kind v e t f =
    let small : v < 4294967296 = f.small (ap is_two e ∙ t) in
    let same : v % 4294967296 ≡ v = omega arith in
    ap (λ (n : ℕ). parts n (v % 4294967296)) (sym e) ∙ ap (parts kind) same

-- a kind with two words
pub two_words : (k kind v : ℕ) → kind ≡ k → parts k (v % 4294967296 + 4294967296 * (v / 4294967296)) ≡ parts kind v
two_words k kind v e =
    let same : v % 4294967296 + 4294967296 * (v / 4294967296) ≡ v = omega arith in
    ap (λ (n : ℕ). parts n (v % 4294967296 + 4294967296 * (v / 4294967296))) (sym e) ∙ ap (parts kind) same

-- the same kind
pub same_kind : (k kind v : ℕ) → kind ≡ k → parts k v ≡ parts kind v
same_kind k kind v e = ap (λ (n : ℕ). parts n v) (sym e)

-- k is none of 1 to n
abbrev pub Past : ℕ → ℕ → Type 0
Past zero k = Unit {0}
Past (suc n) k = Past n k × (k ≡ suc n → ⊥)

-- so it is more
past : (n k : ℕ) → 1 ≤ k → Past n k → suc n ≤ k
past zero k h p = h
past (suc n) k h p = let q : suc n ≤ k = past n k h p.0 in omega (arith, p.1)

-- a kind of the log that is none of 1 to 44
pub last_kind : (k : ℕ) → is_logged k ≡ true → Past 44 k → k ≡ 45
last_kind k e p =
    let r = in_range 1 k 45 e in
    omega (arith, r.1, past 44 k r.0 p)
