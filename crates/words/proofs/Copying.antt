-- Laws of a loop that copies bytes into a store.
use Prim.Native.Nat.{ℕ, ◌+◌, ◌<◌, ◌≤◌}
use mathlib.Core.Path.{◌≡◌, refl, ap, sym, ◌∙◌}
use mathlib.Core.List.{List, [], ◌∷◌}
use native.Mathlib.Omega.{arith}
use native.Mathlib.Numerals.{add-one}
use lib.ListN.{length, get_or, take, set}
use lib.Seq.{sets, length-sets, length-take-le, take-suc, take-length}
use Rattle.spec.proofs.Store.{sets_append}

-- what a copying loop has done: so many bytes
pub record Copied (l₀ l s : List ℕ) (at i : ℕ) : Type 0 where
  pub stored : l ≡ sets l₀ at (take i s)
  pub within : i ≤ length s

-- none at first
pub copy_start : (l s : List ℕ) (at : ℕ) → Copied l l s at 0
copy_start l s at = record { stored = refl; within = omega arith }

module _ {l₀ l s : List ℕ} {at i : ℕ} (r : Copied l₀ l s at i) where
  -- no byte more or less
  pub copy_length : length l ≡ length l₀
  copy_length = ap length r.stored ∙ length-sets l₀ at (take i s)

  -- one byte further
  pub copy_turn : i < length s → Copied l₀ (set l (at + i) (get_or s i 0)) s at (i + 1)
  copy_turn h =
      let size : length (take i s) ≡ i = length-take-le i s (omega arith) in
      record {
        stored =
            ap (λ (x : List ℕ). sets x (at + i) (get_or s i 0 ∷ [])) r.stored
            ∙ ap (λ (k : ℕ). sets (sets l₀ at (take i s)) (at + k) (get_or s i 0 ∷ [])) (sym size)
            ∙ sets_append (take i s) (get_or s i 0 ∷ []) l₀ at
            ∙ ap (λ (bs : List ℕ). sets l₀ at bs) (sym (take-suc s i 0 h) ∙ ap (λ (k : ℕ). take k s) (sym (add-one i)));
        within = omega arith;
      }

  -- all of them
  pub copy_end : length s ≤ i → l ≡ sets l₀ at s
  copy_end h =
      let e : i ≡ length s = omega (arith, r.within) in
      r.stored ∙ ap (λ (k : ℕ). sets l₀ at (take k s)) e ∙ ap (λ (bs : List ℕ). sets l₀ at bs) (take-length s)
