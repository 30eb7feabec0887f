-- Laws of an operand that is read back from a place of the log.
use Prim.Native.Nat.{ℕ, ◌+◌, ◌*◌, ◌/◌, ◌%◌, ◌<◌}
use mathlib.Core.Path.{◌≡◌, ap, sym, ◌∙◌}
use mathlib.Core.Bool.{Bool, true, false}
use mathlib.Core.List.{List}
use native.Mathlib.Omega.{arith}
use lib.ListN.{get_or}
use Rattle.spec.specs.Words.{four_at, long}
use Rattle.operand.specs.Parts.{parts, is_two}
use Rattle.records.specs.Good.{Whole, value_by, parts_at, Logged}
use Rattle.records.proofs.Operands.{clash}

module _ (log : List ℕ) (at : ℕ) (h : Whole log at) (low : ℕ) (e : low ≡ four_at (at + 1) log) (fits : low < 4294967296) where
  -- two words
  pub read_two : is_two (get_or log at 0) ≡ true → (high : ℕ) → high ≡ four_at (at + 5) log → high < 4294967296
      → Logged log at (parts (get_or log at 0) (low + 4294967296 * high))
  unfolding parts_at value_by
  read_two t high g k =
      let a : (low + 4294967296 * high) % 4294967296 ≡ low = omega arith in
      let b : (low + 4294967296 * high) / 4294967296 ≡ high = omega arith in
      record {
        is =
            ap (λ (v : ℕ). parts (get_or log at 0) (v + 4294967296 * high)) e
            ∙ ap (λ (v : ℕ). parts (get_or log at 0) (long (four_at (at + 1) log) v)) g
            ∙ ap (λ (u : Bool). parts (get_or log at 0) (value_by u log at)) (sym t);
        low = a ∙ e;
        high = λ _. b ∙ g;
        fits = record { known = h.known; small = λ f. clash _ t f };
      }

  -- one word
  pub read_one_lem : is_two (get_or log at 0) ≡ false → Logged log at (parts (get_or log at 0) low)
  unfolding parts_at value_by
  read_one_lem t =
      let a : low % 4294967296 ≡ low = omega arith in
      record {
        is = ap (parts (get_or log at 0)) e ∙ ap (λ (u : Bool). parts (get_or log at 0) (value_by u log at)) (sym t);
        low = a ∙ e;
        high = λ f. clash _ f t;
        fits = record { known = h.known; small = λ _. fits };
      }
