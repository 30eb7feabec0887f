-- Laws of texts written into a buffer, one after the other, and of how far they reach.
use Prim.Native.Nat.{ℕ, zero, suc, ◌+◌, ◌/◌, ◌%◌, ◌≤◌}
use mathlib.Core.Path.{◌≡◌, refl, ap, sym, ◌∙◌}
use mathlib.Core.Bool.{Bool, true, false}
use mathlib.Core.List.{List, [], ◌∷◌, ◌++◌}
use native.Mathlib.Omega.{arith}
use native.Mathlib.Nat.{add-zero}
use lib.Dec.{ltb}
use lib.ListN.{length, length-append}
use lib.Seq.{sets, length-sets}
use Rattle.std.specs.Prelude.{if◌then◌else◌}
use Rattle.spec.specs.Digits.{digits_from, decimal}
use Rattle.spec.proofs.Store.{sets_append}
use Rattle.texts.specs.Wrote.{Wrote}

-- nothing is written
pub wrote_none : (l : List ℕ) (at : ℕ) → Wrote l l at at []
wrote_none l at = record { is = refl; ends = sym (add-zero at) }

-- a text after another is one text
pub wrote_then : {a b c : List ℕ} {i j k : ℕ} {s t : List ℕ} → Wrote a b i j s → Wrote b c j k t → Wrote a c i k (s ++ t)
wrote_then {a} {b} {c} {i} {j} {k} {s} {t} p q =
    record {
      is =
          q.is
          ∙ ap (λ (l : List ℕ). sets l j t) p.is
          ∙ ap (λ (n : ℕ). sets (sets a i s) n t) p.ends
          ∙ sets_append s t a i;
      ends = omega (arith, p.ends, q.ends, length-append s t);
    }

-- ROOM

-- a text reaches at most n bytes on, and the buffer keeps its length
pub record Reach (a b : List ℕ) (i j n : ℕ) : Type 0 where
  pub near : j ≤ i + n
  pub same : length b ≡ length a

-- a text of at most n bytes
pub reach : {a b : List ℕ} {i j : ℕ} {s : List ℕ} (n : ℕ) → Wrote a b i j s → length s ≤ n → Reach a b i j n
reach {a} {b} {i} {j} {s} n w h =
    record { near = omega (arith, w.ends); same = ap length w.is ∙ length-sets a i s }

-- DIGITS

-- at most one digit more, by a test
few_by : (t : Bool) (n d e : ℕ) (more : List ℕ) → length more ≤ n → length (if t then d ∷ [] else more ++ (e ∷ [])) ≤ suc n
few_by true n d e more h = omega arith
few_by false n d e more h = omega (arith, length-append more (e ∷ []))

-- at most n digits
pub digits_few : (n v : ℕ) → length (digits_from n v) ≤ n
unfolding digits_from
digits_few zero v = omega arith
digits_few (suc n) v = few_by (ltb v 10) n (48 + v) (48 + v % 10) (digits_from n (v / 10)) (digits_few n (v / 10))

-- at most 20 digits
pub decimal_few : (v : ℕ) → length (decimal v) ≤ 20
unfolding decimal
decimal_few v = digits_few 20 v

-- a number in decimal reaches at most 20 bytes on
pub decimal_reach : {a b : List ℕ} {i j : ℕ} (v : ℕ) → Wrote a b i j (decimal v) → Reach a b i j 20
unfolding decimal
decimal_reach v w = reach 20 w (decimal_few v)

-- bytes reach as far as there are
pub bytes_reach : {a b : List ℕ} {i j : ℕ} {s : List ℕ} → Wrote a b i j s → Reach a b i j (length s)
bytes_reach {s = s} w = reach (length s) w (omega arith)
