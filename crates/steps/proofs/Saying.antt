-- Laws of what a load answers: what breaks a module, and the answer of a load that stopped.
use Prim.Native.Nat.{ℕ, ◌+◌, ◌*◌, ◌/◌, ◌%◌}
use mathlib.Core.Path.{◌≡◌, refl, ap, ap₂}
use mathlib.Core.Bool.{Bool, true, false, ◌&&◌}
use mathlib.Core.List.{List}
use borrow.Author.Tests.{ne_eqb, eq-eqb}
use lib.Dec.{eqb}
use Rattle.std.specs.Prelude.{if◌then◌else◌}
use Rattle.spec.specs.Plain.{first_break, tail_break}
use Rattle.steps.specs.declared.parts.Ended.{Ended}
use Rattle.steps.specs.Steps.{used_by, said_at}

-- WHAT BREAKS A MODULE

-- nothing follows its words
pub tail_none : (n : ℕ) → n % 4 ≡ 0 → 0 ≡ tail_break n
unfolding tail_break
tail_none n e = simp (eq-eqb (n % 4) 0 e)

-- something does
pub tail_some : (n : ℕ) → (n % 4 ≡ 0 → ⊥) → 4 * (n / 4) ≡ tail_break n
unfolding tail_break
tail_some n h = simp (ne_eqb (n % 4) 0 h)

-- of one that is refused nothing is said
pub refused_breaks : (n b : ℕ) → (n ≡ 0 → ⊥) → 0 ≡ (if eqb n 0 then b else 0)
refused_breaks n b h = simp (ne_eqb n 0 h)

module _ (n kept tail : ℕ) (z : n ≡ 0) where
  -- of one that is accepted it is what breaks its instructions
  pub kept_breaks : (kept ≡ 0 → ⊥) → kept ≡ (if eqb n 0 then first_break kept tail else 0)
  unfolding first_break
  kept_breaks h = simp (eq-eqb n 0 z, ne_eqb kept 0 h)

  -- else its tail
  pub tail_breaks : kept ≡ 0 → (r : ℕ) → r ≡ tail → r ≡ (if eqb n 0 then first_break kept tail else 0)
  unfolding first_break
  tail_breaks h r e = simp (eq-eqb n 0 z, eq-eqb kept 0 h) e

-- plain by what is answered of the offset
plain_by : (t : Bool) (b x : ℕ) → b ≡ (if t then x else 0) → (t && eqb b 0) ≡ (t && eqb x 0)
plain_by true b x e = ap (λ (i : ℕ). eqb i 0) e
plain_by false b x e = refl

-- the answer of a load that stopped
pub said_stopped : (h : List ℕ) (size : ℕ) (e : Ended) (b : ℕ)
    → b ≡ (if eqb e.refusal.number 0 then first_break e.breaks (tail_break size) else 0)
    → record {
      number = e.refusal.number;
      offset = e.refusal.place;
      index = e.progress.instructions + 1;
      value = e.refusal.value;
      header = h;
      counts = used_by e.progress;
      plain = eqb e.refusal.number 0 && eqb b 0;
      breaks = b;
    }
    ≡ said_at h size e
unfolding said_at
said_stopped h size e b q =
    ap₂
    (λ (p : Bool) (i : ℕ).
    record {
      number = e.refusal.number;
      offset = e.refusal.place;
      index = e.progress.instructions + 1;
      value = e.refusal.value;
      header = h;
      counts = used_by e.progress;
      plain = p;
      breaks = i;
    })
    (plain_by (eqb e.refusal.number 0) b _ q) q
