-- What it is for a call to be offered: it may be made with any arguments, and what its contract says of the answer and of every
-- store after the call leaves one possibility.
use Prim.Native.Nat.{ℕ}
use mathlib.Core.Path.{◌≡◌, refl, ap₂, sym, ◌∙◌}
use mathlib.Core.List.{List}
use mathlib.Core.Logic.{∥∥₁_elim}
use mathlib.Core.HLevel.{Σ_prop}
use seplogic.Ra.Ura.{Ura}
use base.Logic.{SProp}
use base.Stored.{Coded, Coded-set}
use prog.Memory.{Memory}
use prog.Routine.{Routine}
use types.Logic.{Logic}
use contract.Lifetimes.{Lfts}
use contract.Monad.{Fun, fact}
use denote.Triple.Clauses.{Ended, Clauses, Lasts, at_exit}
use denote.Triple.Entry.{Args, Res}
use borrow.Fn.Kinds.{ParamKind, ResultKind, In, Out, Dens, res_t, ended_of}
use borrow.Fn.World.{World}

-- a call with parameters and a result of these kinds, of which a caller has to show what is asked, and learns what is allowed
pub record Offered {n : ℕ} (ps : List (ParamKind n)) (r : ResultKind n) (asked : In n ps) (allowed : Out n ps r) : Type 0 where
  -- nothing is asked
  pub free : (κs : Lfts n) (a : Dens κs ps) → asked κs a
  -- any two results that are allowed coincide: the answers, and the contents of all that was lent to be changed
  pub one : (κs : Lfts n) (a : Dens κs ps) (x y : (res_t r κs).Denot) (after other : Lasts (ended_of n ps r) κs a)
      → allowed κs a x (at_exit (ended_of n ps r) κs a after) → allowed κs a y (at_exit (ended_of n ps r) κs a other)
      → (x ≡ y) × (after ≡ other)

-- a call that may ask something: where that is met, any two results that are allowed coincide
abbrev pub Determined : {n : ℕ} (ps : List (ParamKind n)) (r : ResultKind n) → In n ps → Out n ps r → Type 0
Determined {n} ps r asked allowed =
    (κs : Lfts n) (a : Dens κs ps) (x y : (res_t r κs).Denot) (after other : Lasts (ended_of n ps r) κs a) → asked κs a
    → allowed κs a x (at_exit (ended_of n ps r) κs a after) → allowed κs a y (at_exit (ended_of n ps r) κs a other)
    → (x ≡ y) × (after ≡ other)

-- a contract as it is written: clauses that are assertions, at every model of the prover's logic
abbrev Contract : Ended → Type 2
Contract T =
    (M : Type 1) (𝓤 : Ura M) (𝓛 : Logic 𝓤) → (Memory → SProp 𝓤) → (Routine → Fun 𝓤) → Clauses 𝓤 T

-- a call that is lent a struct: off its contract the prover reads no plain claims, so that it is taken as it is written
module _ (T : Ended) (contract : Contract T) where
  -- its clauses at a model
  abbrev clauses : (w : World) → Clauses w.𝓤 T
  clauses w = contract w.M w.𝓤 w.𝓛 w.𝓜.mem w.𝓡.run

  pub record OfferedLent : Type 2 where
    -- nothing is asked: the `requires` holds, whatever is held
    pub free : (w : World) (κs : Lfts T.signature.lifetimes) (a : Args T.signature κs) (g : (clauses w κs a).ghost) (m : w.M)
        → ((clauses w κs a).requires g).holds m
    -- any two results of which the `ensures` holds coincide: the answers, and the contents of all that was lent to be changed
    pub one : (w : World) (κs : Lfts T.signature.lifetimes) (a : Args T.signature κs) (g : (clauses w κs a).ghost)
        (x y : Res T.signature κs) (after other : Lasts T κs a) (m n : w.M)
        → ((clauses w κs a).ensures g x (at_exit T κs a after)).holds m
        → ((clauses w κs a).ensures g y (at_exit T κs a other)).holds n → (x ≡ y) × (after ≡ other)

-- two that are each the same third
pub both : {A : Type 0} {x y e : A} → x ≡ e → y ≡ e → x ≡ y
both p q = p ∙ sym q

-- two pairs
pub and : {A B : Type 0} {x y : A} {u v : B} → x ≡ y → u ≡ v → ◌≡◌ {A = A × B} (x, u) (y, v)
and p q = ap₂ (λ x u. (x, u)) p q

-- two answers and two values left in what was lent, of which the same fact holds; and what follows the values
pub both_lent : {A B C : Type 0} {x y e : A} {u v f : B} {t : C} (w : World) (m n : w.M) → Coded A → Coded B
    → (fact w.𝓤 ((x ≡ e) × (u ≡ f))).holds m → (fact w.𝓤 ((y ≡ e) × (v ≡ f))).holds n
    → (x ≡ y) × (◌≡◌ {A = B × C} (u, t) (v, t))
both_lent {x} {y} {u} {v} w m n c d p q =
    let same : IsProp ((x ≡ y) × (u ≡ v)) = Σ_prop (Coded-set c x y) (λ z. Coded-set d u v) in
    let is : (x ≡ y) × (u ≡ v) = ∥∥₁_elim p same (λ s. ∥∥₁_elim q same (λ t. (both s.0.0 t.0.0, both s.0.1 t.0.1))) in
    (is.0, and is.1 refl)
