-- Laws of literals by the type of an id.
use Prim.Native.Nat.{ℕ}
use mathlib.Core.Path.{◌≡◌, refl, ap, sym, ◌∙◌}
use mathlib.Core.Bool.{Bool, true, false, ◌||◌}
use mathlib.Core.List.{List, [], ◌∷◌}
use Rattle.std.specs.Prelude.{Option, None, Some}
use borrow.Author.Tests.{eq-eqb, ne_eqb}
use lib.Dec.{eqb}
use Rattle.spec.specs.Base.{is_in}
use Rattle.spec.specs.Records.{Entry, entry}
use Rattle.spec.specs.Match.{literal_kind, literal_kind_of, type_of}
use Rattle.tracker.specs.declared.Scalar.{Scalar}
use Rattle.tracker.specs.Entries.{resolved_by, known_of}
use Rattle.used.specs.declared.used.Used.{Used}
use Rattle.used.specs.Parse.{selector_of, is_literal, literal_for}

-- THE KIND

in_two : (a b : Bool) → (a || (b || false)) ≡ (a || b)
in_two true b = refl
in_two false true = refl
in_two false false = refl

-- one of three, as a list is searched
pub in_three : (a b c : Bool) → (a || (b || (c || false))) ≡ (a || b || c)
in_three true b c = refl
in_three false true c = refl
in_three false false true = refl
in_three false false false = refl

-- a float of one word
pub float_one : (w : ℕ) → (eqb w 16 || eqb w 32) ≡ true → (Some 37 ≡ literal_kind w 3) × (is_literal (Some 37) ≡ true)
unfolding is_literal
float_one w h = let z : is_in w (16 ∷ 32 ∷ []) ≡ true = in_two (eqb w 16) (eqb w 32) ∙ h in (simp z, refl)

-- a float of two
pub float_two : (w : ℕ) → (eqb w 16 || eqb w 32) ≡ false → w ≡ 64 → (Some 38 ≡ literal_kind w 3) × (is_literal (Some 38) ≡ true)
unfolding is_literal
float_two w h e = let z : is_in w (16 ∷ 32 ∷ []) ≡ false = in_two (eqb w 16) (eqb w 32) ∙ h in (simp (z, eq-eqb w 64 e), refl)

-- a float of another width
pub float_none : (w : ℕ) → (eqb w 16 || eqb w 32) ≡ false → (w ≡ 64 → ⊥) → (None ≡ literal_kind w 3) × (is_literal None ≡ true)
unfolding is_literal
float_none w h e = let z : is_in w (16 ∷ 32 ∷ []) ≡ false = in_two (eqb w 16) (eqb w 32) ∙ h in (simp (z, ne_eqb w 64 e), refl)

-- an integer of one word
pub integer_one : (w : ℕ) → (eqb w 8 || eqb w 16 || eqb w 32) ≡ true → (Some 34 ≡ literal_kind w 1) × (is_literal (Some 34) ≡ true)
unfolding is_literal
integer_one w h = let z : is_in w (8 ∷ 16 ∷ 32 ∷ []) ≡ true = in_three (eqb w 8) (eqb w 16) (eqb w 32) ∙ h in (simp z, refl)

-- an integer of two
pub integer_two : (w : ℕ) → (eqb w 8 || eqb w 16 || eqb w 32) ≡ false → w ≡ 64 → (Some 36 ≡ literal_kind w 1) × (is_literal (Some 36) ≡ true)
unfolding is_literal
integer_two w h e =
    let z : is_in w (8 ∷ 16 ∷ 32 ∷ []) ≡ false = in_three (eqb w 8) (eqb w 16) (eqb w 32) ∙ h in (simp (z, eq-eqb w 64 e), refl)

-- an integer of another width
pub integer_none : (w : ℕ) → (eqb w 8 || eqb w 16 || eqb w 32) ≡ false → (w ≡ 64 → ⊥) → (None ≡ literal_kind w 1) × (is_literal None ≡ true)
unfolding is_literal
integer_none w h e =
    let z : is_in w (8 ∷ 16 ∷ 32 ∷ []) ≡ false = in_three (eqb w 8) (eqb w 16) (eqb w 32) ∙ h in (simp (z, ne_eqb w 64 e), refl)

-- the kind by what is known of an id: one word where that is nothing
abbrev kind_by : Option Scalar → Option ℕ
kind_by (Some x) = literal_kind x.width x.sort
kind_by None = Some 34

-- it is the kind by the entry
kind_by_lem : (x : Option Entry) → kind_by (resolved_by x) ≡ literal_kind_of x
unfolding resolved_by
kind_by_lem None = refl
kind_by_lem (Some (entry id w s)) = refl

module _ (r : Option Scalar) where
  -- what is known of an id decides its kind
  kind_known : (k : Option ℕ) → k ≡ kind_by r → (i : Option ℕ) (es : List Entry) → r ≡ known_of i es → k ≡ literal_kind_of (type_of i es)
  unfolding known_of
  kind_known k p i es q = p ∙ ap kind_by q ∙ kind_by_lem (type_of i es)

  -- nothing: one word
  pub kind_unknown : r ≡ None
      → ((i : Option ℕ) (es : List Entry) → r ≡ known_of i es → Some 34 ≡ literal_kind_of (type_of i es)) × (is_literal (Some 34) ≡ true)
  unfolding is_literal
  kind_unknown e = (kind_known (Some 34) (sym (ap kind_by e)), refl)

  module _ (x : Scalar) (k : Option ℕ) (e : r ≡ Some x) where
    -- a float's
    pub kind_float : x.sort ≡ 3 → (k ≡ literal_kind x.width 3) × (is_literal k ≡ true)
        → ((i : Option ℕ) (es : List Entry) → r ≡ known_of i es → k ≡ literal_kind_of (type_of i es)) × (is_literal k ≡ true)
    kind_float z p = (kind_known k (p.0 ∙ ap (literal_kind x.width) (sym z) ∙ sym (ap kind_by e)), p.1)

    -- an integer's
    pub kind_integer : (x.sort ≡ 3 → ⊥) → (k ≡ literal_kind x.width 1) × (is_literal k ≡ true)
        → ((i : Option ℕ) (es : List Entry) → r ≡ known_of i es → k ≡ literal_kind_of (type_of i es)) × (is_literal k ≡ true)
    kind_integer z p =
        let same : literal_kind x.width 1 ≡ literal_kind x.width x.sort = simp (ne_eqb x.sort 3 z) in
        (kind_known k (p.0 ∙ same ∙ sym (ap kind_by e)), p.1)

-- THE KIND FOR AN OPERAND

module _ (types : List Entry) (u : Used) (k : ℕ) (literal : Option ℕ) where
  -- by the result type
  pub literal_result : k ≡ 48 → (literal ≡ literal_kind_of (type_of u.rtype types)) × (is_literal literal ≡ true)
      → (literal ≡ literal_for types u k) × (is_literal literal ≡ true)
  unfolding literal_for
  literal_result e h = (simp (eq-eqb k 48 e) h.0, h.1)

  -- by the first operand
  pub literal_first : k ≡ 49 → (o : Option ℕ) → o ≡ selector_of u → (literal ≡ literal_kind_of (type_of o types)) × (is_literal literal ≡ true)
      → (literal ≡ literal_for types u k) × (is_literal literal ≡ true)
  unfolding literal_for
  literal_first e o q h = (rw e (rw q at h.0), h.1)

-- another operand is read as none
pub literal_other : (types : List Entry) (u : Used) (k : ℕ) → (k ≡ 48 → ⊥) → (k ≡ 49 → ⊥) → (None ≡ literal_for types u k) × (is_literal None ≡ true)
unfolding literal_for is_literal
literal_other types u k x y = (simp (ne_eqb k 48 x, ne_eqb k 49 y), refl)
