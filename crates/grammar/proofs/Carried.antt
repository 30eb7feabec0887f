-- Well-formedness, carried to each row and enumerant that is found, for any grammar.
use mathlib.Core.Path.{◌≡◌, refl, subst}
use mathlib.Core.Bool.{Bool, true, false, ◌&&◌}
use mathlib.Core.List.{List, [], ◌∷◌, ◌++◌}
use Rattle.std.specs.Prelude.{Option, None, Some}
use Prim.Native.Nat.{ℕ}
use native.Mathlib.Omega.{arith}
use borrow.Author.Tests.{eqb-true, ltb-true}
use lib.Dec.{eqb, ltb}
use Rattle.std.specs.Prelude.{if◌then◌else◌}
use Rattle.spec.specs.Base.{every, implies}
use Rattle.spec.specs.Kinds.{is_mask, may_be_parameter}
use Rattle.spec.specs.Grammar.{Item, row, operand, enumerant, parameter, broken, items, Slot, slot, Before, start, in_row, in_enumerant, row_end, enumerant_rule, parameter_rule, rule, next, rules_from, slots_of, parameters_of, rows_of, enumerants_of, Enumerant, parameterless, all_flat, row_of, listed, grammar_by, grammar_of, well_formed}
use Rattle.grammar.specs.Find.{row_good, row_good_from}
use Rattle.grammar.proofs.SearchLaws.{and_told}
use Rattle.grammar.proofs.MarkLaws.{never, rules_told}
use Rattle.grammar.proofs.IndexLaws.{well_told}

-- what holds of the first that passes a test, and of what is found later, holds of what is found
picked : {A : Type 0} (P : A → Type 0) (t : Bool) (x y : A) (later : Option A) → (if t then Some x else later) ≡ Some y → (t ≡ true → P x) → (later ≡ Some y → P y) → P y
picked P true x y later e p q = let s : x ≡ y = cc in subst P s (p refl)
picked P false x y later e p q = q e

-- nothing is found in nothing
not_found : {A : Type 0} {P : Type 0} (y : A) → None ≡ Some y → P
not_found y e = let z : ◌≡◌ {A = ℕ} 0 1 = cc in absurd (omega arith)

-- ROWS

-- the operands that follow in an open row meet its rules, and so does its end
slots_good : (op : ℕ) (before : List Slot) (xs : List Item) → rules_from (in_row op before) xs ≡ true → row_good_from op before (slots_of xs) ≡ true
unfolding rules_from rule next slots_of row_good_from
slots_good op before [] e = e
slots_good op before (row o ∷ xs) e = (and_told (row_end op before) (ltb op o) (rules_told (in_row op before) (row o) xs e).0).0
slots_good op before (operand k q ∷ xs) e =
    let t = rules_told (in_row op before) (operand k q) xs e in
    rw t.0 (slots_good op (before ++ (slot k q ∷ [])) xs t.1)
slots_good op before (enumerant k v ∷ xs) e =
    (and_told (row_end op before) (enumerant_rule k v) (rules_told (in_row op before) (enumerant k v) xs e).0).0
slots_good op before (parameter k ∷ xs) e = never (rules_told (in_row op before) (parameter k) xs e).0 refl
slots_good op before (broken ∷ xs) e = never (rules_told (in_row op before) broken xs e).0 refl

-- each row among items that meet the rules
rows_good : (s : Before) (xs : List Item) (op : ℕ) (ss : List Slot) → rules_from s xs ≡ true → row_of op (rows_of xs) ≡ Some ss → row_good op ss ≡ true
unfolding row_of rows_of row_good next
rows_good s [] op ss e f = not_found ss f
rows_good s (row o ∷ xs) op ss e f =
    let t = rules_told s (row o) xs e in
    picked (λ (ss : List Slot). row_good_from op [] ss ≡ true) (eqb o op) (slots_of xs) ss (row_of op (rows_of xs)) f
    (λ (h : eqb o op ≡ true). rw (← (eqb-true o op h)) (slots_good o [] xs t.1)) (rows_good (next s (row o)) xs op ss t.1)
rows_good s (operand k q ∷ xs) op ss e f = rows_good (next s (operand k q)) xs op ss (rules_told s (operand k q) xs e).1 f
rows_good s (enumerant k v ∷ xs) op ss e f = rows_good (next s (enumerant k v)) xs op ss (rules_told s (enumerant k v) xs e).1 f
rows_good s (parameter k ∷ xs) op ss e f = rows_good (next s (parameter k)) xs op ss (rules_told s (parameter k) xs e).1 f
rows_good s (broken ∷ xs) op ss e f = rows_good (next s broken) xs op ss (rules_told s broken xs e).1 f

-- THE LAW OF ROWS: the operands of a row that a well-formed grammar has meet the row's rules
pub row_carried : (g : List ℕ) (op : ℕ) (ss : List Slot) → well_formed g ≡ true → row_of op (grammar_of g).rows ≡ Some ss → row_good op ss ≡ true
unfolding grammar_of grammar_by
row_carried g op ss e f = rows_good start (items g) op ss (well_told g e).rules f

-- ENUMERANTS

-- the parameters that follow in an open enumerant meet its rule
parameters_good : (j u : ℕ) (xs : List Item) → rules_from (in_enumerant j u) xs ≡ true → every (parameter_rule j u) (parameters_of xs) ≡ true
unfolding rule next parameters_of
parameters_good j u [] e = refl
parameters_good j u (row o ∷ xs) e = refl
parameters_good j u (operand k q ∷ xs) e = refl
parameters_good j u (enumerant k v ∷ xs) e = refl
parameters_good j u (parameter k ∷ xs) e =
    let t = rules_told (in_enumerant j u) (parameter k) xs e in
    rw t.0 (parameters_good j u xs t.1)
parameters_good j u (broken ∷ xs) e = refl

-- each enumerant among items that meet the rules
enumerants_good : (s : Before) (xs : List Item) (k v : ℕ) (ps : List ℕ) → rules_from s xs ≡ true → listed k v (enumerants_of xs) ≡ Some ps → every (parameter_rule k v) ps ≡ true
unfolding listed enumerants_of next
enumerants_good s [] k v ps e f = not_found ps f
enumerants_good s (row o ∷ xs) k v ps e f = enumerants_good (next s (row o)) xs k v ps (rules_told s (row o) xs e).1 f
enumerants_good s (operand j q ∷ xs) k v ps e f = enumerants_good (next s (operand j q)) xs k v ps (rules_told s (operand j q) xs e).1 f
enumerants_good s (enumerant j u ∷ xs) k v ps e f =
    let t = rules_told s (enumerant j u) xs e in
    picked (λ (ps : List ℕ). every (parameter_rule k v) ps ≡ true) (eqb j k && eqb u v) (parameters_of xs) ps (listed k v (enumerants_of xs)) f
    (λ (h : eqb j k && eqb u v ≡ true).
    let b = and_told (eqb j k) (eqb u v) h in
    rw (← (eqb-true j k b.0), ← (eqb-true u v b.1)) (parameters_good j u xs t.1))
    (enumerants_good (next s (enumerant j u)) xs k v ps t.1)
enumerants_good s (parameter j ∷ xs) k v ps e f = enumerants_good (next s (parameter j)) xs k v ps (rules_told s (parameter j) xs e).1 f
enumerants_good s (broken ∷ xs) k v ps e f = enumerants_good (next s broken) xs k v ps (rules_told s broken xs e).1 f

-- a test that each enumerant's parameters pass is passed by those that are listed
listed_passes : (test : List ℕ → Bool) (es : List Enumerant) (k v : ℕ) (ps : List ℕ) → every (λ e. test e.parameters) es ≡ true → listed k v es ≡ Some ps → test ps ≡ true
unfolding listed
listed_passes test [] k v ps e f = not_found ps f
listed_passes test (x ∷ es) k v ps e f =
    let t = and_told (test x.parameters) (every (λ e. test e.parameters) es) e in
    picked (λ (ps : List ℕ). test ps ≡ true) (eqb x.kind k && eqb x.value v) x.parameters ps (listed k v es) f
    (λ h. t.0) (listed_passes test es k v ps t.1)

-- a parameter that meets its rule is of a kind that may be one
may_be : (k v : ℕ) (ps : List ℕ) → every (parameter_rule k v) ps ≡ true → every may_be_parameter ps ≡ true
may_be k v [] e = refl
may_be k v (p ∷ ps) e =
    let t = and_told (parameter_rule k v p) (every (parameter_rule k v) ps) e in
    rw (and_told (may_be_parameter p) (implies (is_mask k) (ltb 0 v)) t.0).0 (may_be k v ps t.1)

-- the value 0 of a mask has none
none_at_zero : (k v : ℕ) (ps : List ℕ) → every (parameter_rule k v) ps ≡ true → is_mask k ≡ true → v ≡ 0 → ps ≡ []
none_at_zero k v [] e m z = refl
none_at_zero k v (p ∷ ps) e m z =
    let t = (and_told (parameter_rule k v p) (every (parameter_rule k v) ps) e).0 in
    let h : ltb 0 v ≡ true = rw m at (and_told (may_be_parameter p) (implies (is_mask k) (ltb 0 v)) t).1 in
    absurd (omega (arith, ltb-true 0 v h))

module _ (g : List ℕ) (k v : ℕ) (ps : List ℕ) (e : well_formed g ≡ true) (f : listed k v (grammar_of g).enumerants ≡ Some ps) where
  -- THE LAWS OF ENUMERANTS: the parameters of one that a well-formed grammar lists are of kinds that may be parameters,
  pub parameters_may_be : every may_be_parameter ps ≡ true
  unfolding grammar_of grammar_by
  parameters_may_be = may_be k v ps (enumerants_good start (items g) k v ps (well_told g e).rules f)

  -- of kinds that have no parameters themselves,
  pub parameters_flat : every (parameterless (grammar_of g).enumerants) ps ≡ true
  unfolding grammar_of grammar_by all_flat
  parameters_flat = listed_passes (every (parameterless (enumerants_of (items g)))) (enumerants_of (items g)) k v ps (well_told g e).flat f

  -- and the value 0 of a mask has none
  pub zero_bare : is_mask k ≡ true → v ≡ 0 → ps ≡ []
  unfolding grammar_of grammar_by
  zero_bare = none_at_zero k v ps (enumerants_good start (items g) k v ps (well_told g e).rules f)
