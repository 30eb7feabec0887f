-- What the rules of a well-formed grammar say of its rows and enumerants: kinds that may stand there, and results that come first.
use Prim.Native.Nat.{ℕ}
use mathlib.Core.Path.{◌≡◌, refl}
use mathlib.Core.Bool.{Bool, true, false, ◌&&◌, ◌||◌}
use mathlib.Core.List.{List, [], ◌∷◌, ◌++◌}
use Rattle.std.specs.Prelude.{Option, None, Some}
use borrow.Author.Tests.{eqb-true}
use lib.Dec.{leb, eqb}
use lib.ListN.{length}
use Rattle.spec.specs.Base.{implies, every}
use Rattle.spec.specs.Words.{bits_of}
use Rattle.spec.specs.Kinds.{is_mask, may_be_operand, may_be_parameter}
use Rattle.spec.specs.Grammar.{Item, row, operand, enumerant, parameter, broken, Slot, slot, is_slot, is_first, after_type, result_rule, literal_rule, Before, start, in_row, in_enumerant, rule, next, rules_from, Grammar, slots_of, parameters_of, rows_of, enumerants_of, grammar_by, grammar_of, items, all_flat, well_formed_items, well_formed, row_of, listed, both_listed, bits_listed, parameters_for}
use Rattle.demands.proofs.Choice.{left, right, both, asked, either, IfSome}
use Rattle.demands.proofs.Lists.{every_append}

-- the rule at the first item
first_rule : (s : Before) (x : Item) (xs : List Item) → rules_from s (x ∷ xs) ≡ true → rule s x ≡ true
unfolding rules_from
first_rule s x xs e = left (rule s x) (rules_from (next s x) xs) e

-- the rules at the items after it
rest_rules : (s : Before) (x : Item) (xs : List Item) → rules_from s (x ∷ xs) ≡ true → rules_from (next s x) xs ≡ true
unfolding rules_from
rest_rules s x xs e = right (rule s x) (rules_from (next s x) xs) e

-- ROWS

-- an operand that is a result of a kind stands where that is free, and does not stay
abbrev pub ResultAt : ℕ → ℕ → ℕ → Bool → Type 0
ResultAt result k q free = eqb k result ≡ true → (free ≡ true) × (eqb q 2 ≡ false)

-- the operands of a row from where a result type is free or not, and a result id: "46 only first and One; 47 only first or just
-- after 46, One"
abbrev pub RowFrom : Bool → Bool → List Slot → Type 0
RowFrom t i [] = Unit
RowFrom t i (slot k q ∷ ss) =
    (may_be_operand k ≡ true) × ResultAt 46 k q t × ResultAt 47 k q i × RowFrom false (t && is_slot 46 0 (slot k q)) ss

-- a result by its rule
pub result_at : (result k q : ℕ) (free : Bool) → implies (eqb k result) (free && eqb q 0) ≡ true → ResultAt result k q free
result_at result k q free e h =
    let one = asked (eqb k result) (free && eqb q 0) e h in
    (left free (eqb q 0) one, rw (eqb-true q 0 (right free (eqb q 0) one)))

-- what is free after one operand more
pub row_next : (before : List Slot) (k q : ℕ) (ss : List Slot)
    → let after = before ++ (slot k q ∷ []) in RowFrom (is_first after) (is_first after || after_type after) ss
    → RowFrom false (is_first before && is_slot 46 0 (slot k q)) ss
row_next [] k q ss x = x
row_next (s ∷ []) k q ss x = x
row_next (s ∷ u ∷ before) k q ss x = x

-- the operands that items begin with, in a row
slots_from : (xs : List Item) (op : ℕ) (before : List Slot) → rules_from (in_row op before) xs ≡ true
    → RowFrom (is_first before) (is_first before || after_type before) (slots_of xs)
unfolding slots_of rule next
slots_from [] op before e = tt
slots_from (row o ∷ xs) op before e = tt
slots_from (enumerant k v ∷ xs) op before e = tt
slots_from (parameter k ∷ xs) op before e = tt
slots_from (broken ∷ xs) op before e = tt
slots_from (operand k q ∷ xs) op before e =
    let first =
    left (may_be_operand k && leb q 2 && result_rule before k q && literal_rule op before k q) _
    (first_rule (in_row op before) (operand k q) xs e) in
    let results = left (may_be_operand k && leb q 2 && result_rule before k q) _ first in
    let result = right (may_be_operand k && leb q 2) _ results in (
      left (may_be_operand k) (leb q 2) (left _ (result_rule before k q) results),
      result_at 46 k q (is_first before) (left _ _ result),
      result_at 47 k q (is_first before || after_type before) (right (implies (eqb k 46) (is_first before && eqb q 0)) _ result),
      row_next before k q (slots_of xs)
          (slots_from xs op (before ++ (slot k q ∷ [])) (rest_rules (in_row op before) (operand k q) xs e)),
    )

-- the row of an opcode, where there is one, among the rows of items
rows_good : (op : ℕ) (xs : List Item) (s : Before) → rules_from s xs ≡ true → IfSome (RowFrom true true) (row_of op (rows_of xs))
unfolding rows_of row_of next
rows_good op [] s e = tt
rows_good op (row o ∷ xs) s e =
    let more : rules_from (in_row o []) xs ≡ true = rest_rules s (row o) xs e in
    either (IfSome (RowFrom true true)) (eqb o op) (Some (slots_of xs)) (row_of op (rows_of xs)) (λ t. slots_from xs o [] more)
    (λ t. rows_good op xs (in_row o []) more)
rows_good op (operand k q ∷ xs) s e = rows_good op xs (next s (operand k q)) (rest_rules s (operand k q) xs e)
rows_good op (enumerant k v ∷ xs) s e = rows_good op xs (next s (enumerant k v)) (rest_rules s (enumerant k v) xs e)
rows_good op (parameter k ∷ xs) s e = rows_good op xs (next s (parameter k)) (rest_rules s (parameter k) xs e)
rows_good op (broken ∷ xs) s e = rows_good op xs (next s broken) (rest_rules s broken xs e)

-- ENUMERANTS

-- the parameters of an enumerant, where there is one, are of kinds that parameters may be of
abbrev pub ParametersGood : Option (List ℕ) → Type 0
ParametersGood o = IfSome (λ ps. every may_be_parameter ps ≡ true) o

-- the parameters that items begin with
parameters_from : (xs : List Item) (j u : ℕ) → rules_from (in_enumerant j u) xs ≡ true → every may_be_parameter (parameters_of xs) ≡ true
unfolding parameters_of rule next
parameters_from [] j u e = refl
parameters_from (row o ∷ xs) j u e = refl
parameters_from (operand k q ∷ xs) j u e = refl
parameters_from (enumerant k v ∷ xs) j u e = refl
parameters_from (broken ∷ xs) j u e = refl
parameters_from (parameter k ∷ xs) j u e =
    both (left (may_be_parameter k) _ (first_rule (in_enumerant j u) (parameter k) xs e))
    (parameters_from xs j u (rest_rules (in_enumerant j u) (parameter k) xs e))

-- the parameters of one value, among the enumerants of items
listed_good : (k v : ℕ) (xs : List Item) (s : Before) → rules_from s xs ≡ true → ParametersGood (listed k v (enumerants_of xs))
unfolding enumerants_of listed next
listed_good k v [] s e = tt
listed_good k v (enumerant j u ∷ xs) s e =
    let more : rules_from (in_enumerant j u) xs ≡ true = rest_rules s (enumerant j u) xs e in
    either ParametersGood (eqb j k && eqb u v) (Some (parameters_of xs)) (listed k v (enumerants_of xs))
    (λ t. parameters_from xs j u more)
    (λ t. listed_good k v xs (in_enumerant j u) more)
listed_good k v (row o ∷ xs) s e = listed_good k v xs (next s (row o)) (rest_rules s (row o) xs e)
listed_good k v (operand j q ∷ xs) s e = listed_good k v xs (next s (operand j q)) (rest_rules s (operand j q) xs e)
listed_good k v (parameter j ∷ xs) s e = listed_good k v xs (next s (parameter j)) (rest_rules s (parameter j) xs e)
listed_good k v (broken ∷ xs) s e = listed_good k v xs (next s broken) (rest_rules s broken xs e)

-- the parameters of two values
both_good : (a b : Option (List ℕ)) → ParametersGood a → ParametersGood b → ParametersGood (both_listed a b)
both_good None b x y = tt
both_good (Some a) None x y = tt
both_good (Some a) (Some b) x y = every_append may_be_parameter a b x y

-- the parameters of each of some bits
bits_good : (k : ℕ) (bs : List ℕ) (xs : List Item) → rules_from start xs ≡ true → ParametersGood (bits_listed k bs (enumerants_of xs))
unfolding bits_listed
bits_good k [] xs e = refl
bits_good k (b ∷ bs) xs e =
    both_good (listed k b (enumerants_of xs)) (bits_listed k bs (enumerants_of xs)) (listed_good k b xs start e) (bits_good k bs xs e)

-- THE GRAMMAR

-- rows and parameters as the rules have them
pub record GrammarGood (g : Grammar) : Type 0 where
  pub rows : (op : ℕ) → IfSome (RowFrom true true) (row_of op g.rows)
  pub parameters : (k v : ℕ) → ParametersGood (parameters_for k v g)

-- the grammar of well-formed bytes
pub well_formed_good : (g : List ℕ) → well_formed g ≡ true → GrammarGood (grammar_of g)
unfolding well_formed well_formed_items grammar_of grammar_by parameters_for
well_formed_good g e =
    let rules : rules_from start (items g) ≡ true = left _ (all_flat (enumerants_of (items g))) (right (leb (length g) 65535) _ e) in
    record {
      rows = λ op. rows_good op (items g) start rules;
      parameters = λ k v.
          either ParametersGood (is_mask k) _ _ (λ t. bits_good k (bits_of v) (items g) rules)
          (λ t. listed_good k v (items g) start rules);
    }
