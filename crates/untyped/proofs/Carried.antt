-- What an indexed grammar tells of a row's operands and of an enumerant's parameters.
use Prim.Native.Nat.{ℕ, ◌≤◌}
use mathlib.Core.Path.{◌≡◌, refl}
use mathlib.Core.Bool.{Bool, true, false, ◌&&◌, ◌||◌}
use mathlib.Core.List.{List, [], ◌∷◌, ◌++◌}
use Rattle.std.specs.Prelude.{Option, None, Some}
use borrow.Author.Tests.{leb-true}
use lib.Dec.{leb, eqb}
use lib.ListN.{length}
use Rattle.spec.specs.Base.{implies, every}
use Rattle.spec.specs.Kinds.{may_be_operand, may_be_parameter}
use Rattle.spec.specs.Grammar.{Slot, slot, is_first, after_type, row_of, listed, grammar_of, well_formed, operand_rule, result_rule, literal_rule, fixed_next, fixed_row}
use Rattle.demands.proofs.Formed.{RowFrom, result_at, row_next}
use Rattle.grammar.specs.Index.{Indexed}
use Rattle.grammar.specs.Find.{row_good, row_good_from}
use Rattle.grammar.proofs.Carried.{row_carried, parameters_may_be}
use Rattle.used.specs.Parse.{is_single, or_none, is_operand}
use Rattle.spec.proofs.Choice.{left, right}

-- a grammar has 65,535 bytes at most
pub indexed_short : (g index : List ℕ) → Indexed g index → length g ≤ 65535
unfolding well_formed
indexed_short g index i = leb-true (length g) 65535 (left (leb (length g) 65535) _ i.well)

-- kinds that may be parameters are each one record
are_single : (ps : List ℕ) → every may_be_parameter ps ≡ true → every is_single ps ≡ true
unfolding is_single
are_single [] h = refl
are_single (p ∷ ps) h = simp (left (may_be_parameter p) _ h, are_single ps (right (may_be_parameter p) _ h))

listed_by : (g index : List ℕ) → Indexed g index → (k v : ℕ) (o : Option (List ℕ)) → listed k v (grammar_of g).enumerants ≡ o → every is_single (or_none o) ≡ true
unfolding or_none
listed_by g index i k v None e = refl
listed_by g index i k v (Some ps) e = are_single ps (parameters_may_be g k v ps i.well e)

-- each parameter that is listed is one record
pub listed_single : (g index : List ℕ) → Indexed g index → (k v : ℕ) → every is_single (or_none (listed k v (grammar_of g).enumerants)) ≡ true
listed_single g index i k v = listed_by g index i k v _ refl

first_of : (a b c d e : Bool) → (a && b && c && d && e) ≡ true → a ≡ true
first_of true b c d e h = refl
first_of false b c d e h = h

-- operands that meet a row's rules are of an operand's kind
are_operands : (op : ℕ) (before ss : List Slot) → row_good_from op before ss ≡ true → every is_operand ss ≡ true
unfolding row_good_from is_operand
are_operands op before [] h = refl
are_operands op before (slot k q ∷ ss) h =
    simp (
      first_of (may_be_operand k) (leb q 2) (result_rule before k q) (literal_rule op before k q) (fixed_next (fixed_row op) before k q)
          (left (operand_rule op before k q) _ h),
      are_operands op (before ++ (slot k q ∷ [])) ss (right (operand_rule op before k q) _ h),
    )

-- operands that meet a row's rules have its results first
leads_from : (op : ℕ) (before ss : List Slot) → row_good_from op before ss ≡ true
    → RowFrom (is_first before) (is_first before || after_type before) ss
unfolding row_good_from
leads_from op before [] h = tt
leads_from op before (slot k q ∷ ss) h =
    let first = left (operand_rule op before k q) _ h in
    let results =
    left (may_be_operand k && leb q 2 && result_rule before k q) _
    (left (may_be_operand k && leb q 2 && result_rule before k q && literal_rule op before k q) _ first) in
    let result = right (may_be_operand k && leb q 2) _ results in (
      left (may_be_operand k) (leb q 2) (left _ (result_rule before k q) results),
      result_at 46 k q (is_first before) (left _ _ result),
      result_at 47 k q (is_first before || after_type before) (right (implies (eqb k 46) (is_first before && eqb q 0)) _ result),
      row_next before k q ss (leads_from op (before ++ (slot k q ∷ [])) ss (right (operand_rule op before k q) _ h)),
    )

-- a row that meets the rules has its results first
pub row_leads : (op : ℕ) (ss : List Slot) → row_good op ss ≡ true → RowFrom true true ss
unfolding row_good
row_leads op ss h = leads_from op [] ss h

-- a row meets the rules
pub row_good_lem : (g index : List ℕ) → Indexed g index → (op : ℕ) (ss : List Slot) → row_of op (grammar_of g).rows ≡ Some ss → row_good op ss ≡ true
row_good_lem g index i op ss e = row_carried g op ss i.well e

-- each operand of a row is of an operand's kind
pub row_operands : (g index : List ℕ) → Indexed g index → (op : ℕ) (ss : List Slot) → row_of op (grammar_of g).rows ≡ Some ss → every is_operand ss ≡ true
unfolding row_good
row_operands g index i op ss e = are_operands op [] ss (row_carried g op ss i.well e)
