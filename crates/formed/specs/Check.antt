-- The pass that checks a grammar and fills its index: what holds at each place that it comes to.
use Rattle.std.specs.Prelude.{ℕ, ◌+◌, ◌*◌, ◌≤◌, ◌<◌, ◌≡◌, Bool, true, false, not, ◌&&◌, ◌||◌, List, [], ◌∷◌, ◌++◌, eqb, length, get_or, drop, if◌then◌else◌}
use Rattle.spec.specs.Base.{has, is_in, joined, every}
use Rattle.spec.specs.Grammar.{Item, row, operand, enumerant, parameter, broken, items, start, in_row, in_enumerant, enumerant_rule, rules_from, Enumerant, parameters_of, enumerants_of, parameterless}
use Rattle.grammar.specs.declared.index.Mark.{Mark}
use Rattle.grammar.specs.Index.{marks_from, marks_of, places_of, places_in}
use Rattle.rules.specs.Rules.{follows}
use Rattle.std.specs.Prelude.{None, Option, Some}

-- WHERE A ROW OR AN ENUMERANT MAY OPEN

-- the rules where a row or an enumerant may come: as the first, or after one of kind j and value u
unfoldable pub opens : Bool → ℕ → ℕ → List Item → Bool
opens first j u [] = true
opens first j u (row o ∷ xs) = follows first j u 0 o && rules_from (in_row o []) xs
opens first j u (enumerant k v ∷ xs) = (follows first j u k v && enumerant_rule k v) && rules_from (in_enumerant k v) xs
opens first j u (operand k q ∷ xs) = false
opens first j u (parameter k ∷ xs) = false
opens first j u (broken ∷ xs) = false

-- OPERANDS AND PARAMETERS

-- from one place to another there are operands and parameters alone
pub record Along (g : List ℕ) (from at : ℕ) : Type 0 where
  pub onward : from ≤ at
  pub inside : at ≤ length g
  pub marks : marks_from from (items (drop from g)) ≡ marks_from at (items (drop at g))
  pub enumerants : enumerants_of (items (drop from g)) ≡ enumerants_of (items (drop at g))

-- a place where a test holds, else nothing
unfoldable pub ends_where : Bool → ℕ → Option ℕ
ends_where t at = if t then Some at else None

-- where the operands of a row end that start at a place, or nothing, where a rule is broken
unfoldable pub Operands : List ℕ → ℕ → ℕ → Option ℕ → Type 0
Operands g op from (Some at) = Along g from at × (rules_from (in_row op []) (items (drop from g)) ≡ opens false 0 op (items (drop at g)))
Operands g op from None = rules_from (in_row op []) (items (drop from g)) ≡ false

-- kinds are noted: those that were, and those that pass a test
pub record NotedBy (test : ℕ → Bool) (before after : List Bool) : Type 0 where
  pub size : length after ≡ length before
  pub noted : (k : ℕ) → get_or after k false ≡ test k || get_or before k false

-- the kind of an enumerant, where it has parameters
unfoldable pub is_owner : ℕ → List ℕ → ℕ → Bool
is_owner j ps k = eqb k j && has 1 ps

-- where the parameters of an enumerant of kind j and value u end that start at a place, with what is noted of them, or nothing
unfoldable pub Parameters : List ℕ → ℕ → ℕ → ℕ → List Bool → List Bool → List Bool → List Bool → Option ℕ → Type 0
Parameters g j u from owners owners' used used' (Some at) =
    Along g from at × (rules_from (in_enumerant j u) (items (drop from g)) ≡ opens false j u (items (drop at g)))
    × NotedBy (is_owner j (parameters_of (items (drop from g)))) owners owners'
    × NotedBy (λ k. is_in k (parameters_of (items (drop from g)))) used used'
Parameters g j u from owners owners' used used' None = rules_from (in_enumerant j u) (items (drop from g)) ≡ false

-- KINDS THAT HAVE PARAMETERS, AND KINDS OF PARAMETERS

-- the parameters of some enumerants
unfoldable pub parameters_in : List Enumerant → List ℕ
parameters_in es = joined (λ e. e.parameters) es

-- of the enumerants before a place the kinds are noted that have parameters, and the kinds of these
pub record Noting (g : List ℕ) (owners used : List Bool) (at : ℕ) : Type 0 where
  pub seen : List Enumerant
  pub all : enumerants_of (items g) ≡ seen ++ enumerants_of (items (drop at g))
  pub sizes : (length owners ≡ 256) × (length used ≡ 256)
  pub owned : (k : ℕ) → get_or owners k false ≡ not (parameterless seen k)
  pub taken : (k : ℕ) → get_or used k false ≡ is_in k (parameters_in seen)

-- of all enumerants the kinds are noted that have parameters, and the kinds of these
pub record Noted (g : List ℕ) (owners used : List Bool) : Type 0 where
  pub sizes : (length owners ≡ 256) × (length used ≡ 256)
  pub owned : (k : ℕ) → get_or owners k false ≡ not (parameterless (enumerants_of (items g)) k)
  pub taken : (k : ℕ) → get_or used k false ≡ is_in k (parameters_in (enumerants_of (items g)))

-- the parameters of some enumerants are of kinds that have none in others
unfoldable pub flat_over : List Enumerant → List Enumerant → Bool
flat_over others es = every (λ e. every (parameterless others) e.parameters) es

-- THE PASS

-- at a place after so many rows and enumerants, of which m is the last: the rules from there on decide, and those before are in the index
pub record Checking (g index : List ℕ) (owners used : List Bool) (count : ℕ) (m : Mark) (at : ℕ) : Type 0 where
  pub rules : rules_from start (items g) ≡ opens (eqb count 0) m.kind m.value (items (drop at g))
  pub places : places_of (marks_of g) ≡ places_in count index ++ places_of (marks_from at (items (drop at g)))
  pub few : 3 * count ≤ at
  pub inside : at ≤ length g
  pub noting : Noting g owners used at

-- the place after one more, m, that stands at a place; or nothing, where a rule is broken
unfoldable pub Entered : List ℕ → List ℕ → List Bool → List Bool → ℕ → Mark → ℕ → Option ℕ → Type 0
Entered g index owners used count m at (Some next) = (at < next) × Checking g index owners used (count + 1) m next
Entered g index owners used count m at None = rules_from start (items g) ≡ false
