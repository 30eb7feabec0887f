-- Laws of module order, an index at a time.
use Prim.Native.Nat.{ℕ, ◌+◌, ◌-◌, ◌<◌, ◌≤◌}
use mathlib.Core.Path.{◌≡◌, refl, ap, sym, subst, ◌∙◌}
use mathlib.Core.Bool.{Bool, true, false}
use mathlib.Core.List.{List, [], ◌∷◌, ◌++◌, append_assoc, append-nil, reverse, reverse-append}
use native.Mathlib.Omega.{arith}
use borrow.Author.Tests.{eq-eqb, ne_eqb, lt-ltb, le-ltb, ltb-true, ltb-false}
use lib.Dec.{ltb, eqb}
use lib.ListN.{take, drop, take-append-drop}
use Rattle.spec.specs.declared.Fields.{Fields}
use Rattle.std.specs.Prelude.{if◌then◌else◌}
use Rattle.spec.specs.Base.{only}
use Rattle.spec.specs.Records.{Placed}
use Rattle.spec.specs.Write.{has_tag, section_of, parameters_in, functions, module_order}
use Rattle.spelled.specs.Spelled.{said_by}
use Rattle.spelled.specs.Placing.{GoodStores, instrs_of, one_at, tagged}
use Rattle.spelled.proofs.Stores.{At, one_is}
use Rattle.spelled.proofs.Orders.{all_end, tagged_more, tagged_yes, tagged_no, sections_from, sections_all, sections_more_lem, sections_end, parameters_end, parameters_none, parameters_more, functions_more, part_definition, part_one, part_none, module_is}
use Rattle.disassemble.specs.declared.walk.Cursor.{Cursor}
use Rattle.std.specs.Prelude.{Option, None, Some}
use Rattle.disassemble.specs.Listed.{last_tagged, section_from, section_after, InSection, sections_left, parameters_left, left_of, Follows}

-- A TAG

-- an index is the next with a tag from another on, or there is none
abbrev pub FirstTagged : List Placed → ℕ → ℕ → ℕ → ℕ → Type 0
FirstTagged is count t from r =
    (r < count → tagged t (drop from is) ≡ one_at is r ++ tagged t (drop (r + 1) is)) × (count ≤ r → tagged t (drop from is) ≡ [])

-- one that has it
pub first_yes : {ws log strings : List ℕ} {count i : ℕ} {f : Fields} (a : At ws log strings count i f) (t from : ℕ) → i < count
    → tagged t (drop from (instrs_of ws log strings count)) ≡ tagged t (drop i (instrs_of ws log strings count)) → f.tag ≡ t
    → FirstTagged (instrs_of ws log strings count) count t from i
first_yes {ws} {log} {strings} {count} {i} a t from h e q =
    let is = instrs_of ws log strings count in
    (λ g. e ∙ tagged_more t is i ∙ ap (λ (z : List Placed). z ++ tagged t (drop (i + 1) is)) (tagged_yes a t q), λ g. absurd (omega arith))

-- one that has it not
pub first_no : {ws log strings : List ℕ} {count i : ℕ} {f : Fields} (a : At ws log strings count i f) (t from : ℕ)
    → tagged t (drop from (instrs_of ws log strings count)) ≡ tagged t (drop i (instrs_of ws log strings count)) → (f.tag ≡ t → ⊥)
    → tagged t (drop from (instrs_of ws log strings count)) ≡ tagged t (drop (i + 1) (instrs_of ws log strings count))
first_no {ws} {log} {strings} {count} {i} a t from e n =
    let is = instrs_of ws log strings count in
    e ∙ tagged_more t is i ∙ ap (λ (z : List Placed). z ++ tagged t (drop (i + 1) is)) (tagged_no a t n)

-- none of none
tagged_end : (t : ℕ) (is : List Placed) → is ≡ [] → tagged t is ≡ []
unfolding tagged
tagged_end t is e = ap (only (has_tag t)) e

-- none
pub first_none : (ws log strings : List ℕ) (count : ℕ) → GoodStores ws log strings count → (t from i : ℕ) → count ≤ i
    → tagged t (drop from (instrs_of ws log strings count)) ≡ tagged t (drop i (instrs_of ws log strings count))
    → FirstTagged (instrs_of ws log strings count) count t from count
first_none ws log strings count g t from i h e = (λ k. absurd (omega arith), λ k. e ∙ tagged_end t _ (all_end ws log strings count g i h))

-- THE LAST WITH A TAG

-- none behind the last
pub last_starts : (ws log strings : List ℕ) (count : ℕ) → GoodStores ws log strings count → (t : ℕ) → tagged t (drop count (instrs_of ws log strings count)) ≡ []
last_starts ws log strings count g t = tagged_end t _ (all_end ws log strings count g count (omega arith))

-- and on again
pub up : (t : ℕ) (is : List Placed) (i : ℕ) → 0 < i → tagged t (drop i is) ≡ [] → tagged t (drop (i - 1 + 1) is) ≡ []
up t is i h e =
    let k : i - 1 + 1 ≡ i = omega arith in
    ap (λ (j : ℕ). tagged t (drop j is)) k ∙ e

-- those that pass of two lists
only_append : {A : Type 0} (f : A → Bool) (xs ys : List A) → only f (xs ++ ys) ≡ only f xs ++ only f ys
only_append f [] ys = refl
only_append f (x ∷ xs) ys = only_first (f x) x (only f xs) (only f ys) (only f (xs ++ ys)) (only_append f xs ys)
  where
    only_first : {A : Type 0} (t : Bool) (x : A) (l m n : List A) → n ≡ l ++ m → (if t then x ∷ n else n) ≡ (if t then x ∷ l else l) ++ m
    only_first true x l m n e = ap (λ (z : List _). x ∷ z) e
    only_first false x l m n e = e

-- an index is the last with a tag, or there is none
abbrev pub LastTagged : List Placed → ℕ → ℕ → ℕ → Type 0
LastTagged is count t r = (r < count → last_tagged t is ≡ one_at is r) × (count ≤ r → last_tagged t is ≡ [])

-- the last that has it
pub last_yes : {ws log strings : List ℕ} {count i : ℕ} {f : Fields} (a : At ws log strings count i f) (t : ℕ) → i < count
    → tagged t (drop (i + 1) (instrs_of ws log strings count)) ≡ [] → f.tag ≡ t → LastTagged (instrs_of ws log strings count) count t i
unfolding last_tagged tagged
last_yes {ws} {log} {strings} {count} {i} {f} a t h e q =
    let is = instrs_of ws log strings count in
    let here : only (has_tag t) (drop i is) ≡ said_by log strings f ∷ [] =
    tagged_more t is i ∙ ap (λ (z : List Placed). z ++ tagged t (drop (i + 1) is)) (tagged_yes a t q ∙ one_is a) ∙ ap (λ (z : List Placed). (said_by log strings f ∷ []) ++ z) e in
    let whole : only (has_tag t) is ≡ only (has_tag t) (take i is) ++ (said_by log strings f ∷ []) =
    ap (only (has_tag t)) (sym (take-append-drop i is)) ∙ only_append (has_tag t) (take i is) (drop i is) ∙ ap (λ (z : List Placed). only (has_tag t) (take i is) ++ z) here in (
      λ g. ap (λ (z : List Placed). take 1 (reverse z)) whole ∙ ap (take 1) (reverse-append (only (has_tag t) (take i is)) (said_by log strings f ∷ [])) ∙ sym (one_is a),
      λ g. absurd (omega arith),
    )

-- one more has it not
pub last_no : {ws log strings : List ℕ} {count i : ℕ} {f : Fields} (a : At ws log strings count i f) (t : ℕ)
    → tagged t (drop (i + 1) (instrs_of ws log strings count)) ≡ [] → (f.tag ≡ t → ⊥) → tagged t (drop i (instrs_of ws log strings count)) ≡ []
last_no {ws} {log} {strings} {count} {i} a t e n =
    let is = instrs_of ws log strings count in
    tagged_more t is i ∙ ap (λ (z : List Placed). z ++ tagged t (drop (i + 1) is)) (tagged_no a t n) ∙ e

-- none
pub last_none : (is : List Placed) (count t i : ℕ) → i ≤ 0 → tagged t (drop i is) ≡ [] → LastTagged is count t count
unfolding last_tagged
last_none is count t i h e =
    let z : i ≡ 0 = omega arith in
    let nothing : tagged t is ≡ [] = ap (λ (k : ℕ). tagged t (drop k is)) (sym z) ∙ e in
    (λ g. absurd (omega arith), λ g. ap (λ (l : List Placed). take 1 (reverse l)) nothing)

-- AN ANSWER

-- another name for what is left
pub follows_as : (is : List Placed) (count : ℕ) (x y : List Placed) (r : Option (ℕ × Cursor)) → x ≡ y → Follows is count y r → Follows is count x r
follows_as is count x y r e h = subst (λ (z : List Placed). Follows is count z r) (sym e) h

-- the end
pub follows_end : (is : List Placed) (count : ℕ) (x : List Placed) → x ≡ [] → Follows is count x None
unfolding Follows
follows_end is count x e = e

-- THE FUNCTIONS

module _ {ws log strings : List ℕ} {count i : ℕ} {f : Fields} (a : At ws log strings count i f) (from : ℕ) (h : i < count)
    (e : functions (drop from (instrs_of ws log strings count)) ≡ functions (drop i (instrs_of ws log strings count))) where
  -- a definition
  pub function_definition : f.tag ≡ 12
      → Follows (instrs_of ws log strings count) count (functions (drop from (instrs_of ws log strings count))) (Some (i, record { tag = 13; at = i + 1; back = i + 1 }))
  unfolding Follows left_of parameters_left
  function_definition q =
      let is = instrs_of ws log strings count in (
        h,
        e ∙ functions_more a ∙ ap (λ (z : List Placed). z ++ functions (drop (i + 1) is)) (part_definition a q)
            ∙ append_assoc (one_at is i) (parameters_in (drop (i + 1) is)) (functions (drop (i + 1) is)),
      )

  module _ (n : f.tag ≡ 12 → ⊥) where
    -- what comes as it is
    pub function_part_lem : 14 ≤ f.tag
        → Follows (instrs_of ws log strings count) count (functions (drop from (instrs_of ws log strings count))) (Some (i, record { tag = 12; at = i + 1; back = 0 }))
    unfolding Follows left_of
    function_part_lem q =
        let is = instrs_of ws log strings count in
        (h, e ∙ functions_more a ∙ ap (λ (z : List Placed). z ++ functions (drop (i + 1) is)) (part_one a n q))

    -- nothing
    pub function_none : f.tag < 14 → functions (drop from (instrs_of ws log strings count)) ≡ functions (drop (i + 1) (instrs_of ws log strings count))
    function_none q =
        let is = instrs_of ws log strings count in
        e ∙ functions_more a ∙ ap (λ (z : List Placed). z ++ functions (drop (i + 1) is)) (part_none a n q)

-- THE PARAMETERS

module _ {ws log strings : List ℕ} {count i : ℕ} {f : Fields} (a : At ws log strings count i f) (from back : ℕ)
    (e : parameters_left from back (instrs_of ws log strings count) ≡ parameters_left i back (instrs_of ws log strings count)) where
  -- the end of the function
  pub parameter_end : f.tag ≡ 16 → parameters_left from back (instrs_of ws log strings count) ≡ functions (drop back (instrs_of ws log strings count))
  unfolding parameters_left
  parameter_end q = e ∙ ap (λ (z : List Placed). z ++ functions (drop back (instrs_of ws log strings count))) (parameters_none a q)

  module _ (n : f.tag ≡ 16 → ⊥) where
    -- one
    pub parameter_yes : i < count → f.tag ≡ 13
        → Follows (instrs_of ws log strings count) count (parameters_left from back (instrs_of ws log strings count)) (Some (i, record { tag = 13; at = i + 1; back = back }))
    unfolding Follows left_of parameters_left
    parameter_yes h q =
        let is = instrs_of ws log strings count in (
          h,
          e
              ∙ ap (λ (z : List Placed). z ++ functions (drop back is)) (parameters_more a n ∙ ap (λ (z : List Placed). z ++ parameters_in (drop (i + 1) is)) (tagged_yes a 13 q))
              ∙ append_assoc (one_at is i) (parameters_in (drop (i + 1) is)) (functions (drop back is)),
        )

    -- none
    pub parameter_no : (f.tag ≡ 13 → ⊥) → parameters_left from back (instrs_of ws log strings count) ≡ parameters_left (i + 1) back (instrs_of ws log strings count)
    unfolding parameters_left
    parameter_no q =
        let is = instrs_of ws log strings count in
        e ∙ ap (λ (z : List Placed). z ++ functions (drop back is)) (parameters_more a n ∙ ap (λ (z : List Placed). z ++ parameters_in (drop (i + 1) is)) (tagged_no a 13 q))

-- no record is left
pub parameter_past : (ws log strings : List ℕ) (count : ℕ) → GoodStores ws log strings count → (from back i : ℕ) → count ≤ i
    → parameters_left from back (instrs_of ws log strings count) ≡ parameters_left i back (instrs_of ws log strings count)
    → parameters_left from back (instrs_of ws log strings count) ≡ functions (drop back (instrs_of ws log strings count))
unfolding parameters_left
parameter_past ws log strings count g from back i h e =
    e ∙ ap (λ (z : List Placed). z ++ functions (drop back (instrs_of ws log strings count))) (parameters_end _ (all_end ws log strings count g i h))

-- THE SECTIONS

-- of MemoryModel the last
pub in_last : (is : List Placed) (count t from r : ℕ) → t ≡ 4 → LastTagged is count t r → InSection is count t from r
unfolding section_from section_after
in_last is count t from r e l =
    record {
      found = λ h. rw (eq-eqb t 4 e) (l.0 h ∙ sym (append-nil (one_at is r)));
      none = λ h. rw (eq-eqb t 4 e) (l.1 h);
    }

-- of any other the next
pub in_first : (is : List Placed) (count t from r : ℕ) → (t ≡ 4 → ⊥) → FirstTagged is count t from r → InSection is count t from r
unfolding section_from section_after
in_first is count t from r n l = record { found = λ h. rw (ne_eqb t 4 n) (l.0 h); none = λ h. rw (ne_eqb t 4 n) (l.1 h) }

-- a section from its start
section_whole : (t : ℕ) (is : List Placed) → section_from t 0 is ≡ section_of t is
unfolding section_from section_of last_tagged tagged
section_whole t is = by (eqb t 4)
  where
    by : (b : Bool) → (if b then take 1 (reverse (only (has_tag t) is)) else only (has_tag t) is) ≡ (if b then take 1 (reverse (only (has_tag t) is)) else only (has_tag t) is)
    by b = refl

-- what is left after a section
abbrev pub sections_more : ℕ → List Placed → List Placed
sections_more t is = sections_from (12 - (t + 1)) (t + 1) is ++ functions is

-- the next section is whole
more_sections : (t : ℕ) (is : List Placed) → t + 1 < 12 → sections_more t is ≡ sections_left (t + 1) 0 is
unfolding sections_left
more_sections t is h =
    ap (λ (z : List Placed). z ++ functions is) (sections_more_lem (t + 1) is h)
    ∙ append_assoc (section_of (t + 1) is) (sections_from (12 - (t + 1 + 1)) (t + 1 + 1) is) (functions is)
    ∙ ap (λ (z : List Placed). z ++ sections_more (t + 1) is) (sym (section_whole (t + 1) is))

-- after MemoryModel the section behind it
pub after_last : (i t : ℕ) → t ≡ 4 → (is : List Placed) → left_of (record { tag = 5; at = 0; back = 0 }) is ≡ section_after t i is ++ (sections_from (12 - (t + 1)) (t + 1) is ++ functions is)
unfolding left_of section_after
after_last i t e is =
    sym (more_sections 4 is (omega arith))
    ∙ sym (ap (λ (k : ℕ). (if eqb k 4 then [] else tagged k (drop (i + 1) is)) ++ (sections_from (12 - (k + 1)) (k + 1) is ++ functions is)) e)

-- after any other the rest of it
pub after_first : (i t : ℕ) → (t ≡ 4 → ⊥) → t < 12 → (is : List Placed) → left_of (record { tag = t; at = i + 1; back = 0 }) is ≡ section_after t i is ++ (sections_from (12 - (t + 1)) (t + 1) is ++ functions is)
unfolding left_of sections_left section_from section_after
after_first i t n h is = rw (lt-ltb t 12 h, ne_eqb t 4 n)

-- what is left where the sections are gone through
unfoldable pub sections_or : ℕ → ℕ → List Placed → List Placed
sections_or t i is = if ltb t 12 then sections_left t i is else functions is

-- in a section
pub or_section : (t i : ℕ) (is : List Placed) → t < 12 → sections_left t i is ≡ sections_or t i is
unfolding sections_or
or_section t i is h = rw (lt-ltb t 12 h)

-- behind them
pub or_functions : (t i : ℕ) (is : List Placed) → 12 ≤ t → sections_or t i is ≡ functions (drop 0 is)
unfolding sections_or
or_functions t i is h = rw (le-ltb t 12 h)

module _ {is : List Placed} {count t from r : ℕ} (s : InSection is count t from r) (h : t < 12) (x : List Placed) (e : x ≡ sections_or t from is) where
  -- the section has one
  pub section_has : (c : Cursor) → ((is : List Placed) → left_of c is ≡ section_after t r is ++ (sections_from (12 - (t + 1)) (t + 1) is ++ functions is)) → r < count → Follows is count x (Some (r, c))
  unfolding Follows sections_left
  section_has c l g = (
    g,
    e ∙ sym (or_section t from is h) ∙ ap (λ (z : List Placed). z ++ sections_more t is) (s.found g)
        ∙ append_assoc (one_at is r) (section_after t r is) (sections_more t is) ∙ ap (λ (z : List Placed). one_at is r ++ z) (sym (l is)),
  )

  -- it has none: the next section, or the functions
  pub section_lacks : count ≤ r → x ≡ sections_or (t + 1) 0 is
  unfolding sections_left sections_or
  section_lacks g = e ∙ sym (or_section t from is h) ∙ nothing ∙ by (ltb (t + 1) 12) refl
    where
      nothing : sections_left t from is ≡ sections_more t is
      nothing = ap (λ (z : List Placed). z ++ sections_more t is) (s.none g)

      by : (b : Bool) → ltb (t + 1) 12 ≡ b → sections_more t is ≡ sections_or (t + 1) 0 is
      by true q = more_sections t is (ltb-true (t + 1) 12 q) ∙ rw q
      by false q = ap (λ (z : List Placed). z ++ functions is) (sections_end (t + 1) is (ltb-false (t + 1) 12 q)) ∙ rw q

-- THE ORDER

-- the sections
pub left_sections : (c : Cursor) (is : List Placed) → c.tag < 12 → left_of c is ≡ sections_left c.tag c.at is
unfolding left_of
left_sections c is h = rw (lt-ltb c.tag 12 h)

-- the functions
pub left_functions : (c : Cursor) (is : List Placed) → 12 ≤ c.tag → c.tag ≡ 12 → left_of c is ≡ functions (drop c.at is)
unfolding left_of
left_functions c is h e = rw (le-ltb c.tag 12 h, eq-eqb c.tag 12 e)

-- parameters
pub left_parameters : (c : Cursor) (is : List Placed) → 12 ≤ c.tag → (c.tag ≡ 12 → ⊥) → left_of c is ≡ parameters_left c.at c.back is
unfolding left_of
left_parameters c is h n = rw (le-ltb c.tag 12 h, ne_eqb c.tag 12 n)

-- all at first
pub left_all : (is : List Placed) → module_order is ≡ left_of (record { tag = 1; at = 0; back = 0 }) is
unfolding left_of
left_all is =
    module_is is
    ∙ ap (λ (z : List Placed). z ++ functions is) (sections_all is)
    ∙ more_sections 0 is (omega arith)
