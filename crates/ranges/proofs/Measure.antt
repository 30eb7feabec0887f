-- How many bytes module order takes: those of all instructions but the MemoryModels before the last. And where the functions begin.
use Prim.Native.Nat.{ℕ, zero, suc, ◌+◌, ◌*◌, ◌<◌, ◌≤◌}
use mathlib.Core.Path.{◌≡◌, refl, ap, sym, subst, ◌∙◌}
use mathlib.Core.Bool.{Bool, true, false, ◌||◌, false≢true}
use mathlib.Core.List.{List, [], ◌∷◌, ◌++◌}
use Rattle.std.specs.Prelude.{Option}
use native.Mathlib.Omega.{arith}
use borrow.Author.Tests.{eqb-true, eqb-false, eq-eqb, ne_eqb, le-leb, lt-leb}
use lib.Dec.{eqb}
use lib.ListN.{length, take, drop, take-append-drop, length-append}
use Rattle.spec.specs.declared.Fields.{Fields}
use Rattle.spec.specs.declared.State.{State}
use Rattle.spec.specs.declared.State.TheVariants.{Outside, Function, Block}
use Rattle.std.specs.Prelude.{if◌then◌else◌}
use Rattle.spec.specs.Base.{within, only}
use Rattle.spec.specs.Records.{Placed, record_size}
use Rattle.spec.specs.Check.{scan_of, checked_by, check}
use Rattle.spec.specs.Write.{bytes_of_all, has_tag, section_of, parameters_in, functions, module_order}
use Rattle.spec.proofs.Choice.{other, cases, either, in_range}
use Rattle.demands.proofs.Cells.{leads}
use Rattle.demands.proofs.Standing.{Walks, check_walks, walk_on}
use Rattle.records.specs.Good.{Good}
use Rattle.spelled.specs.Placing.{full_stores, GoodStores, instrs_of, one_at, tagged}
use Rattle.spelled.proofs.Stores.{At}
use Rattle.spelled.proofs.Place.{length_bytes}
use Rattle.spelled.proofs.Orders.{tagged_append, tagged_up, tagged_size, sections_from, sections_all, module_is}
use Rattle.ranges.proofs.Sections.{section_all}

-- how many bytes instructions take
abbrev size : List Placed → ℕ
size ps = length (bytes_of_all ps)

-- the tags of good stores walk the table
stores_walk : (ws log strings : List ℕ) (count : ℕ) → GoodStores ws log strings count → Walks Outside (instrs_of ws log strings count)
unfolding GoodStores instrs_of Good check
stores_walk ws log strings count g =
    let x = full_stores ws log strings count in
    check_walks false x (scan_of record_size x).instrs (ap (λ (o : Option ℕ). checked_by o (scan_of record_size x).instrs) g)

-- BYTES BEFORE AN INDEX

-- those with a tag take no more than all
tagged_fewer : (t : ℕ) (is : List Placed) → size (tagged t is) ≤ size is
unfolding tagged
tagged_fewer t [] = omega arith
tagged_fewer t (p ∷ ps) =
    either (λ (l : List Placed). size l ≤ size (p ∷ ps)) (has_tag t p) (p ∷ only (has_tag t) ps) (only (has_tag t) ps)
    (λ e. omega (arith, tagged_fewer t ps, length_bytes (p ∷ []) ps, length_bytes (p ∷ []) (only (has_tag t) ps)))
    (λ e. omega (arith, tagged_fewer t ps, length_bytes (p ∷ []) ps))

-- none before the first
pub none_before : (t : ℕ) → 0 ≡ size (tagged t [])
unfolding tagged bytes_of_all
none_before t = refl

module _ {ws log strings : List ℕ} {count i : ℕ} {f : Fields} (a : At ws log strings count i f) (t n : ℕ)
    (e : n ≡ size (tagged t (take i (instrs_of ws log strings count)))) (m : ℕ) (q : m ≡ (if eqb f.tag t then 4 * f.words else 0)) where
  -- one index further
  pub before_more : n + m ≡ size (tagged t (take (i + 1) (instrs_of ws log strings count)))
  before_more =
      omega (arith, e, q, tagged_size a t, ap size (tagged_up t (instrs_of ws log strings count) i), length_bytes (tagged t (take i (instrs_of ws log strings count))) (tagged t (one_at (instrs_of ws log strings count) i)))

  -- no more than the instructions up to there take
  pub before_few : n + m ≤ size (take (i + 1) (instrs_of ws log strings count))
  before_few = omega (arith, before_more, tagged_fewer t (take (i + 1) (instrs_of ws log strings count)))

-- all before the index
pub before_ends : (t : ℕ) {n : ℕ} (is : List Placed) (i to : ℕ) → n ≡ size (tagged t (take i is)) → i ≤ to → to ≤ i → n ≡ size (tagged t (take to is))
before_ends t is i to e h g =
    let q : i ≡ to = omega arith in
    e ∙ ap (λ (k : ℕ). size (tagged t (take k is))) q

-- THE INSTRUCTIONS WITH SOME TAGS

-- those with each of so many tags from one on
unfoldable tagged_from : ℕ → ℕ → List Placed → List Placed
tagged_from zero t is = []
tagged_from (suc n) t is = tagged t is ++ tagged_from n (suc t) is

module _ (p : Placed) (ps : List Placed) where
  -- one more that has none of the tags
  tags_without : (n t : ℕ) → (t ≤ p.tag → p.tag < t + n → ⊥) → tagged_from n t (p ∷ ps) ≡ tagged_from n t ps
  unfolding tagged_from tagged
  tags_without zero t h = refl
  tags_without (suc n) t h =
      rw (
        ne_eqb p.tag t (λ e. h (omega arith) (omega arith)),
        tags_without n (suc t) (λ a b. h (omega arith) (omega arith)),
      )

  -- one more that has one
  tags_with : (n t : ℕ) → t ≤ p.tag → p.tag < t + n → size (tagged_from n t (p ∷ ps)) ≡ size (p ∷ []) + size (tagged_from n t ps)
  unfolding tagged_from tagged
  tags_with zero t h l = absurd (omega arith)
  tags_with (suc n) t h l =
      cases (eqb p.tag t)
      (λ e. let q : p.tag ≡ t = eqb-true p.tag t e in
      rw (e, tags_without n (suc t) (λ a b. omega arith)) (length_bytes (p ∷ []) (only (has_tag t) ps ++ tagged_from n (suc t) ps)))
      (λ e. let q : t < p.tag = omega (arith, eqb-false p.tag t e) in
      rw e
      (omega (
        arith,
        tags_with n (suc t) q (omega arith),
        length_bytes (only (has_tag t) ps) (tagged_from n (suc t) (p ∷ ps)),
        length_bytes (only (has_tag t) ps) (tagged_from n (suc t) ps),
      )))

-- EACH INSTRUCTION IS IN A SECTION OR IN A FUNCTION

-- inside a function
abbrev is_open : State → Bool
is_open Outside = false
is_open Function = true
is_open Block = true

-- instructions that walk the table are those of the sections and the functions; inside one its parameters are still to come
record Weighs (is : List Placed) : Type 0 where
  outside : Walks Outside is → size (tagged_from 11 1 is) + size (functions is) ≡ size is
  inside : (s : State) → is_open s ≡ true → Walks s is → size (tagged_from 11 1 is) + (size (parameters_in is) + size (functions is)) ≡ size is

module _ (p : Placed) (ps : List Placed) where
  -- one before others
  one_size : size (p ∷ ps) ≡ size (p ∷ []) + size ps
  one_size = length_bytes (p ∷ []) ps

  -- an instruction that is in no section
  late : 12 ≤ p.tag → tagged_from 11 1 (p ∷ ps) ≡ tagged_from 11 1 ps
  late h = tags_without p ps 11 1 (λ a b. omega arith)

  -- one that is in no function
  not_functions : p.tag ≤ 13 → (p.tag ≡ 12 → ⊥) → functions (p ∷ ps) ≡ functions ps
  unfolding functions
  not_functions h n = simp (ne_eqb p.tag 12 n, lt-leb 14 p.tag (omega arith))

  -- one that is in it as it comes
  as_it_comes : 14 ≤ p.tag → functions (p ∷ ps) ≡ p ∷ functions ps
  unfolding functions
  as_it_comes h = simp (ne_eqb p.tag 12 (λ e. omega arith), le-leb 14 p.tag h)

  -- one that is no parameter and no end
  not_parameter : (p.tag ≡ 16 → ⊥) → (p.tag ≡ 13 → ⊥) → parameters_in (p ∷ ps) ≡ parameters_in ps
  unfolding parameters_in
  not_parameter n m = simp (ne_eqb p.tag 16 n, ne_eqb p.tag 13 m)

  -- a step of a walk outside functions
  outside_more : (t : State) → leads Outside p.tag t ≡ true → Walks t ps → Weighs ps
      → size (tagged_from 11 1 (p ∷ ps)) + size (functions (p ∷ ps)) ≡ size (p ∷ ps)
  unfolding functions
  outside_more Outside e w on =
      let r = in_range 1 p.tag 11 e in
      rw (not_functions (omega (arith, r.1)) (λ q. omega (arith, r.1)))
      (omega (arith, tags_with p ps 11 1 r.0 (omega (arith, r.1)), one_size, on.outside w))
  outside_more Function e w on =
      rw (late (omega (arith, eqb-true p.tag 12 e)), e)
      (omega (arith, length_bytes (p ∷ []) (parameters_in ps ++ functions ps), length_bytes (parameters_in ps) (functions ps), one_size, on.inside Function refl w))
  outside_more Block e w on = absurd (false≢true e)

  -- inside a function
  module _ (rest : size (tagged_from 11 1 ps) + (size (parameters_in ps) + size (functions ps)) ≡ size ps) where
    -- a section's instruction
    section_more : within 1 p.tag 11 ≡ true → size (tagged_from 11 1 (p ∷ ps)) + (size (parameters_in (p ∷ ps)) + size (functions (p ∷ ps))) ≡ size (p ∷ ps)
    section_more e =
        let r = in_range 1 p.tag 11 e in
        rw (not_functions (omega (arith, r.1)) (λ q. omega (arith, r.1)), not_parameter (λ q. omega (arith, r.1)) (λ q. omega (arith, r.1)))
        (omega (arith, tags_with p ps 11 1 r.0 (omega (arith, r.1)), one_size, rest))

    -- a parameter
    parameter_more : p.tag ≡ 13 → size (tagged_from 11 1 (p ∷ ps)) + (size (parameters_in (p ∷ ps)) + size (functions (p ∷ ps))) ≡ size (p ∷ ps)
    unfolding parameters_in
    parameter_more e =
        rw (late (omega arith), not_functions (omega arith) (λ q. omega arith), ne_eqb p.tag 16 (λ q. omega arith), eq-eqb p.tag 13 e)
        (omega (arith, length_bytes (p ∷ []) (parameters_in ps), one_size, rest))

    -- a label, or another instruction of a block
    inner_more : 14 ≤ p.tag → p.tag < 16 → size (tagged_from 11 1 (p ∷ ps)) + (size (parameters_in (p ∷ ps)) + size (functions (p ∷ ps))) ≡ size (p ∷ ps)
    inner_more h l =
        rw (late (omega arith), as_it_comes h, not_parameter (λ q. omega arith) (λ q. omega arith))
        (omega (arith, length_bytes (p ∷ []) (functions ps), one_size, rest))

  -- an end
  end_more : p.tag ≡ 16 → size (tagged_from 11 1 ps) + size (functions ps) ≡ size ps
      → size (tagged_from 11 1 (p ∷ ps)) + (size (parameters_in (p ∷ ps)) + size (functions (p ∷ ps))) ≡ size (p ∷ ps)
  unfolding parameters_in bytes_of_all
  end_more e rest =
      rw (late (omega arith), as_it_comes (omega arith), eq-eqb p.tag 16 e)
      (omega (arith, length_bytes (p ∷ []) (functions ps), one_size, rest))

  -- a step of a walk inside a function
  inside_more : (s t : State) → is_open s ≡ true → leads s p.tag t ≡ true → Walks t ps → Weighs ps
      → size (tagged_from 11 1 (p ∷ ps)) + (size (parameters_in (p ∷ ps)) + size (functions (p ∷ ps))) ≡ size (p ∷ ps)
  inside_more Outside t h e w on = absurd (false≢true h)
  inside_more Function Outside h e w on = end_more (eqb-true p.tag 16 e) (on.outside w)
  inside_more Function Function h e w on =
      let rest = on.inside Function refl w in
      cases (within 1 p.tag 11) (section_more rest) (λ n. parameter_more rest (eqb-true p.tag 13 (other (within 1 p.tag 11) (eqb p.tag 13) e n)))
  inside_more Function Block h e w on =
      let tag = eqb-true p.tag 14 e in
      inner_more (on.inside Block refl w) (omega (arith, tag)) (omega (arith, tag))
  inside_more Block Outside h e w on = absurd (false≢true e)
  inside_more Block Function h e w on =
      let tag = eqb-true p.tag 15 e in
      inner_more (on.inside Function refl w) (omega (arith, tag)) (omega (arith, tag))
  inside_more Block Block h e w on =
      let rest = on.inside Block refl w in
      cases (within 1 p.tag 11) (section_more rest)
      (λ n. let m = other (within 1 p.tag 11) (eqb p.tag 13 || eqb p.tag 15) e n in
      cases (eqb p.tag 13) (λ q. parameter_more rest (eqb-true p.tag 13 q))
      (λ q. let tag = eqb-true p.tag 15 (other (eqb p.tag 13) (eqb p.tag 15) m q) in
      inner_more rest (omega (arith, tag)) (omega (arith, tag))))

-- all of them
weighs : (is : List Placed) → Weighs is
weighs [] = unfold tagged_from tagged functions parameters_in bytes_of_all in (record { outside = λ w. refl; inside = λ s h w. refl })
weighs (p ∷ ps) = record {
  outside = λ w. let x = walk_on w in outside_more p ps x.0 x.1 x.2 (weighs ps);
  inside = λ s h w. let x = walk_on w in inside_more p ps s x.0 h x.1 x.2 (weighs ps);
}

-- THE SECTIONS

-- past MemoryModel a section has all with its tag
past_model : (is : List Placed) (n t : ℕ) → 4 < t → sections_from n t is ≡ tagged_from n t is
unfolding sections_from tagged_from
past_model is zero t h = refl
past_model is (suc n) t h = rw (section_all t is (ne_eqb t 4 (λ e. omega arith)), past_model is n (suc t) (omega arith))

-- up to it so many bytes are missing as in its section
to_model : (is : List Placed) (d : ℕ) → size (tagged 4 is) ≡ d + size (section_of 4 is) → (n t : ℕ) → t ≤ 4 → 4 < t + n
    → size (tagged_from n t is) ≡ d + size (sections_from n t is)
unfolding sections_from tagged_from
to_model is d e zero t h l = absurd (omega arith)
to_model is d e (suc n) t h l =
    cases (eqb t 4)
    (λ q. let at : t ≡ 4 = eqb-true t 4 q in
    rw (at, past_model is n 5 (omega arith))
    (omega (arith, e, length_bytes (tagged 4 is) (tagged_from n 5 is), length_bytes (section_of 4 is) (tagged_from n 5 is))))
    (λ q. let below : t < 4 = omega (arith, eqb-false t 4 q) in
    rw (section_all t is q)
    (omega (
      arith,
      to_model is d e n (suc t) below (omega arith),
      length_bytes (tagged t is) (tagged_from n (suc t) is),
      length_bytes (tagged t is) (sections_from n (suc t) is),
    )))

-- MODULE ORDER

module _ (ws log strings : List ℕ) (count : ℕ) (g : GoodStores ws log strings count) (first : ℕ) where
  -- its bytes, and those of the MemoryModels before the last, are all
  pub module_size : section_of 4 (instrs_of ws log strings count) ≡ tagged 4 (drop first (instrs_of ws log strings count))
      → size (module_order (instrs_of ws log strings count)) + size (tagged 4 (take first (instrs_of ws log strings count))) ≡ size (instrs_of ws log strings count)
  module_size e =
      let is = instrs_of ws log strings count in
      let dropped = size (tagged 4 (take first is)) in
      let models : size (tagged 4 is) ≡ dropped + size (section_of 4 is) =
      ap size (ap (tagged 4) (sym (take-append-drop first is)) ∙ tagged_append 4 (take first is) (drop first is))
      ∙ length_bytes (tagged 4 (take first is)) (tagged 4 (drop first is)) ∙ ap (λ (l : List Placed). dropped + size l) (sym e) in
      let all : size (module_order is) ≡ size (sections_from 11 1 is) + size (functions is) =
      ap size (module_is is ∙ ap (λ (l : List Placed). l ++ functions is) (sections_all is)) ∙ length_bytes (sections_from 11 1 is) (functions is) in
      omega (arith, all, to_model is dropped models 11 1 (omega arith) (omega arith), (weighs is).outside (stores_walk ws log strings count g))

-- no more have a tag from an index on
fewer : (t : ℕ) (is : List Placed) (k : ℕ) → length (tagged t (drop k is)) ≤ length (tagged t is)
fewer t is k =
    let parts = ap (tagged t) (sym (take-append-drop k is)) ∙ tagged_append t (take k is) (drop k is) in
    omega (arith, ap length parts, length-append (tagged t (take k is)) (tagged t (drop k is)))

-- an instruction before the first definition
before_definition : (p : Placed) (ps : List Placed) (k : ℕ) (t : State) → leads Outside p.tag t ≡ true → tagged 12 (p ∷ ps) ≡ tagged 12 (drop k ps)
    → (t ≡ Outside → tagged 12 ps ≡ tagged 12 (drop k ps) → functions ps ≡ functions (drop k ps)) → functions (p ∷ ps) ≡ functions (drop k ps)
unfolding tagged
before_definition p ps k Outside h e on =
    let r = in_range 1 p.tag 11 h in
    let n : p.tag ≡ 12 → ⊥ = λ q. omega (arith, r.1) in
    not_functions p ps (omega (arith, r.1)) n ∙ on refl (rw (ne_eqb p.tag 12 n) at e)
before_definition p ps k Function h e on = absurd (omega (arith, ap length (rw h at e), fewer 12 ps k))
before_definition p ps k Block h e on = absurd (false≢true h)

-- where no definition is passed, the functions are still to come
past_definitions : (is : List Placed) (k : ℕ) → Walks Outside is → tagged 12 is ≡ tagged 12 (drop k is) → functions is ≡ functions (drop k is)
past_definitions is zero w e = refl
past_definitions [] (suc k) w e = refl
past_definitions (p ∷ ps) (suc k) w e =
    let x = walk_on w in
    before_definition p ps k x.0 x.1 e (λ o q. past_definitions ps k (subst (λ (t : State). Walks t ps) o x.2) q)

-- the functions begin at the first definition
pub functions_from : (ws log strings : List ℕ) (count : ℕ) → GoodStores ws log strings count → (first : ℕ)
    → section_of 12 (instrs_of ws log strings count) ≡ tagged 12 (drop first (instrs_of ws log strings count))
    → functions (instrs_of ws log strings count) ≡ functions (drop first (instrs_of ws log strings count))
functions_from ws log strings count g first e =
    let is = instrs_of ws log strings count in
    past_definitions is first (stores_walk ws log strings count g) (sym (section_all 12 is refl) ∙ e)
