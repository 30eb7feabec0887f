-- A standing module is in module order already: for records that pass the check, both writing orders agree after the header.
use Prim.Native.Nat.{ℕ, zero, suc, ◌+◌, ◌*◌, ◌%◌, ◌<◌, ◌≤◌}
use mathlib.Core.Path.{◌≡◌, refl, ap, sym, ◌∙◌, subst}
use mathlib.Core.Bool.{Bool, true, false, not, ◌&&◌, ◌||◌, false≢true}
use mathlib.Core.List.{List, [], ◌∷◌, ◌++◌, reverse}
use Rattle.std.specs.Prelude.{None}
use native.Mathlib.Omega.{arith}
use borrow.Author.Tests.{eqb-true, eqb-false, leb-true, le-leb, lt-leb, ne_eqb}
use lib.Dec.{leb, eqb}
use lib.ListN.{length, take, drop}
use lib.Seq.{drop_at}
use Rattle.spec.specs.declared.State.{State}
use Rattle.spec.specs.declared.State.TheVariants.{Outside, Function, Block}
use Rattle.spec.specs.declared.Fields.{Fields}
use Rattle.std.specs.Prelude.{if◌then◌else◌}
use Rattle.spec.specs.Base.{within, joined, only}
use Rattle.spec.specs.Words.{bytes_of}
use Rattle.spec.specs.Layout.{layout_of}
use Rattle.spec.specs.Records.{Placed, record_size}
use Rattle.spec.specs.Check.{Given, Left, placed_of, tags_fault, records_in, good, check}
use Rattle.spec.specs.Write.{has_tag, section_of, sections, parameters_in, functions, module_order, never_falls, parameters_first, bodies, declarations_first, is_standing, bytes_of_all, parse_bytes, module_header, module_bytes}
use Rattle.spec.proofs.Choice.{left, right, both, other, fails, cases, either, in_range}
use Rattle.spec.proofs.Faultless.{no_faults, good_told, Scans, ends, says, scans, tag_told}
use Rattle.demands.proofs.Lists.{joined_same}
use Rattle.demands.proofs.Cells.{leads, tag_leads}

-- TAGS WALK THE TABLE

-- instructions whose tags lead on from a state
pub data Walks : State → List Placed → Type 0 where
  stops : {s : State} → Walks s []
  goes : {s t : State} {p : Placed} {ps : List Placed} → leads s p.tag t ≡ true → Walks t ps → Walks s (p ∷ ps)

-- records that were taken and whose tags are good walk the table
scans_walk : {log_count string_count : ℕ} {l : Left} {fs : List Fields} {is : List Placed} → Scans log_count string_count l fs is
    → (whole : Bool) (index : ℕ) (s : State) → tags_fault whole index s fs ≡ None → Walks s is
unfolding tags_fault placed_of
scans_walk (ends d e) whole index s f = stops
scans_walk (says {f = r} {x = x} said more) whole index s f =
    let next = tag_told index r.tag (layout_of (r.head % 65536) s) _ f in
    let tag : x.0.tag ≡ r.tag = ap (λ (p : Placed). p.tag) said.is in
    let on : leads s x.0.tag next.0 ≡ true = rw tag (tag_leads (r.head % 65536) s next.0 r.tag next.1) in
    goes on (scans_walk more whole (suc index) next.0 next.2)

-- records that pass the check walk the table
pub check_walks : (whole : Bool) (x : Given) (is : List Placed) → check record_size whole x ≡ good is → Walks Outside is
check_walks whole x is e =
    let told = good_told record_size whole x is e in
    let free = no_faults record_size whole x told.0 in
    subst (Walks Outside) told.1
    (scans_walk (scans x.log_count x.string_count (records_in record_size x) 1 _ free.scan) whole 1 Outside free.tags)

-- FUNCTIONS STAY AS THEY ARE

-- the first step of a walk
pub walk_on : {s : State} {p : Placed} {ps : List Placed} → Walks s (p ∷ ps) → (t : State) × (leads s p.tag t ≡ true) × Walks t ps
walk_on (goes {t = t} e w) = (t, e, w)

-- what module order makes of the rest of a module: outside functions; in a function before its first label; and after it
record Stays (is : List Placed) : Type 0 where
  outside : (label : Bool) → Walks Outside is → parameters_first label is ≡ true → functions is ≡ is
  heading : Walks Function is → parameters_first false is ≡ true → parameters_in is ++ functions is ≡ is
  function : Walks Function is → parameters_first true is ≡ true → (parameters_in is ≡ []) × (functions is ≡ is)
  block : Walks Block is → parameters_first true is ≡ true → (parameters_in is ≡ []) × (functions is ≡ is)

module _ (p : Placed) (ps : List Placed) (late : 12 ≤ p.tag) (on : Stays ps) where
  -- its tag is no section's
  not_early : within 1 p.tag 11 ≡ true → ⊥
  not_early e = omega (arith, (in_range 1 p.tag 11 e).1)

  -- what is left of a test, then
  no_section : (c : Bool) → (within 1 p.tag 11 || c) ≡ true → c ≡ true
  no_section c e = other (within 1 p.tag 11) c e (fails (within 1 p.tag 11) not_early)

  -- it stands first, with a tag that is known, where the rest stays
  first : (k : ℕ) {l m : List Placed} → l ≡ m → record { instr = p.instr; tag = k } ∷ l ≡ record { instr = p.instr; tag = k } ∷ m
  first k e = ap (λ (l : List Placed). record { instr = p.instr; tag = k } ∷ l) e

  -- outside functions a definition follows
  outside_more : (label : Bool) (t : State) → leads Outside p.tag t ≡ true → Walks t ps → parameters_first label (p ∷ ps) ≡ true
      → functions (p ∷ ps) ≡ p ∷ ps
  unfolding functions parameters_first
  outside_more label Outside e w f = absurd (not_early e)
  outside_more label Function e w f =
      let tag : p.tag ≡ 12 = eqb-true p.tag 12 e in
      rw tag (first 12 (on.heading w (rw tag at f)))
  outside_more label Block e w f = absurd (false≢true e)

  -- before the first label: an end, a parameter or a label
  heading_more : (t : State) → leads Function p.tag t ≡ true → Walks t ps → parameters_first false (p ∷ ps) ≡ true
      → parameters_in (p ∷ ps) ++ functions (p ∷ ps) ≡ p ∷ ps
  unfolding functions parameters_in parameters_first
  heading_more Outside e w f =
      let tag : p.tag ≡ 16 = eqb-true p.tag 16 e in
      rw tag (first 16 (on.outside false w (rw tag at f)))
  heading_more Function e w f =
      let tag : p.tag ≡ 13 = eqb-true p.tag 13 (no_section _ e) in
      rw tag (first 13 (on.heading w (rw tag at f)))
  heading_more Block e w f =
      let tag : p.tag ≡ 14 = eqb-true p.tag 14 e in
      let rest = on.block w (rw tag at f) in
      rw (tag, rest.0, rest.1)

  -- after a label no parameter follows
  no_parameter : parameters_first true (p ∷ ps) ≡ true → eqb p.tag 13 ≡ true → ⊥
  unfolding parameters_first
  no_parameter f e = false≢true (rw (eqb-true p.tag 13 e) at f)

  -- an instruction of a block, after a label
  inner_more : p.tag ≡ 15 → parameters_first true (p ∷ ps) ≡ true
      → (parameters_first true ps ≡ true → (parameters_in ps ≡ []) × (functions ps ≡ ps))
      → (parameters_in (p ∷ ps) ≡ []) × (functions (p ∷ ps) ≡ p ∷ ps)
  unfolding functions parameters_in parameters_first
  inner_more tag f rest = let x = rest (rw tag at f) in rw tag (x.0, first 15 x.1)

  -- after it, outside blocks: an end or a label
  function_more : (t : State) → leads Function p.tag t ≡ true → Walks t ps → parameters_first true (p ∷ ps) ≡ true
      → (parameters_in (p ∷ ps) ≡ []) × (functions (p ∷ ps) ≡ p ∷ ps)
  unfolding functions parameters_in parameters_first
  function_more Outside e w f =
      let tag : p.tag ≡ 16 = eqb-true p.tag 16 e in
      rw tag (refl, first 16 (on.outside true w (rw tag at f)))
  function_more Function e w f = absurd (no_parameter f (no_section _ e))
  function_more Block e w f =
      let tag : p.tag ≡ 14 = eqb-true p.tag 14 e in
      let rest = on.block w (rw tag at f) in
      rw tag (rest.0, first 14 rest.1)

  -- in a block: an instruction of it
  block_more : (t : State) → leads Block p.tag t ≡ true → Walks t ps → parameters_first true (p ∷ ps) ≡ true
      → (parameters_in (p ∷ ps) ≡ []) × (functions (p ∷ ps) ≡ p ∷ ps)
  block_more Outside e w f = absurd (false≢true e)
  block_more Function e w f = inner_more (eqb-true p.tag 15 e) f (on.function w)
  block_more Block e w f =
      let not-13 : eqb p.tag 13 ≡ false = fails (eqb p.tag 13) (no_parameter f) in
      inner_more (eqb-true p.tag 15 (other (eqb p.tag 13) (eqb p.tag 15) (no_section _ e) not-13)) f (on.block w)

  -- one instruction more
  stays_more : Stays (p ∷ ps)
  stays_more =
      record {
        outside = λ label w f. let x = walk_on w in outside_more label x.0 x.1 x.2 f;
        heading = λ w f. let x = walk_on w in heading_more x.0 x.1 x.2 f;
        function = λ w f. let x = walk_on w in function_more x.0 x.1 x.2 f;
        block = λ w f. let x = walk_on w in block_more x.0 x.1 x.2 f;
      }

-- SECTIONS STAY AS THEY ARE

-- the least tag of a section that may follow a tag
abbrev after : ℕ → ℕ
after tag = if leb tag 11 then tag else 12

-- the first tag does not fall
first_late : (t : ℕ) (p : Placed) (ps : List Placed) → never_falls t (p ∷ ps) ≡ true → (leb 12 p.tag || leb t p.tag) ≡ true
unfolding never_falls
first_late t p ps e = left (leb 12 p.tag || leb t p.tag) (never_falls (after p.tag) ps) e

-- nor do those after it
rest_late : (t : ℕ) (p : Placed) (ps : List Placed) → never_falls t (p ∷ ps) ≡ true → never_falls (after p.tag) ps ≡ true
unfolding never_falls
rest_late t p ps e = right (leb 12 p.tag || leb t p.tag) (never_falls (after p.tag) ps) e

-- one of two bounds
either_least : (a b k : ℕ) → (leb a k || leb b k) ≡ true → (t : ℕ) → t < a → t < b → t < k
either_least a b k e t ha hb =
    cases (leb a k) (λ c. omega (arith, leb-true a k c)) (λ c. omega (arith, leb-true b k (other (leb a k) (leb b k) e c)))

-- after the sections each tag is 12 or more
late_tag : (p : Placed) (ps : List Placed) → never_falls 12 (p ∷ ps) ≡ true → 12 ≤ p.tag
late_tag p ps e = either_least 12 12 p.tag (first_late 12 p ps e) 11 (omega arith) (omega arith)

-- and so is what follows
late_after : (tag : ℕ) → 12 ≤ tag → after tag ≡ 12
late_after tag h = rw (lt-leb tag 11 (omega arith))

-- instructions after the sections
stays : (is : List Placed) → never_falls 12 is ≡ true → Stays is
stays [] e =
    unfold functions parameters_in in
    (record { outside = λ l w f. refl; heading = λ w f. refl; function = λ w f. (refl, refl); block = λ w f. (refl, refl) })
stays (p ∷ ps) e =
    let late : 12 ≤ p.tag = late_tag p ps e in
    stays_more p ps late (stays ps (rw (late_after p.tag late) at (rest_late 12 p ps e)))

-- no instruction has a tag below those that may follow
only_none : (t k : ℕ) (is : List Placed) → t < k → t < 12 → never_falls k is ≡ true → only (has_tag t) is ≡ []
only_none t k [] h l e = refl
only_none t k (p ∷ ps) h l e =
    let more : t < p.tag = either_least 12 k p.tag (first_late k p ps e) t l h in
    rw (ne_eqb p.tag t (λ z. omega arith))
    (only_none t (after p.tag) ps (either (λ n. t < n) (leb p.tag 11) p.tag 12 (λ e. more) (λ e. l)) l
    (rest_late k p ps e))

-- numbers one after the other
abbrev up_from : ℕ → ℕ → List ℕ
up_from n zero = []
up_from n (suc m) = n ∷ up_from (suc n) m

-- the instructions with each of some tags
abbrev picked : List ℕ → List Placed → List Placed
picked ts is = joined (λ t. only (has_tag t) is) ts

-- no instruction has one of some tags below those that may follow
picked_none : (k : ℕ) (is : List Placed) → k ≤ 12 → never_falls k is ≡ true → (n m : ℕ) → n + m ≤ k → picked (up_from n m) is ≡ []
picked_none k is l e n zero h = refl
picked_none k is l e n (suc m) h =
    rw (only_none n k is (omega arith) (omega arith) e) (picked_none k is l e (suc n) m (omega arith))

module _ (p : Placed) (ps : List Placed) where
  -- tags past that of the first instruction
  picked_past : (n m : ℕ) → p.tag < n → picked (up_from n m) (p ∷ ps) ≡ picked (up_from n m) ps
  picked_past n zero h = refl
  picked_past n (suc m) h = rw (ne_eqb p.tag n (λ z. omega arith), picked_past (suc n) m (omega arith))

  -- tags among which is that of the first instruction
  picked_first : never_falls p.tag ps ≡ true → (n m : ℕ) → n ≤ p.tag → p.tag < n + m → n + m ≤ 12
      → picked (up_from n m) (p ∷ ps) ≡ p ∷ picked (up_from n m) ps
  picked_first e n zero l h u = absurd (omega arith)
  picked_first e n (suc m) l h u =
      cases (eqb p.tag n) (λ c. rw (c, picked_past (suc n) m (omega (arith, eqb-true p.tag n c))))
      (λ c. let above : n < p.tag = omega (arith, eqb-false p.tag n c) in
      rw (c, only_none n p.tag ps above (omega arith) e) (picked_first e (suc n) m above (omega arith) (omega arith)))

-- the last of at most one
last_one : {A : Type 0} (l : List A) → length l ≤ 1 → take 1 (reverse l) ≡ l
last_one [] h = refl
last_one (x ∷ []) h = refl
last_one (x ∷ y ∷ l) h = absurd (omega arith)

-- a section is the instructions with its tag
section_picked : (is : List Placed) → length (only (has_tag 4) is) ≤ 1 → (t : ℕ) → section_of t is ≡ only (has_tag t) is
unfolding section_of
section_picked is h t =
    either (λ (l : List Placed). l ≡ only (has_tag t) is) (eqb t 4) (take 1 (reverse (only (has_tag t) is))) (only (has_tag t) is)
    (λ e. last_one (only (has_tag t) is) (rw (eqb-true t 4 e) h)) (λ e. refl)

-- the sections are the instructions with each tag
sections_picked : (is : List Placed) → length (only (has_tag 4) is) ≤ 1 → sections is ≡ picked (up_from 1 11) is
unfolding sections
sections_picked is h = joined_same (λ t. section_of t is) (λ t. only (has_tag t) is) (section_picked is h) (up_from 1 11)

-- THE WHOLE

module _ (p : Placed) (ps : List Placed) where
  -- a section's instruction before others that stay
  section_stays : within 1 p.tag 11 ≡ true → never_falls (after p.tag) ps ≡ true → picked (up_from 1 11) ps ++ functions ps ≡ ps
      → picked (up_from 1 11) (p ∷ ps) ++ functions (p ∷ ps) ≡ p ∷ ps
  unfolding functions
  section_stays h e more =
      let least : 1 ≤ p.tag = (in_range 1 p.tag 11 h).0 in
      let most : p.tag ≤ 11 = (in_range 1 p.tag 11 h).1 in
      rw (
        picked_first p ps (rw (le-leb p.tag 11 most) at e) 1 11 least (omega arith) (omega arith),
        ne_eqb p.tag 12 (λ z. omega arith),
        lt-leb 14 p.tag (omega arith),
      )
      (ap (λ (l : List Placed). p ∷ l) more)

  -- after a definition no section follows
  function_late : eqb p.tag 12 ≡ true → never_falls (after p.tag) ps ≡ true → never_falls 12 (p ∷ ps) ≡ true
  unfolding never_falls
  function_late h e =
      let late : (leb 12 p.tag || leb 12 p.tag) ≡ true = rw (eqb-true p.tag 12 h) in
      both late e

  -- the first instruction of a function, and all after it
  functions_stay : eqb p.tag 12 ≡ true → never_falls (after p.tag) ps ≡ true → (label : Bool) → Walks Outside (p ∷ ps)
      → parameters_first label (p ∷ ps) ≡ true
      → picked (up_from 1 11) (p ∷ ps) ++ functions (p ∷ ps) ≡ p ∷ ps
  functions_stay h e label w f =
      let late : never_falls 12 (p ∷ ps) ≡ true = function_late h e in
      rw (picked_none 12 (p ∷ ps) (omega arith) late 1 11 (omega arith)) ((stays (p ∷ ps) late).outside label w f)

  -- an instruction before others that stay, by the state after it
  one_stays : (u : State) → leads Outside p.tag u ≡ true → Walks u ps → never_falls (after p.tag) ps ≡ true
      → (Walks Outside ps → picked (up_from 1 11) ps ++ functions ps ≡ ps)
      → (label : Bool) → Walks Outside (p ∷ ps) → parameters_first label (p ∷ ps) ≡ true
      → picked (up_from 1 11) (p ∷ ps) ++ functions (p ∷ ps) ≡ p ∷ ps
  one_stays Outside h v e more label w f = section_stays h e (more v)
  one_stays Function h v e more label w f = functions_stay h e label w f
  one_stays Block h v e more label w f = absurd (false≢true h)

  -- parameters come first in what is after it
  rest_first : (label : Bool) → parameters_first label (p ∷ ps) ≡ true
      → parameters_first (not (has_tag 12 p) && (label || has_tag 14 p)) ps ≡ true
  unfolding parameters_first
  rest_first label f = right (not (has_tag 13 p && label)) (parameters_first (not (has_tag 12 p) && (label || has_tag 14 p)) ps) f

-- instructions that walk the table, and whose tags never fall and parameters come first, stay where they are
order_stays : (is : List Placed) (t : ℕ) (label : Bool) → Walks Outside is → never_falls t is ≡ true
    → parameters_first label is ≡ true
    → picked (up_from 1 11) is ++ functions is ≡ is
order_stays [] t label w e f = unfold functions in refl
order_stays (p ∷ ps) t label w e f =
    let x = walk_on w in
    let later = rest_late t p ps e in
    one_stays p ps x.0 x.1 x.2 later (λ v. order_stays ps (after p.tag) _ v later (rest_first p ps label f)) label w f

-- a word is four bytes
pub words_length : (ws : List ℕ) → length (joined bytes_of ws) ≡ 4 * length ws
unfolding bytes_of
words_length [] = refl
words_length (w ∷ ws) = omega (arith, words_length ws)

-- the instructions of records that pass the check and stand are in module order
pub standing_order : (whole : Bool) (x : Given) (is : List Placed) → check record_size whole x ≡ good is → is_standing is ≡ true
    → module_order is ≡ is
unfolding is_standing module_order
standing_order whole x is c e =
    let ordered : Bool = never_falls 0 is && parameters_first false is in
    let single : Bool = eqb (length (only (has_tag 4) is)) 1 in
    let part = left (ordered && single) (declarations_first false (bodies false is)) e in
    let tags = left ordered single part in
    let once : length (only (has_tag 4) is) ≤ 1 = omega (arith, eqb-true (length (only (has_tag 4) is)) 1 (right ordered single part)) in
    rw (sections_picked is once)
    (order_stays is 0 false (check_walks whole x is c) (left (never_falls 0 is) (parameters_first false is) tags)
    (right (never_falls 0 is) (parameters_first false is) tags))

-- so what is written in module order is what is written in the order read, after the twenty bytes of the header
pub orders_agree : (whole : Bool) (x : Given) (is : List Placed) → check record_size whole x ≡ good is → is_standing is ≡ true → (h : List ℕ)
    → length h ≡ 5 → drop 20 (module_bytes h is) ≡ drop 20 (parse_bytes h is)
unfolding module_bytes parse_bytes module_header bytes_of
orders_agree whole x is c e h five =
    ap bytes_of_all (standing_order whole x is c e)
    ∙ sym (drop_at (joined bytes_of h) (bytes_of_all is) 20 (words_length h ∙ omega arith))
