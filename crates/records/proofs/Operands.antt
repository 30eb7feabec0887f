-- Laws of the operands in log and strings: what the tests of an operand lead to, how its loop goes, and how far operands reach.
use Prim.Native.Nat.{ℕ, zero, suc, ◌+◌, ◌*◌, ◌-◌, ◌%◌, ◌<◌, ◌≤◌}
use mathlib.Core.Path.{◌≡◌, refl, ap, sym, subst, ◌∙◌}
use mathlib.Core.Bool.{Bool, true, false, not, ◌&&◌, and_assoc, and-false, or-false, true≢false, false≢true}
use mathlib.Core.List.{List, [], ◌∷◌}
use Rattle.std.specs.Prelude.{Option, None, Some}
use Rattle.std.proofs.lemmas.Option.{none-some, same_Some}
use native.Mathlib.Nat.{zero-add, add-zero, add_assoc}
use native.Mathlib.Omega.{arith}
use borrow.Author.Tests.{not-true, not-false, le-leb, lt-leb, eqb-true, eq-eqb, ne_eqb}
use lib.Dec.{leb, eqb}
use lib.ListN.{length, take, drop, get_or, length-drop}
use lib.Seq.{get_or-drop, drop-drop, length-take-le}
use Rattle.spec.specs.declared.Fields.{Fields}
use Rattle.std.specs.Prelude.{if◌then◌else◌}
use Rattle.spec.specs.Base.{has, and_then}
use Rattle.spec.specs.Words.{four_at, long}
use Rattle.spec.specs.Text.{text_words}
use Rattle.spec.specs.Kinds.{is_logged, is_long, is_text}
use Rattle.spec.specs.Records.{Operand, narrow, wide, text, Placed, operand_size, operands_size, id_size}
use Rattle.spec.specs.Check.{Left, take_operand, take_operands, bits_in, field_in, placed_of, words_good, take_record}
use Rattle.operand.specs.Parts.{is_two}
use Rattle.records.specs.declared.Passed.{Passed}
use Rattle.text.specs.AsciiText.{is_ascii_text}
use Rattle.records.specs.Steps.{got, left_at, is_string, text_good, text_passed, passed_by, passed_one, passed_all, word_if, result_words, operands_after}
use Rattle.records.specs.Good.{Whole, operand_by, operand_at}
use Rattle.spec.proofs.Choice.{left, right, cases, either, IfSome, if_then}
use Rattle.spec.proofs.Faultless.{Said, record_said}
use Rattle.spec.proofs.Range.{below_at}
use Rattle.records.proofs.Fields.{word_few}
use Rattle.records.proofs.AsciiText.{part_string}

-- LENGTHS

-- so many elements are there
pub has_yes : {A : Type 0} (n : ℕ) (l : List A) → n ≤ length l → has n l ≡ true
has_yes zero l h = refl
has_yes (suc n) [] h = absurd (omega arith)
has_yes (suc n) (x ∷ l) h = has_yes n l (omega arith)

-- so many are not
pub has_no : {A : Type 0} (n : ℕ) (l : List A) → length l < n → has n l ≡ false
has_no zero l h = absurd (omega arith)
has_no (suc n) [] h = refl
has_no (suc n) (x ∷ l) h = has_no n l (omega arith)

-- what the test tells
pub has_true : {A : Type 0} (n : ℕ) (l : List A) → has n l ≡ true → n ≤ length l
has_true zero l e = omega arith
has_true (suc n) [] e = let z : ◌≡◌ {A = ℕ} 0 1 = cc in absurd (omega arith)
has_true (suc n) (x ∷ l) e = let h : n ≤ length l = has_true n l e in omega arith

-- that so many lie behind a place
rest_true : {A : Type 0} (n a : ℕ) (l : List A) → a ≤ length l → has n (drop a l) ≡ true → a + n ≤ length l
rest_true n a l h e = omega (arith, has_true n (drop a l) e, length-drop a l)

-- a test does not both hold and fail
pub clash : {X : Type 0} (t : Bool) → t ≡ true → t ≡ false → X
clash t e f = absurd (true≢false (sym e ∙ f))

-- OPERANDS

-- what is left of log and strings lies in them
pub record Inside (log strings : List ℕ) (l : Left) : Type 0 where
  pub left : l ≡ left_at log strings l.log_at l.strings_at
  pub in_log : l.log_at ≤ length log
  pub in_strings : l.strings_at ≤ length strings

-- that is so from two places on
pub left_inside : (log strings : List ℕ) (a b : ℕ) → a ≤ length log → b ≤ length strings → Inside log strings (left_at log strings a b)
unfolding left_at
left_inside log strings a b h g = record { left = refl; in_log = h; in_strings = g }

-- what is left after so many words lies in log and strings, and took bytes enough for them
pub record Reached (log strings : List ℕ) (l : Left) (w : ℕ) (m : Left) : Type 0 where
  pub inside : Inside log strings m
  pub few : 4 * w + (l.log_at + l.strings_at) ≤ m.log_at + m.strings_at

-- what an operand that was taken is, and what is left after it
pub record Taken (log strings : List ℕ) (l : Left) (x : Operand × Left) : Type 0 where
  pub is : x.0 ≡ operand_at log strings l.log_at
  pub whole : Whole log l.log_at
  pub string : is_text (get_or log l.log_at 0) ≡ true → four_at (l.log_at + 1) log + four_at (l.log_at + 5) log ≤ length strings
  pub next : x.1.log_at ≡ (if is_two (get_or log l.log_at 0) then l.log_at + 9 else l.log_at + 5)
  pub reached : Reached log strings l (operand_size x.0) x.1

module _ (log strings : List ℕ) (a b : ℕ) where
  -- the operand at two places, by its tests
  operand_by_lem : take_operand (left_at log strings a b)
      ≡ (let k = get_or log a 0 in
      let v = four_at (a + 1) log in
      let n = four_at (a + 5) log in
      if has 5 (drop a log) && is_logged k then
      (if not (is_two k) then Some (narrow k v, left_at log strings (a + 5) b)
      else if not (has 9 (drop a log)) then None
      else if is_long k then Some (wide k (long v n), left_at log strings (a + 9) b)
      else if text_good strings b v n then Some (text (take n (drop b strings)), left_at log strings (a + 9) (b + n))
      else None)
      else None)
  unfolding take_operand left_at text_good is_string
  operand_by_lem = simp (get_or-drop, add-zero, add_assoc, drop-drop, and_assoc)

  -- a good string starts where the strings go on, and lies in them
  text_told : (v n : ℕ) → b ≤ length strings → text_good strings b v n ≡ true → (v ≡ b) × (b + n ≤ length strings)
  unfolding text_good
  text_told v n h e =
      let t = left (eqb v b && has n (drop b strings)) _ e in
      (eqb-true v b (left _ _ t), rest_true n b strings h (right (eqb v b) _ t))

  module _ (in_log : a ≤ length log) (in_strings : b ≤ length strings) (known : is_logged (get_or log a 0) ≡ true) where
    -- an operand of one word
    one_taken : a + 5 ≤ length log → is_two (get_or log a 0) ≡ false
        → Taken log strings (left_at log strings a b) (narrow (get_or log a 0) (four_at (a + 1) log), left_at log strings (a + 5) b)
    unfolding operand_at operand_by operand_size left_at
    one_taken five one =
        record {
          is = rw one;
          whole = record { known = known; five = five; nine = λ f. clash _ f one };
          string = λ f. absurd (true≢false (rw (eqb-true (get_or log a 0) 40 f) at one));
          next = rw one;
          reached = record { inside = left_inside log strings (a + 5) b five in_strings; few = omega arith };
        }

    -- a literal of two words
    long_taken : a + 9 ≤ length log → is_long (get_or log a 0) ≡ true
        → Taken log strings (left_at log strings a b)
        (wide (get_or log a 0) (long (four_at (a + 1) log) (four_at (a + 5) log)), left_at log strings (a + 9) b)
    unfolding operand_at operand_by operand_size left_at
    long_taken nine long =
        record {
          is = rw long;
          whole = record { known = known; five = omega arith; nine = λ _. nine };
          string = λ f. absurd (false≢true (rw (eqb-true (get_or log a 0) 40 f) at long));
          next = rw long;
          reached = record { inside = left_inside log strings (a + 9) b nine in_strings; few = omega arith };
        }

    -- a string
    text_taken : a + 9 ≤ length log → is_two (get_or log a 0) ≡ true → is_long (get_or log a 0) ≡ false
        → text_good strings b (four_at (a + 1) log) (four_at (a + 5) log) ≡ true
        → Taken log strings (left_at log strings a b)
        (text (take (four_at (a + 5) log) (drop b strings)), left_at log strings (a + 9) (b + four_at (a + 5) log))
    unfolding operand_at operand_by operand_size left_at
    text_taken nine two short good =
        let n : ℕ = four_at (a + 5) log in
        let told = text_told (four_at (a + 1) log) n in_strings good in
        let follows : four_at (a + 1) log ≡ b = told.0 in
        let size : length (take n (drop b strings)) ≡ n =
        length-take-le n (drop b strings) (omega (arith, told.1, length-drop b strings)) in
        record {
          is = rw (two, short, follows);
          whole = record { known = known; five = omega arith; nine = λ _. nine };
          string = λ _. omega (arith, told.1);
          next = rw two;
          reached = record { inside = left_inside log strings (a + 9) (b + n) nine told.1; few = omega (arith, size) };
        }

  -- an operand at two places
  here_taken : a ≤ length log → b ≤ length strings
      → IfSome (Taken log strings (left_at log strings a b)) (take_operand (left_at log strings a b))
  here_taken in_log in_strings =
      let k = get_or log a 0 in
      let P : Option (Operand × Left) → Type 0 = IfSome (Taken log strings (left_at log strings a b)) in
      rw operand_by_lem
      (either P (has 5 (drop a log) && is_logged k) _ None
      (λ e. let known : is_logged k ≡ true = right (has 5 (drop a log)) _ e in
      either P (not (is_two k)) _ _
      (λ t. one_taken in_log in_strings known (rest_true 5 a log in_log (left _ _ e)) (not-true (is_two k) t))
      (λ t. either P (not (has 9 (drop a log))) None _ (λ _. tt)
      (λ f. let nine : a + 9 ≤ length log = rest_true 9 a log in_log (not-false _ f) in
      either P (is_long k) _ _ (long_taken in_log in_strings known nine)
      (λ g. either P (text_good strings b (four_at (a + 1) log) (four_at (a + 5) log)) _ None
      (text_taken in_log in_strings known nine (not-false (is_two k) t) g) (λ _. tt)))))
      (λ _. tt))

module _ (log strings : List ℕ) where
  -- an operand that was taken
  operand_taken : (l : Left) → Inside log strings l → IfSome (Taken log strings l) (take_operand l)
  operand_taken l i =
      subst (λ (m : Left). IfSome (Taken log strings m) (take_operand m)) (sym i.left)
      (here_taken log strings l.log_at l.strings_at i.in_log i.in_strings)

  -- so many operands: what holds of none, and of one before others, holds of those that were taken
  pub operands_taken : (Q : ℕ → Left → List Operand × Left → Type 0) → ((l : Left) → Inside log strings l → Q zero l ([], l))
      → ((n : ℕ) (l : Left) (x : Operand × Left) (xs : List Operand × Left) → Taken log strings l x → Q n x.1 xs → Q (suc n) l (x.0 ∷ xs.0, xs.1))
      → (n : ℕ) (l : Left) → Inside log strings l → IfSome (Q n l) (take_operands n l)
  unfolding take_operands
  operands_taken Q empty more zero l i = empty l i
  operands_taken Q empty more (suc n) l i =
      if_then (Q (suc n) l) (take_operand l) _
      (λ x e. let t = subst (IfSome (Taken log strings l)) e (operand_taken l i) in
      if_then (Q (suc n) l) (take_operands n x.1) _
      (λ xs f. more n l x xs t (subst (IfSome (Q n x.1)) f (operands_taken Q empty more n x.1 t.reached.inside))))

  -- they reach so far
  operands_reach : (n : ℕ) (l : Left) → Inside log strings l → IfSome (λ x. Reached log strings l (operands_size x.0) x.1) (take_operands n l)
  unfolding operands_size
  operands_reach =
      operands_taken (λ n l x. Reached log strings l (operands_size x.0) x.1) (λ l i. record { inside = i; few = omega arith })
      (λ n l x xs t r. record { inside = r.inside; few = omega (arith, t.reached.few, r.few) })

  -- so do those of a record
  pub said_reach : {f : Fields} {l : Left} {x : Placed × Left} → Inside log strings l → (s : Said f l x)
      → Reached log strings l (operands_size s.operands) x.1
  said_reach {f} {l} i s =
      subst (IfSome (λ (z : List Operand × Left). Reached log strings l (operands_size z.0) z.1)) s.taken
      (operands_reach f.count l i)

-- WHAT THE CODE FINDS

-- what was passed, up to two places
pub record Passes {A : Type 0} (size : A → ℕ) (log strings : List ℕ) (l : Left) (a' b' w : ℕ) (y : Option (A × Left)) : Type 0 where
  pub value : A
  pub is : y ≡ Some (value, left_at log strings a' b')
  pub words : size value ≡ w
  pub in_log : a' ≤ length log
  pub in_strings : b' ≤ length strings
  pub few : 4 * w + (l.log_at + l.strings_at) ≤ a' + b'

module _ {A : Type 0} (size : A → ℕ) where
  -- where something was passed
  passes : (log strings : List ℕ) (l : Left) (P : A × Left → Type 0)
      → ((x : A × Left) → P x → Reached log strings l (size x.0) x.1) → (y : Option (A × Left)) → IfSome P y
      → (x : Option Passed) (p : Passed) → x ≡ passed_by size y → x ≡ Some p → Passes size log strings l p.log p.strings p.words y
  unfolding passed_by
  passes log strings l P reach None h x p e f = let z : ◌≡◌ {A = ℕ} 0 1 = cc in absurd (omega arith)
  passes log strings l P reach (Some z) h x p e f =
      let r = reach z h in
      rw (same_Some _ _ (sym f ∙ e))
      (record {
        value = z.0;
        is = ap (λ (m : Left). Some (z.0, m)) r.inside.left;
        words = refl;
        in_log = r.inside.in_log;
        in_strings = r.inside.in_strings;
        few = r.few;
      })

  -- where nothing was
  pub passes_none : (y : Option (A × Left)) (x : Option Passed) → x ≡ passed_by size y → x ≡ None → y ≡ None
  unfolding passed_by
  passes_none None x e f = refl
  passes_none (Some z) x e f = let z : ◌≡◌ {A = ℕ} 0 1 = cc in absurd (omega arith)

  -- where nothing can be
  not_passed : (P : A × Left → Type 0) (y : Option (A × Left)) → IfSome P y → ((x : A × Left) → P x → ⊥) → None ≡ passed_by size y
  unfolding passed_by
  not_passed P None p n = refl
  not_passed P (Some x) p n = absurd (n x p)

-- a kind below those of the log
pub unknown_low : (k : ℕ) → k < 1 → is_logged k ≡ false
unknown_low k h = rw (lt-leb 1 k h)

-- a kind above them
pub unknown_high : (k : ℕ) → 45 < k → is_logged k ≡ false
unknown_high k h = rw (lt-leb k 45 h, and-false)

-- the kinds below 36 have one word
pub one_below : (k : ℕ) → k < 36 → is_two k ≡ false
one_below k h = not-true (is_two k) (below_at (λ x. not (is_two x)) 36 k refl h)

-- a kind of the log
pub known : (k : ℕ) → 1 ≤ k → k ≤ 45 → is_logged k ≡ true
known k h g = rw (le-leb 1 k h, le-leb k 45 g)

-- a string of the log, by its tests
module _ (strings : List ℕ) (a b start n : ℕ) where
  -- it starts elsewhere
  pub string_elsewhere : (start ≡ b → ⊥) → None ≡ text_passed strings a b start n
  unfolding text_passed text_good
  string_elsewhere h = rw (ne_eqb start b h)

  -- it goes past the store
  pub string_outside : start ≡ b → length strings - b < n → None ≡ text_passed strings a b start n
  unfolding text_passed text_good
  string_outside h g = rw (eq-eqb start b h, has_no n (drop b strings) (omega (arith, length-drop b strings)))

  -- its bytes decide
  pub string_bytes : start ≡ b → n ≤ length strings - b → (v x : Bool) → x ≡ is_string (take (b + n - b) (drop b strings)) → x ≡ v
      → (if v then Some (got (a + 9) (b + n) (text_words n)) else None) ≡ text_passed strings a b start n
  unfolding text_passed text_good
  string_bytes h g v x e f =
      let q : b + n - b ≡ n = omega arith in
      rw (eq-eqb start b h, has_yes n (drop b strings) (omega (arith, length-drop b strings)), sym (rw q at e), f)

  -- it is a part of ASCII text
  pub string_ascii : start ≡ b → n ≤ length strings - b → is_ascii_text strings ≡ true → Some (got (a + 9) (b + n) (text_words n)) ≡ text_passed strings a b start n
  unfolding text_passed text_good
  string_ascii h g p =
      rw (eq-eqb start b h, has_yes n (drop b strings) (omega (arith, length-drop b strings)), part_string strings n b p)

-- an operand of the log, by its tests
module _ (log strings : List ℕ) (a b : ℕ) (in_log : a ≤ length log) (in_strings : b ≤ length strings) where
  -- one that cannot be
  no_operand : ((x : Operand × Left) → Taken log strings (left_at log strings a b) x → ⊥)
      → None ≡ passed_one (take_operand (left_at log strings a b))
  unfolding passed_one
  no_operand = not_passed operand_size (Taken log strings (left_at log strings a b)) _ (here_taken log strings a b in_log in_strings)

  -- fewer than five bytes
  pub operand_few : length log - a < 5 → None ≡ passed_one (take_operand (left_at log strings a b))
  unfolding left_at
  operand_few h = no_operand (λ x t. omega (arith, t.whole.five))

  -- an unknown kind
  pub operand_unknown : is_logged (get_or log a 0) ≡ false → None ≡ passed_one (take_operand (left_at log strings a b))
  unfolding left_at
  operand_unknown h = no_operand (λ x t. clash _ t.whole.known h)

  -- one word
  pub operand_one : 5 ≤ length log - a → is_logged (get_or log a 0) ≡ true → is_two (get_or log a 0) ≡ false
      → Some (got (a + 5) b 1) ≡ passed_one (take_operand (left_at log strings a b))
  unfolding passed_one passed_by left_at operand_size
  operand_one h k t = rw (operand_by_lem log strings a b, has_yes 5 (drop a log) (omega (arith, length-drop a log)), k, t)

  -- fewer than nine bytes for two words
  pub operand_cut : is_two (get_or log a 0) ≡ true → length log - a < 9
      → None ≡ passed_one (take_operand (left_at log strings a b))
  unfolding left_at
  operand_cut t h = no_operand (λ x u. omega (arith, u.whole.nine t))

  -- a literal of two words
  pub operand_two : 9 ≤ length log - a → is_logged (get_or log a 0) ≡ true → is_two (get_or log a 0) ≡ true
      → (get_or log a 0 ≡ 40 → ⊥) → Some (got (a + 9) b 2) ≡ passed_one (take_operand (left_at log strings a b))
  unfolding passed_one passed_by left_at operand_size
  operand_two h k t n =
      rw (
        operand_by_lem log strings a b,
        has_yes 5 (drop a log) (omega (arith, length-drop a log)),
        has_yes 9 (drop a log) (omega (arith, length-drop a log)),
        k,
        rw (ne_eqb (get_or log a 0) 40 n, or-false) at t,
      )

  -- a string
  pub operand_text_lem : 9 ≤ length log - a → get_or log a 0 ≡ 40
      → (start n : ℕ) → start ≡ four_at (a + 1) log → n ≡ four_at (a + 5) log
      → (r : Option Passed) → r ≡ text_passed strings a b start n → r ≡ passed_one (take_operand (left_at log strings a b))
  unfolding passed_one passed_by left_at operand_size text_passed
  operand_text_lem h k start n d e r f =
      rw (
        operand_by_lem log strings a b,
        has_yes 5 (drop a log) (omega (arith, length-drop a log)),
        has_yes 9 (drop a log) (omega (arith, length-drop a log)),
        k,
        ← d,
        ← e,
        f,
      )
      (cases (text_good strings b start n)
      (λ g. let inside = (text_told log strings a b start n in_strings g).1 in
      rw (g, length-take-le n (drop b strings) (omega (arith, length-drop b strings))))
      (λ g. rw g))

-- HOW THE LOOP OVER OPERANDS GOES

-- at two places, with some operands passed: the answer is that of the rest
pub record Passing (log strings : List ℕ) (count a₀ b₀ a b words done : ℕ) : Type 0 where
  pub whole : passed_all 0 (take_operands count (left_at log strings a₀ b₀))
      ≡ passed_all words (take_operands (count - done) (left_at log strings a b))
  pub in_log : a ≤ length log
  pub in_strings : b ≤ length strings
  pub few : 4 * words ≤ a + b

-- one operand before others
passed_add : (w : ℕ) (o : Operand) (y : Option (List Operand × Left))
    → passed_all w (and_then y (λ xs. Some (o ∷ xs.0, xs.1))) ≡ passed_all (w + operand_size o) y
unfolding passed_all passed_by operands_size
passed_add w o None = refl
passed_add w o (Some x) = ap (λ (k : ℕ). Some (got x.1.log_at x.1.strings_at k)) (omega arith)

module _ {log strings : List ℕ} {count a₀ b₀ a b words done : ℕ} (r : Passing log strings count a₀ b₀ a b words done) where
  module _ (h : done < count) (x : Option Passed) (e : x ≡ passed_one (take_operand (left_at log strings a b))) where
    -- the operand at the places decides
    pass_here : (y : Option (Operand × Left)) → take_operand (left_at log strings a b) ≡ y
        → passed_all 0 (take_operands count (left_at log strings a₀ b₀))
        ≡ passed_all words (and_then y (λ z. and_then (take_operands (count - (done + 1)) z.1) (λ xs. Some (z.0 ∷ xs.0, xs.1))))
    unfolding take_operands
    pass_here y f =
        let q : count - done ≡ suc (count - (done + 1)) = omega arith in
        rw (← f) (r.whole ∙ ap (λ (n : ℕ). passed_all words (take_operands n (left_at log strings a b))) q)

    -- past a good operand
    pub pass_goes_on : (p : Passed) → x ≡ Some p → Passing log strings count a₀ b₀ p.log p.strings (words + p.words) (done + 1)
    unfolding passed_one left_at
    pass_goes_on p f =
        let t =
        passes operand_size log strings (left_at log strings a b) (Taken log strings (left_at log strings a b)) (λ z t. t.reached) _
        (here_taken log strings a b r.in_log r.in_strings) x p e f in
        record {
          whole =
              pass_here _ t.is ∙ passed_add words t.value (take_operands (count - (done + 1)) (left_at log strings p.log p.strings))
              ∙ ap (λ (k : ℕ). passed_all (words + k) (take_operands (count - (done + 1)) (left_at log strings p.log p.strings))) t.words;
          in_log = t.in_log;
          in_strings = t.in_strings;
          few = omega (arith, t.few, r.few);
        }

    -- the room for its words
    pub pass_room : (p : Passed) → x ≡ Some p → 4 * (words + p.words) ≤ length log + length strings
    pass_room p f = let t = pass_goes_on p f in omega (arith, t.few, t.in_log, t.in_strings)

    -- at one that is not good
    pub pass_fails : x ≡ None → None ≡ passed_all 0 (take_operands count (left_at log strings a₀ b₀))
    unfolding passed_all passed_by passed_one
    pass_fails f = sym (pass_here None (passes_none operand_size _ x e f))

  -- at the end
  pub pass_ends : count ≤ done → Some (got a b words) ≡ passed_all 0 (take_operands count (left_at log strings a₀ b₀))
  unfolding passed_all passed_by take_operands operands_size left_at
  pass_ends h =
      let q : count - done ≡ 0 = omega arith in
      sym (r.whole ∙ ap (λ (n : ℕ). passed_all words (take_operands n (left_at log strings a b))) q ∙ ap (λ (k : ℕ). Some (got a b k)) (add-zero words))

-- A RECORD'S OPERANDS

-- an id is one word where it is there
pub id_word : (t : Bool) (v : ℕ) → id_size (field_in t v) ≡ word_if t
unfolding word_if
id_word true v = refl
id_word false v = refl

-- the test of the word count
words_are : (f : Fields) (os : List Operand) → words_good (placed_of f os) ≡ eqb f.words (1 + result_words f + operands_size os)
unfolding words_good placed_of result_words
words_are f os =
    let t = id_word (eqb (bits_in f % 2) 1) f.rtype in
    let i = id_word (leb 2 (bits_in f)) f.rid in
    ap (eqb f.words) (omega (arith, t, i))

-- what it tells
pub words_told : (f : Fields) (os : List Operand) → words_good (placed_of f os) ≡ true → f.words ≡ 1 + result_words f + operands_size os
words_told f os e = eqb-true _ _ (sym (words_are f os) ∙ e)

-- at most two words for results
pub results_few : (f : Fields) → result_words f ≤ 2
unfolding result_words
results_few f = omega (arith, word_few (eqb (bits_in f % 2) 1), word_few (leb 2 (bits_in f)))

module _ (log strings : List ℕ) (a b : ℕ) (f : Fields) where
  -- a record that cannot be
  no_record : ((x : Placed × Left) → Said f (left_at log strings a b) x → ⊥) → None ≡ operands_after f (left_at log strings a b)
  unfolding operands_after
  no_record = not_passed _ (Said f (left_at log strings a b)) _ (record_said f (left_at log strings a b))

  -- its operands start elsewhere
  pub after_elsewhere : (f.start ≡ a → ⊥) → None ≡ operands_after f (left_at log strings a b)
  unfolding left_at
  after_elsewhere h = no_record (λ x s. h s.start)

  module _ (x : Option Passed) (e : x ≡ passed_all 0 (take_operands f.count (left_at log strings a b))) where
    -- one of them is bad
    pub after_bad : x ≡ None → None ≡ operands_after f (left_at log strings a b)
    unfolding passed_all
    after_bad g = no_record (λ y s. none-some _ (sym (passes_none _ _ x e g) ∙ s.taken))

    module _ (in_log : a ≤ length log) (in_strings : b ≤ length strings) (p : Passed) (g : x ≡ Some p) where
      -- they were passed
      all_pass : Passes (λ os. 0 + operands_size os) log strings (left_at log strings a b) p.log p.strings p.words (take_operands f.count (left_at log strings a b))
      unfolding passed_all
      all_pass =
          passes _ log strings (left_at log strings a b) (λ y. Reached log strings (left_at log strings a b) (operands_size y.0) y.1)
          (λ y r. rw zero-add r) _ (operands_reach log strings f.count _ (left_inside log strings a b in_log in_strings)) x p e g

      -- their words are few enough
      pub after_few : 4 * p.words ≤ length log + length strings
      after_few = omega (arith, all_pass.few, all_pass.in_log, all_pass.in_strings)

      -- the word count is right
      pub after_right : f.start ≡ a → (r : ℕ) → r ≡ result_words f → f.words ≡ 1 + r + p.words
          → Some p ≡ operands_after f (left_at log strings a b)
      unfolding operands_after take_record passed_by left_at placed_of
      after_right h r q k =
          let os = all_pass.value in
          let size : operands_size os ≡ p.words = omega (arith, all_pass.words) in
          rw (
            all_pass.is,
            eq-eqb f.start a h,
            words_are f os,
            eq-eqb f.words (1 + result_words f + operands_size os) (omega arith),
            size,
          )

      -- it is wrong
      pub after_wrong : (r : ℕ) → r ≡ result_words f → (f.words ≡ 1 + r + p.words → ⊥) → None ≡ operands_after f (left_at log strings a b)
      after_wrong r q k =
          no_record
          (λ y s. let same = same_Some _ _ (sym s.taken ∙ all_pass.is) in
          let size = ap (λ (z : List Operand × Left). operands_size z.0) same in
          k (omega (arith, words_told f s.operands s.words, size, all_pass.words)))

  -- they were passed with their record
  pub record_passes : a ≤ length log → b ≤ length strings → (x : Option Passed) (p : Passed) → x ≡ operands_after f (left_at log strings a b)
      → x ≡ Some p
      → Passes (λ y. operands_size y.instr.operands) log strings (left_at log strings a b) p.log p.strings p.words (take_record f (left_at log strings a b))
  unfolding operands_after placed_of
  record_passes h g =
      passes _ log strings (left_at log strings a b) (Said f (left_at log strings a b))
      (λ y s. rw s.is (said_reach log strings (left_inside log strings a b h g) s)) _ (record_said f (left_at log strings a b))
