-- What the check keeps of a row's operands, against the definitions: each test on it, and each step; the rules that most operands pass by.
use mathlib.Core.Path.{◌≡◌, refl, sym, ap, ◌∙◌}
use mathlib.Core.Bool.{Bool, true, false, ◌&&◌, ◌||◌, and-false, and-true, and_assoc, or-false, false≢true, true≢false}
use mathlib.Core.List.{List, [], ◌∷◌, ◌++◌}
use Rattle.std.specs.Prelude.{None, Some}
use mathlib.Core.Logic.{◌⊎◌, inl, inr, ⊎_elim}
use Prim.Native.Nat.{ℕ, zero, suc, ◌+◌, ◌*◌, ◌/◌, ◌%◌, ◌^◌, ◌<◌}
use native.Mathlib.Numerals.{add-one}
use native.Mathlib.Omega.{arith}
use borrow.Author.Tests.{eq-eqb, ne_eqb, eqb-true, eqb-false}
use lib.Dec.{leb, eqb}
use lib.ListN.{length, get_or}
use lib.Pow.{shr_lt}
use lib.Count.{ones, ones_step}
use Rattle.std.specs.Prelude.{if◌then◌else◌}
use Rattle.spec.specs.Base.{implies}
use Rattle.spec.specs.Words.{bits_from, bits_of}
use Rattle.spec.specs.Kinds.{is_result, may_be_operand}
use Rattle.spec.specs.Grammar.{Slot, slot, is_slot, is_first, after_type, typed, selects, result_rule, literal_rule, fixed_row, fixed_next, operand_rule}
use Rattle.spec.proofs.Choice.{asked, cases, fails, in_range}
use Rattle.spec.proofs.Range.{below_at}
use Rattle.rules.specs.declared.rules.Passed.{Passed}
use Rattle.rules.specs.Rules.{count_of, more, lead_with, lead_of, passed_of, fixed_kind, is_free, is_fixed}

-- OPERANDS SO FAR

-- none so far: the next stands first
count_first : (ss : List Slot) → eqb (count_of ss) 0 ≡ is_first ss
unfolding count_of
count_first [] = refl
count_first (a ∷ []) = refl
count_first (a ∷ b ∷ []) = refl
count_first (a ∷ b ∷ c ∷ []) = refl
count_first (a ∷ b ∷ c ∷ d ∷ ss) = refl

-- one so far, and that 46 and One: the operands so far are 46 alone
count_alone : (ss : List Slot) → eqb (count_of ss) 1 && typed ss ≡ after_type ss
unfolding count_of
count_alone [] = refl
count_alone (a ∷ []) = refl
count_alone (a ∷ b ∷ []) = refl
count_alone (a ∷ b ∷ c ∷ []) = refl
count_alone (a ∷ b ∷ c ∷ d ∷ ss) = refl

-- below four the count is the length
pub count_length : (n : ℕ) → n < 4 → (ss : List Slot) → eqb (count_of ss) n ≡ eqb (length ss) n
unfolding count_of
count_length n h [] = refl
count_length n h (a ∷ []) = refl
count_length n h (a ∷ b ∷ []) = refl
count_length n h (a ∷ b ∷ c ∷ []) = refl
count_length n h (a ∷ b ∷ c ∷ d ∷ ss) =
    ne_eqb 4 n (λ e. omega arith) ∙ sym (ne_eqb (length (a ∷ b ∷ c ∷ d ∷ ss)) n (λ e. omega arith))

-- what stands next in row 21
pub fixed_three : (ss : List Slot) → fixed_kind (count_of ss) 3 ≡ get_or (47 ∷ 34 ∷ 34 ∷ []) (length ss) 0
unfolding count_of
fixed_three [] = refl
fixed_three (a ∷ []) = refl
fixed_three (a ∷ b ∷ []) = refl
fixed_three (a ∷ b ∷ c ∷ []) = refl
fixed_three (a ∷ b ∷ c ∷ d ∷ ss) = refl

-- what stands next in row 22
pub fixed_two : (ss : List Slot) → fixed_kind (count_of ss) 2 ≡ get_or (47 ∷ 34 ∷ []) (length ss) 0
unfolding count_of
fixed_two [] = refl
fixed_two (a ∷ []) = refl
fixed_two (a ∷ b ∷ []) = refl
fixed_two (a ∷ b ∷ c ∷ []) = refl
fixed_two (a ∷ b ∷ c ∷ d ∷ ss) = refl

-- the first operand that is no result is 33 and One: by whether it is
lead_first : (t : Bool) → eqb (if t then 1 else 2) 1 ≡ t
lead_first true = refl
lead_first false = refl

-- the first operand that is no result is 33 and One
pub lead_selects : (ss : List Slot) → eqb (lead_of ss) 1 ≡ selects ss
unfolding lead_of lead_with
lead_selects [] = refl
lead_selects (slot k q ∷ ss) = by (is_result k) (lead_selects ss)
  where
    by : (t : Bool) → eqb (lead_of ss) 1 ≡ selects ss → eqb (if t then lead_of ss else lead_with 0 k q) 1 ≡ if t then selects ss else is_slot 33 0 (slot k q)
    by true e = e
    by false e = lead_first (is_slot 33 0 (slot k q))

-- ONE OPERAND MORE

-- another kind than the two of results is not 46
not_type : (k : ℕ) → is_result k ≡ false → eqb k 46 ≡ false
not_type k e = fails (eqb k 46) (λ t. false≢true (sym e ∙ ap is_result (eqb-true k 46 t)))

-- the count with one more
count_more : (ss : List Slot) (s : Slot) → more (count_of ss) ≡ count_of (ss ++ (s ∷ []))
unfolding count_of more
count_more [] s = refl
count_more (a ∷ []) s = refl
count_more (a ∷ b ∷ []) s = refl
count_more (a ∷ b ∷ c ∷ []) s = refl
count_more (a ∷ b ∷ c ∷ d ∷ ss) s = refl

module _ (k q : ℕ) where
  -- whether the first is 46 and One, with one more
  typed_more : (ss : List Slot) → typed ss || (eqb (count_of ss) 0 && (eqb k 46 && eqb q 0)) ≡ typed (ss ++ (slot k q ∷ []))
  unfolding count_of
  typed_more [] = refl
  typed_more (a ∷ []) = or-false (is_slot 46 0 a)
  typed_more (a ∷ b ∷ []) = or-false (is_slot 46 0 a)
  typed_more (a ∷ b ∷ c ∷ []) = or-false (is_slot 46 0 a)
  typed_more (a ∷ b ∷ c ∷ d ∷ ss) = or-false (is_slot 46 0 a)

  -- another than 46 after them: whether the first is 46 and One
  typed_other : eqb k 46 ≡ false → (ss : List Slot) → typed ss ≡ typed (ss ++ (slot k q ∷ []))
  typed_other e [] = rw e
  typed_other e (a ∷ ss) = refl

  -- a result after them: the first that is no result
  lead_result : is_result k ≡ true → (ss : List Slot) → lead_of ss ≡ lead_of (ss ++ (slot k q ∷ []))
  unfolding lead_of
  lead_result e [] = rw e
  lead_result e (slot j p ∷ ss) = ap (λ (n : ℕ). if is_result j then n else lead_with 0 j p) (lead_result e ss)

  -- the first that is no result stays
  lead_stays : (t : Bool) → lead_with (if t then 1 else 2) k q ≡ if t then 1 else 2
  unfolding lead_with
  lead_stays true = refl
  lead_stays false = refl

  -- one that is no result after them: the first that is no result
  lead_other : is_result k ≡ false → (ss : List Slot) → lead_with (lead_of ss) k q ≡ lead_of (ss ++ (slot k q ∷ []))
  unfolding lead_of lead_with
  lead_other e [] = rw e
  lead_other e (slot j p ∷ ss) = by (is_result j) (lead_other e ss)
    where
      by : (t : Bool) → lead_with (lead_of ss) k q ≡ lead_of (ss ++ (slot k q ∷ []))
          → lead_with (if t then lead_of ss else lead_with 0 j p) k q ≡ if t then lead_of (ss ++ (slot k q ∷ [])) else lead_with 0 j p
      by true h = h
      by false h = lead_stays (is_slot 33 0 (slot j p))

  -- what is kept with a result more
  pub with_result_lem : is_result k ≡ true → (ss : List Slot)
      → ◌≡◌ {A = Passed} (record { count = more (count_of ss); typed = typed ss || (eqb (count_of ss) 0 && (eqb k 46 && eqb q 0)); lead = lead_of ss })
      (passed_of (ss ++ (slot k q ∷ [])))
  unfolding passed_of
  with_result_lem e ss = rw (count_more ss (slot k q), typed_more ss, lead_result e ss)

  -- and with one that is no result
  pub with_other : is_result k ≡ false → (ss : List Slot)
      → ◌≡◌ {A = Passed} (record { count = more (count_of ss); typed = typed ss; lead = lead_with (lead_of ss) k q }) (passed_of (ss ++ (slot k q ∷ [])))
  unfolding passed_of
  with_other e ss = rw (count_more ss (slot k q), typed_other (not_type k e) ss, lead_other e ss)

-- MASKS

-- the lowest digit counts where it is set
digit_count : (r b : ℕ) (m : List ℕ) → r < 2 → length (if eqb r 1 then b ∷ m else m) ≡ r + length m
digit_count zero b m h = omega arith
digit_count (suc zero) b m h = omega arith
digit_count (suc (suc r)) b m h = absurd (omega arith)

-- the bits that are set are as many as the set digits
bit_count : (n b v : ℕ) → v < 2 ^ n → length (bits_from n b v) ≡ ones v
unfolding bits_from ones
bit_count zero b zero h = refl
bit_count zero b (suc v) h = absurd (omega arith)
bit_count (suc n) b v h =
    digit_count (v % 2) b (bits_from n (2 * b) (v / 2)) (omega arith)
    ∙ ap (λ (x : ℕ). v % 2 + x) (bit_count n (2 * b) (v / 2) (shr_lt n 1 (rw add-one h)))
    ∙ sym (ones_step v)

-- a value of 32 bits has as many bits set as the machine counts
pub bits_counted : (v : ℕ) → v < 4294967296 → ones v ≡ length (bits_of v)
unfolding bits_of
bits_counted v h = sym (bit_count 32 1 v h)

-- RESULTS

-- another kind than the two of results is not 47
not_id : (k : ℕ) → is_result k ≡ false → eqb k 47 ≡ false
not_id k e = fails (eqb k 47) (λ t. false≢true (sym e ∙ ap is_result (eqb-true k 47 t)))

-- the kinds of results are two
two_results : (k : ℕ) → is_result k ≡ true → (k ≡ 46) ⊎ (k ≡ 47)
two_results k e =
    cases (eqb k 46) (λ t. inl (eqb-true k 46 t)) (λ f. let h = in_range 46 k 47 e in inr (omega (arith, eqb-false k 46 f)))

-- what holds of 46 and of 47 holds of a result
of_result : (P : ℕ → Type 0) (k : ℕ) → is_result k ≡ true → P 46 → P 47 → P k
of_result P k e a b = ⊎_elim (λ (p : k ≡ 46). rw p a) (λ (p : k ≡ 47). rw p b) (two_results k e)

module _ (before : List Slot) (k q : ℕ) where
  -- the rule on results says nothing of others
  pub result_none : is_result k ≡ false → true ≡ result_rule before k q
  result_none e = rw (not_type k e, not_id k e)

  -- a result is One
  pub result_many : is_result k ≡ true → eqb q 0 ≡ false → false ≡ result_rule before k q
  result_many e f = of_result (λ (k : ℕ). false ≡ result_rule before k q) k e (simp (f, and-false)) (simp (f, and-false))

  -- the first operand
  pub result_first : is_result k ≡ true → eqb q 0 ≡ true → is_first before ≡ true → true ≡ result_rule before k q
  result_first e f h = of_result (λ (k : ℕ). true ≡ result_rule before k q) k e (simp (f, h)) (simp (f, h))

  -- a later one: 47 after 46
  pub result_later : is_result k ≡ true → eqb q 0 ≡ true → is_first before ≡ false → eqb k 47 && after_type before ≡ result_rule before k q
  result_later e f h = of_result (λ (k : ℕ). eqb k 47 && after_type before ≡ result_rule before k q) k e (simp (f, h)) (simp (f, h, and-true))

module _ (before : List Slot) (p : Passed) (e : p ≡ passed_of before) where
  -- how many there are is kept
  count_kept : p.count ≡ count_of before
  unfolding passed_of
  count_kept = ap (λ (p : Passed). p.count) e

  -- none so far
  pub first_kept : p.count ≡ 0 → is_first before ≡ true
  first_kept z = sym (count_first before) ∙ eq-eqb (count_of before) 0 (sym count_kept ∙ z)

  -- one at least
  pub later_kept : (p.count ≡ 0 → ⊥) → is_first before ≡ false
  later_kept n = sym (count_first before) ∙ ne_eqb (count_of before) 0 (λ (z : count_of before ≡ 0). n (count_kept ∙ z))

  -- 46 alone
  pub alone_kept : (a : Bool) → a && eqb p.count 1 && p.typed ≡ a && after_type before
  unfolding passed_of
  alone_kept a = rw e (and_assoc a (eqb (count_of before) 1) (typed before) ∙ ap (λ (t : Bool). a && t) (count_alone before))

-- WHAT MOST RULES PASS BY

-- a row that is not fixed has no next operand
unfixed : (op : ℕ) (before : List Slot) (k q : ℕ) → is_fixed op ≡ false → fixed_next (fixed_row op) before k q ≡ true
unfolding is_fixed
unfixed op before k q e = by (eqb op 21) (eqb op 22) e
  where
    by : (a b : Bool) → a || b ≡ false
        → fixed_next (if a then Some (47 ∷ 34 ∷ 34 ∷ []) else if b then Some (47 ∷ 34 ∷ []) else None) before k q ≡ true
    by true b e = absurd (true≢false e)
    by false true e = absurd (true≢false e)
    by false false e = refl

-- a kind that is free is not one that is none
free_not : (k n : ℕ) → is_free k ≡ true → is_free n ≡ false → eqb k n ≡ false
free_not k n e f = fails (eqb k n) (λ t. true≢false (sym e ∙ ap is_free (eqb-true k n t) ∙ f))

-- it may be an operand's
free_may : (k : ℕ) → k < 256 → is_free k ≡ true → may_be_operand k ≡ true
unfolding is_free
free_may k h e = asked (is_free k) (may_be_operand k) (below_at (λ k. implies (is_free k) (may_be_operand k)) 256 k refl h) e

-- a test among others that hold, or hold wherever it does
alone : (m a r l f : Bool) → m ≡ true → (r ≡ true → a ≡ true) → l ≡ true → f ≡ true → r ≡ m && a && r && l && f
alone m a true l f p h q s = rw (p, h refl, q, s)
alone m a false l f p h q s = rw (and-false (m && a))

module _ (op : ℕ) (before : List Slot) (k q : ℕ) (u : is_fixed op ≡ false) where
  -- a result in a row that is not fixed
  pub result_alone : is_result k ≡ true → result_rule before k q ≡ operand_rule op before k q
  result_alone e =
      alone (may_be_operand k) (leb q 2) (result_rule before k q) (literal_rule op before k q) (fixed_next (fixed_row op) before k q)
      (of_result (λ (k : ℕ). may_be_operand k ≡ true) k e refl refl)
      (λ r. cases (eqb q 0) (λ t. rw (eqb-true q 0 t)) (λ f. absurd (false≢true (result_many before k q e f ∙ r))))
      (of_result (λ (k : ℕ). literal_rule op before k q ≡ true) k e refl refl) (unfixed op before k q u)

  -- a kind that is free, in such a row
  pub free_alone : k < 256 → is_free k ≡ true → leb q 2 ≡ operand_rule op before k q
  unfolding is_free
  free_alone h e =
      simp
      (free_may k h e, free_not k 39 e refl, free_not k 46 e refl, free_not k 47 e refl, free_not k 48 e refl, free_not k 49 e refl, unfixed op before k q u, and-true)
