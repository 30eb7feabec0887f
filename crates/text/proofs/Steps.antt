-- Laws of the UTF-8 test: its steps and its loop, by the definitions of what is due.
use Prim.Native.Nat.{ℕ, zero, suc, ◌+◌, ◌-◌, ◌<◌, ◌≤◌}
use mathlib.Core.Path.{◌≡◌, refl, ap, sym, ◌∙◌}
use mathlib.Core.Bool.{Bool, true, false}
use mathlib.Core.List.{List, [], ◌∷◌, map}
use Rattle.std.specs.Prelude.{Option, None, Some, option_map}
use native.Mathlib.Omega.{arith}
use native.Mathlib.Numerals.{add-one}
use borrow.Author.Tests.{ne_eqb}
use lib.Dec.{eqb}
use lib.ListN.{length, drop, get_or, drop_of_length-le}
use Rattle.std.specs.Prelude.{if◌then◌else◌}
use Rattle.spec.specs.Base.{within}
use Rattle.spec.specs.Text.{Utf8Row, lead, Due, due, utf8_table, lead_of, due_after, on_due, utf8_from, is_utf8}
use Rattle.text.specs.declared.Pending.{Pending}
use Rattle.text.specs.Steps.{row_of, utf8_rows, due_of, pending_of, first_of}
use Rattle.text.proofs.Laws.{rest}
use Rattle.text.proofs.AsciiText.{whole_byte}

-- THE FIRST BYTE: a walk of the rows

-- a number of a row, as the code has the rows
abbrev number : List (List ℕ) → ℕ → ℕ → ℕ
number rows i k = get_or (get_or rows i []) k 0

-- what the rows from one on say: what it asks for where the byte is in its range, else what those after it say
row_here : (b : ℕ) (rows : List Utf8Row) (i : ℕ) → i < length rows → (t : Bool)
    → within (number (map row_of rows) i 0) b (number (map row_of rows) i 1) ≡ t
    → lead_of b (drop i rows)
    ≡ (if t then Some (due (number (map row_of rows) i 2) (number (map row_of rows) i 3) (number (map row_of rows) i 4))
    else lead_of b (drop (suc i) rows))
unfolding lead_of
row_here b [] i h t e = absurd (omega arith)
row_here b (lead from to n lo hi ∷ rows) zero h t e = simp e
row_here b (r ∷ rows) (suc i) h t e = row_here b rows i (omega arith) t e

-- the rows before one do not have the byte
pub record Walked (b i : ℕ) : Type 0 where
  pub answer : lead_of b utf8_table ≡ lead_of b (drop i utf8_table)

-- before the first row
pub walk_starts : (b : ℕ) → Walked b 0
walk_starts b = record { answer = refl }

module _ {b i : ℕ} (w : Walked b i) (rows : List (List ℕ)) (e : rows ≡ utf8_rows) where
  -- the row at i decides
  here_row : i < 9 → (t : Bool) → within (number rows i 0) b (number rows i 1) ≡ t
      → lead_of b utf8_table
      ≡ (if t then Some (due (number rows i 2) (number rows i 3) (number rows i 4)) else lead_of b (drop (suc i) utf8_table))
  unfolding utf8_rows
  here_row h t f = rw e (w.answer ∙ row_here b utf8_table i h t (rw e at f))

  -- at a row that has the byte
  pub walk_finds : i < 9 → within (number rows i 0) b (number rows i 1) ≡ true
      → Some (record { left = number rows i 2; low = number rows i 3; high = number rows i 4 }) ≡ first_of b
  unfolding first_of
  walk_finds h f = sym (ap (option_map pending_of) (here_row h true f))

  -- past a row that does not
  pub walk_goes_on : i < 9 → within (number rows i 0) b (number rows i 1) ≡ false → Walked b (i + 1)
  walk_goes_on h f = record { answer = rw (add-one i) (here_row h false f) }

-- after the last row
pub walk_ends : {b i : ℕ} → Walked b i → 9 ≤ i → None ≡ first_of b
unfolding first_of lead_of
walk_ends {b} w h = sym (ap (option_map pending_of) (w.answer ∙ ap (lead_of b) (drop_of_length-le utf8_table h)))

-- WHAT A BYTE LEADS TO

-- where nothing is due, a byte is a first byte
due_first : (n lo hi b : ℕ) → n ≡ 0 → due_after (due n lo hi) b ≡ lead_of b utf8_table
unfolding due_after
due_first zero lo hi b z = refl
due_first (suc n) lo hi b z = absurd (omega arith)

-- where something is due, a byte is to be in range, and one less is due
due_next : (n lo hi b : ℕ) (t : Bool) → (n ≡ 0 → ⊥) → within lo b hi ≡ t → due_after (due n lo hi) b ≡ (if t then Some (due (n - 1) 128 191) else None)
unfolding due_after
due_next zero lo hi b t z e = absurd (z refl)
due_next (suc n) lo hi b t z e =
    let q : n ≡ suc n - 1 = omega arith in
    simp e (ap (λ (m : ℕ). if t then Some (due m 128 191) else None) q)

-- where the answer is that so much is due, so much is
step_more : (o : Option Due) (p : Pending) → option_map pending_of o ≡ Some p → o ≡ Some (due_of p)
step_more None p e = cc
step_more (Some (due n lo hi)) p e =
    let q : record { left = n; low = lo; high = hi } ≡ p = cc in
    ap (λ (v : Pending). Some (due_of v)) q

-- where the answer is that the byte may not stand, it may not
step_bad : (o : Option Due) → option_map pending_of o ≡ None → o ≡ None
step_bad None e = refl
step_bad (Some (due n lo hi)) e = cc

-- HOW THE LOOP GOES

-- at i, where so much is due, the answer is that of the rest
pub record Tested (s : List ℕ) (p : Pending) (i : ℕ) : Type 0 where
  pub answer : is_utf8 s ≡ utf8_from (due_of p) (drop i s)

-- before the first byte
pub test_starts : (s : List ℕ) → Tested s (record { left = 0; low = 128; high = 191 }) 0
unfolding is_utf8
test_starts s = record { answer = refl }

-- at the end nothing may be due
utf8_nil : (n lo hi : ℕ) → utf8_from (due n lo hi) [] ≡ eqb n 0
unfolding utf8_from
utf8_nil zero lo hi = refl
utf8_nil (suc n) lo hi = sym (ne_eqb (suc n) 0 (λ e. omega arith))

-- where nothing is due, the range does not matter
idle : (n lo hi : ℕ) → n ≡ 0 → (bs : List ℕ) → utf8_from (due 0 128 191) bs ≡ utf8_from (due n lo hi) bs
unfolding utf8_from due_after
idle zero lo hi z [] = refl
idle zero lo hi z (b ∷ bs) = refl
idle (suc n) lo hi z bs = absurd (omega arith)

module _ {s : List ℕ} {p : Pending} {i : ℕ} (r : Tested s p i) where
  -- at the end
  pub test_ends : length s ≤ i → eqb p.left 0 ≡ is_utf8 s
  test_ends h = sym (r.answer ∙ ap (utf8_from (due_of p)) (drop_of_length-le s h) ∙ utf8_nil p.left p.low p.high)

  module _ (h : i < length s) where
    -- what is due after the byte at i decides
    here : (o : Option Due) → due_after (due_of p) (get_or s i 0) ≡ o → is_utf8 s ≡ on_due o (λ d. utf8_from d (drop (i + 1) s))
    unfolding utf8_from
    here o e = r.answer ∙ ap (utf8_from (due_of p)) (rest s i h) ∙ ap (λ (o : Option Due). on_due o (λ d. utf8_from d (drop (i + 1) s))) e

    module _ (z : p.left ≡ 0) where
      -- so does the table, where nothing is due
      leads : due_after (due_of p) (get_or s i 0) ≡ lead_of (get_or s i 0) utf8_table
      leads = due_first p.left p.low p.high (get_or s i 0) z

      -- past a byte of the first row
      pub test_passes : (rows : List (List ℕ)) → rows ≡ utf8_rows → get_or s i 0 ≤ number rows 0 1 → Tested s p (i + 1)
      unfolding utf8_rows due_after
      test_passes rows e g =
          let q : get_or s i 0 ≤ 127 = rw e at g in
          record {
            answer =
                here (Some (due 0 128 191)) (leads ∙ whole_byte (get_or s i 0) (omega (arith, q)))
                ∙ idle p.left p.low p.high z (drop (i + 1) s);
          }

      -- past a first byte after which so much is due
      pub test_leads : (q : Pending) → Some q ≡ first_of (get_or s i 0) → Tested s q (i + 1)
      unfolding first_of
      test_leads q e = record { answer = here (Some (due_of q)) (leads ∙ step_more _ q (sym e)) }

      -- at a first byte that may not stand
      pub test_fails : None ≡ first_of (get_or s i 0) → false ≡ is_utf8 s
      unfolding first_of
      test_fails e = sym (here None (leads ∙ step_bad _ (sym e)))

    module _ (z : p.left ≡ 0 → ⊥) where
      -- where something is due, the range decides
      follows : (t : Bool) → within p.low (get_or s i 0) p.high ≡ t → due_after (due_of p) (get_or s i 0) ≡ (if t then Some (due (p.left - 1) 128 191) else None)
      follows t e = due_next p.left p.low p.high (get_or s i 0) t z e

      -- past a byte in the range
      pub test_goes_on : within p.low (get_or s i 0) p.high ≡ true → Tested s (record { left = p.left - 1; low = 128; high = 191 }) (i + 1)
      test_goes_on e = record { answer = here (Some (due (p.left - 1) 128 191)) (follows true e) }

      -- at a byte out of it
      pub test_stops : within p.low (get_or s i 0) p.high ≡ false → false ≡ is_utf8 s
      test_stops e = sym (here None (follows false e))
