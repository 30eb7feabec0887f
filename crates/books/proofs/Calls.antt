-- What the calls that turn a book come to: refused by the first check that finds a fault, or turned.
use Prim.Native.Nat.{ℕ, zero, suc, ◌+◌, ◌*◌, ◌/◌, ◌<◌, ◌≤◌}
use mathlib.Core.Path.{◌≡◌, refl, sym, ◌∙◌}
use mathlib.Core.Bool.{Bool, true, false}
use mathlib.Core.List.{List, [], ◌∷◌}
use Rattle.std.specs.Prelude.{Option, None, Some}
use native.Mathlib.Nat.{le-div_iff_mul-le}
use native.Mathlib.Omega.{arith}
use borrow.Author.Tests.{eqb-true, ltb-false}
use lib.Dec.{ltb, eqb}
use lib.ListN.{length, drop, length-drop}
use Rattle.spec.specs.declared.Turned.{Turned}
use Rattle.std.specs.Prelude.{if◌then◌else◌}
use Rattle.spec.specs.Base.{joined, has}
use Rattle.spec.specs.Records.{field_size, field_words, fields_at, record_size, called_for, numbered}
use Rattle.spec.specs.Load.{laid_over}
use Rattle.spec.specs.Check.{Given, records_of, missing, records_in, fault_of}
use Rattle.spec.specs.Books.{unfit, misnumbered, new_book, old_book}
use Rattle.spec.proofs.Faultless.{none_if, no_faults}
use Rattle.demands.proofs.Indices.{WordsFit, good_few}
use Rattle.records.proofs.Operands.{has_true}
use Rattle.books.specs.Turns.{Turns}

-- A BOOK WITHOUT A FAULT

-- so many records, of which one or more is asked for: the first is there, and as many more
pub records_told : (size n : ℕ) (ws : List ℕ) → length (records_of size (suc n) ws) ≡ suc n
    → (size ≤ length ws) × (records_of size (suc n) ws ≡ fields_at ws ∷ records_of size n (drop size ws))
    × (length (records_of size n (drop size ws)) ≡ n)
unfolding records_of
records_told size n ws e = by (has size ws) refl e
  where
    by : (t : Bool) → has size ws ≡ t → length (if t then fields_at ws ∷ records_of size n (drop size ws) else []) ≡ suc n
        → (size ≤ length ws) × ((if t then fields_at ws ∷ records_of size n (drop size ws) else []) ≡ fields_at ws ∷ records_of size n (drop size ws))
        × (length (records_of size n (drop size ws)) ≡ n)
    by true q e = (has_true size ws q, refl, omega arith)
    by false q e = absurd (omega arith)

-- all lie in the store
records_held : (size n : ℕ) (ws : List ℕ) → length (records_of size n ws) ≡ n → size * n ≤ length ws
records_held size zero ws e = omega arith
records_held size (suc n) ws e =
    let t = records_told size n ws e in
    omega (arith, t.0, records_held size n (drop size ws) t.2, length-drop size ws)

-- so they are where no fault is found
pub good_count : (size : ℕ) (x : Given) → fault_of size false x ≡ None → length (records_in size x) ≡ x.count
unfolding missing
good_count size x e =
    eqb-true _ _ (none_if (length (records_in size x) + 1) (eqb (length (records_in size x)) x.count) None (no_faults size false x e).present).0

-- the answer of a check that finds none
pub checked_good : {r : (Option ℕ)} {o : Option ℕ} → r ≡ o → r ≡ None → o ≡ None
checked_good e q = sym e ∙ q

-- and of one that does
checked_bad : {r : (Option ℕ)} {o : Option ℕ} {i : ℕ} → r ≡ o → r ≡ Some i → o ≡ Some i
checked_bad e q = sym e ∙ q

module _ (size : ℕ) (x : Given) {r : (Option ℕ)} (e : r ≡ fault_of size false x) (q : r ≡ None) where
  -- the records of a book that passes lie in its store
  pub book_held : size * x.count ≤ length x.instructions
  book_held = records_held size x.count x.instructions (good_count size x (checked_good e q))

  -- and are few
  pub book_few : WordsFit x.instructions → x.count < 4294967295
  book_few fit = omega (arith, good_few size false x fit (checked_good e q), good_count size x (checked_good e q))

-- where all records fit, so many words do
pub room_told : (size count words : ℕ) → field_size ≤ size → (if ltb (words / size) count then Some (words / size + 1) else None) ≡ None
    → size * count ≤ words
room_told size count words h e = by (ltb (words / size) count) refl e
  where
    by : (t : Bool) → ltb (words / size) count ≡ t → (if t then Some (words / size + 1) else None) ≡ None → size * count ≤ words
    by true u z = let w : ◌≡◌ {A = ℕ} 0 1 = cc in absurd (omega arith)
    by false u z =
        let s : 0 < size = omega arith in
        let m : count * size ≤ words = (le-div_iff_mul-le s).0 (ltb-false (words / size) count u) in
        omega arith

-- INTO A NEW BOOK

module _ (x : Given) (out : List ℕ) {c : (Option ℕ)} (e : c ≡ fault_of field_size false x) where
  -- 30
  pub new_bad : {i : ℕ} → c ≡ Some i → {r : Turned} → r ≡ record { number = 30; index = i; records = 0 } → Turns (new_book x out) out r
  unfolding new_book
  new_bad q s = rw (checked_bad e q) (record { said = s; output = refl })

  module _ (q : c ≡ None) {d : (Option ℕ)} (f : d ≡ (if ltb (length out / record_size) x.count then Some (length out / record_size + 1) else None)) where
    -- 25
    pub new_short : {i : ℕ} → d ≡ Some i → {r : Turned} → r ≡ record { number = 25; index = i; records = 0 } → Turns (new_book x out) out r
    unfolding new_book unfit
    new_short p s = rw (checked_good e q, checked_bad f p) (record { said = s; output = refl })

    -- turned
    pub new_done : d ≡ None → {o : List ℕ} → o ≡ laid_over out (numbered (records_in field_size x)) → {r : Turned}
        → r ≡ record { number = 0; index = 0; records = x.count } → Turns (new_book x out) o r
    unfolding new_book unfit
    new_done p g s = rw (checked_good e q, checked_good f p) (record { said = s; output = g })

-- INTO AN OLD BOOK

module _ (x : Given) (out : List ℕ) {c : (Option ℕ)} (e : c ≡ fault_of record_size false x) where
  -- 30
  pub old_bad : {i : ℕ} → c ≡ Some i → {r : Turned} → r ≡ record { number = 30; index = i; records = 0 } → Turns (old_book x out) out r
  unfolding old_book
  old_bad q s = rw (checked_bad e q) (record { said = s; output = refl })

  module _ (q : c ≡ None) {b : (Option ℕ)} (g : b ≡ misnumbered 1 (called_for (records_in record_size x)) x.instructions) where
    -- 33
    pub old_wrong : {i : ℕ} → b ≡ Some i → {r : Turned} → r ≡ record { number = 33; index = i; records = 0 } → Turns (old_book x out) out r
    unfolding old_book
    old_wrong p s = rw (checked_good e q, checked_bad g p) (record { said = s; output = refl })

    module _ (p : b ≡ None) {d : (Option ℕ)} (f : d ≡ (if ltb (length out / field_size) x.count then Some (length out / field_size + 1) else None)) where
      -- 25
      pub old_short : {i : ℕ} → d ≡ Some i → {r : Turned} → r ≡ record { number = 25; index = i; records = 0 } → Turns (old_book x out) out r
      unfolding old_book unfit
      old_short k s = rw (checked_good e q, checked_good g p, checked_bad f k) (record { said = s; output = refl })

      -- turned
      pub old_done : d ≡ None → {o : List ℕ} → o ≡ laid_over out (joined field_words (records_in record_size x)) → {r : Turned}
          → r ≡ record { number = 0; index = 0; records = x.count } → Turns (old_book x out) o r
      unfolding old_book unfit
      old_done k l s = rw (checked_good e q, checked_good g p, checked_good f k) (record { said = s; output = l })
