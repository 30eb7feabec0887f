-- The index and the records that turning a book answers are small, whatever the stores and counts: no more than 2 ^ 30 records are good.
use Prim.Native.Nat.{ℕ, suc, ◌+◌, ◌/◌, ◌<◌, ◌≤◌}
use mathlib.Core.Path.{◌≡◌, refl}
use mathlib.Core.Bool.{false}
use mathlib.Core.List.{List, [], ◌∷◌}
use Rattle.std.specs.Prelude.{Option, None, Some}
use native.Mathlib.Omega.{arith}
use borrow.Author.Tests.{ltb-true}
use lib.Dec.{ltb}
use lib.ListN.{length, drop}
use Rattle.spec.specs.declared.Numbers.{Numbers}
use Rattle.spec.specs.declared.Turned.{Turned}
use Rattle.spec.specs.Records.{field_size, record_size, called_for}
use Rattle.spec.specs.Check.{Given, records_in, fault_of}
use Rattle.spec.specs.Books.{Turning, refused_at, unfit, has_numbers, misnumbered, new_book, old_book}
use Rattle.spec.proofs.Choice.{either, IfSome}
use Rattle.demands.proofs.Stores.{called_length}
use Rattle.demands.proofs.Indices.{WordsFit, fault_index, good_few}
use Rattle.books.proofs.Calls.{good_count}

-- both fit a word of 32 bits
pub record Small (r : Turned) : Type 0 where
  pub index : r.index < 4294967296
  pub records : r.records < 4294967296

-- an index of 32 bits, or none
abbrev Index : Option ℕ → Type 0
Index o = IfSome (λ i. i < 4294967296) o

-- by such an index, or as it goes on
small_at : (n : ℕ) (o : Option ℕ) (out : List ℕ) (x : Turning) → Index o → (o ≡ None → Small x.said) → Small (refused_at n o out x).said
small_at n None out x p later = later refl
small_at n (Some i) out x p later = record { index = p; records = omega arith }

-- the first of few records that does not fit
unfit_index : (size count : ℕ) (out : List ℕ) → count ≤ 1073741824 → Index (unfit size count out)
unfolding unfit
unfit_index size count out h =
    either Index (ltb (length out / size) count) (Some (length out / size + 1)) None (λ e. omega (arith, ltb-true (length out / size) count e)) (λ e. tt)

-- the first whose numbers are wrong
wrong_index : (index : ℕ) (ns : List Numbers) (ws : List ℕ) → index + length ns ≤ 4294967296 → Index (misnumbered index ns ws)
unfolding misnumbered
wrong_index index [] ws h = tt
wrong_index index (n ∷ ns) ws h =
    either Index (has_numbers ws n) (misnumbered (suc index) ns (drop record_size ws)) (Some index)
    (λ e. wrong_index (suc index) ns (drop record_size ws) (omega arith)) (λ e. omega arith)

module _ (x : Given) (out : List ℕ) (fit : WordsFit x.instructions) where
  -- a book that passes the check has few records
  count_few : (size : ℕ) → fault_of size false x ≡ None → x.count ≤ 1073741824
  count_few size e = omega (arith, good_few size false x fit e, good_count size x e)

  -- an old book into a new one
  pub new_small : Small (new_book x out).said
  unfolding new_book
  new_small =
      small_at 30 (fault_of field_size false x) out _ (fault_index field_size false x fit)
      (λ e.
      let few = count_few field_size e in
      small_at 25 (unfit record_size x.count out) out _ (unfit_index record_size x.count out few) (λ f. record { index = omega arith; records = omega arith }))

  -- a new book into an old one
  pub old_small : Small (old_book x out).said
  unfolding old_book
  old_small =
      let fs = records_in record_size x in
      small_at 30 (fault_of record_size false x) out _ (fault_index record_size false x fit)
      (λ e.
      let few = count_few record_size e in
      small_at 33 (misnumbered 1 (called_for fs) x.instructions) out _
      (wrong_index 1 (called_for fs) x.instructions (omega (arith, called_length fs, good_few record_size false x fit e)))
      (λ m.
      small_at 25 (unfit field_size x.count out) out _ (unfit_index field_size x.count out few) (λ f. record { index = omega arith; records = omega arith })))
