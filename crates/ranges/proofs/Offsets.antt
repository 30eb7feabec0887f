-- Laws of the offsets of good stores: each record's is the place of its instruction as read, behind a header and all before it.
use Prim.Native.Nat.{ℕ, zero, suc, ◌+◌, ◌*◌, ◌-◌, ◌<◌, ◌≤◌}
use mathlib.Core.Path.{◌≡◌, refl, ap, sym, ◌∙◌}
use mathlib.Core.List.{List, [], ◌++◌}
use native.Mathlib.Omega.{arith}
use native.Mathlib.Numerals.{add-one}
use borrow.Rule.Slice.PartMut.{mid_of, put_mid}
use lib.ListN.{length, take, drop, take-append-drop}
use lib.Seq.{sets, length-sets, take-add, take_all}
use Rattle.spec.specs.declared.Fields.{Fields}
use Rattle.spec.specs.Records.{Placed, instr_bytes, record_size, fields_at}
use Rattle.spec.specs.Write.{bytes_of_all}
use Rattle.spec.proofs.Store.{sets_append, rest_back}
use Rattle.records.proofs.Good.{good_first, good_next}
use Rattle.spelled.specs.Spelled.{said_by}
use Rattle.spelled.specs.Placing.{full_stores, GoodStores, instrs_of, one_at}
use Rattle.spelled.proofs.Stores.{At, stores_at, stores_length}
use Rattle.spelled.proofs.Orders.{at_bytes, at_length}
use Rattle.spelled.proofs.Place.{bytes_append, length_bytes}

-- the bytes of instructions up to an index, and of the one there
bytes_to : (is : List Placed) (i : ℕ) → bytes_of_all (take (i + 1) is) ≡ bytes_of_all (take i is) ++ bytes_of_all (one_at is i)
unfolding one_at
bytes_to is i = ap bytes_of_all (take-add i 1 is) ∙ bytes_append (take i is) (take 1 (drop i is))

-- how many they are
length_to : (is : List Placed) (i : ℕ) → length (bytes_of_all (take (i + 1) is)) ≡ length (bytes_of_all (take i is)) + length (bytes_of_all (one_at is i))
unfolding one_at
length_to is i = ap (λ (z : List Placed). length (bytes_of_all z)) (take-add i 1 is) ∙ length_bytes (take i is) (take 1 (drop i is))

-- no more than of all
length_part : (is : List Placed) (i : ℕ) → length (bytes_of_all (take i is)) ≤ length (bytes_of_all is)
length_part is i = omega (arith, ap (λ (z : List Placed). length (bytes_of_all z)) (take-append-drop i is), length_bytes (take i is) (drop i is))

-- none are before the first
pub none_put : (l : List ℕ) → l ≡ sets l 20 (bytes_of_all [])
unfolding bytes_of_all
none_put l = refl

-- what is put leaves the length
pub put_length : (out₀ out : List ℕ) (ps : List Placed) → out ≡ sets out₀ 20 (bytes_of_all ps) → length out ≡ length out₀
put_length out₀ out ps e = ap length e ∙ length-sets out₀ 20 (bytes_of_all ps)

module _ (ws log strings : List ℕ) (count : ℕ) (g : GoodStores ws log strings count) where
  -- those up to the count are all
  all_to : (i : ℕ) → count ≤ i → take i (instrs_of ws log strings count) ≡ instrs_of ws log strings count
  all_to i h = take_all i (instrs_of ws log strings count) (omega (arith, stores_length ws log strings count g))

  -- each is behind a header and all before it
  offset_is : (i : ℕ) → i < count → (fields_at (drop (record_size * i) ws)).offset ≡ 20 + length (bytes_of_all (take i (instrs_of ws log strings count)))
  unfolding GoodStores bytes_of_all
  offset_is zero h = good_first (full_stores ws log strings count) g h
  offset_is (suc i) h =
      let a : At ws log strings count i (fields_at (drop (record_size * i) ws)) = stores_at ws log strings count g i (omega arith) _ refl in
      let q : length (bytes_of_all (take (i + 1) (instrs_of ws log strings count))) ≡ length (bytes_of_all (take (suc i) (instrs_of ws log strings count))) = ap (λ (k : ℕ). length (bytes_of_all (take k (instrs_of ws log strings count)))) (add-one i) in
      omega (arith, good_next (full_stores ws log strings count) g i h, offset_is i (omega arith), length_to (instrs_of ws log strings count) i, at_length a, q)

  module _ (i : ℕ) (h : i < count) (f : Fields) (e : f ≡ fields_at (drop (record_size * i) ws)) where
    -- where an instruction is
    offset_at : f.offset ≡ 20 + length (bytes_of_all (take i (instrs_of ws log strings count)))
    offset_at = ap (λ (y : Fields). y.offset) e ∙ offset_is i h

    -- where it ends
    pub offset_after_lem : f.offset + 4 * f.words ≡ 20 + length (bytes_of_all (take (i + 1) (instrs_of ws log strings count)))
    offset_after_lem = omega (arith, offset_at, length_to (instrs_of ws log strings count) i, at_length (stores_at ws log strings count g i h f e))

    -- where the last ends
    pub offset_end : count ≤ i + 1 → f.offset + 4 * f.words ≡ 20 + length (bytes_of_all (instrs_of ws log strings count))
    offset_end k = offset_after_lem ∙ ap (λ (z : List Placed). 20 + length (bytes_of_all z)) (all_to (i + 1) k)

    module _ (out₀ out : List ℕ) (w : out ≡ sets out₀ 20 (bytes_of_all (take i (instrs_of ws log strings count)))) where
      -- there is room for it
      pub offset_room : 20 + length (bytes_of_all (instrs_of ws log strings count)) ≤ length out₀ → f.offset + 4 * f.words ≤ length out
      offset_room r = omega (arith, r, offset_after_lem, length_part (instrs_of ws log strings count) (i + 1), put_length out₀ out (take i (instrs_of ws log strings count)) w)

      -- it is put behind those before it
      pub offset_put : (ys : List ℕ) → ys ≡ sets (mid_of f.offset (length out - f.offset) out) 0 (instr_bytes (said_by log strings f).instr)
          → put_mid f.offset (length out - f.offset) out ys ≡ sets out₀ 20 (bytes_of_all (take (i + 1) (instrs_of ws log strings count)))
      offset_put ys q =
          let bs = instr_bytes (said_by log strings f).instr in
          rest_back out bs ys f.offset q
          ∙ ap (λ (z : List ℕ). sets z f.offset bs) w
          ∙ ap (λ (k : ℕ). sets (sets out₀ 20 (bytes_of_all (take i (instrs_of ws log strings count)))) k bs) offset_at
          ∙ sets_append (bytes_of_all (take i (instrs_of ws log strings count))) bs out₀ 20
          ∙ ap (λ (z : List ℕ). sets out₀ 20 (bytes_of_all (take i (instrs_of ws log strings count)) ++ z)) (at_bytes (stores_at ws log strings count g i h f e))
          ∙ ap (λ (z : List ℕ). sets out₀ 20 z) (sym (bytes_to (instrs_of ws log strings count) i))

  -- without instructions the end is behind a header
  pub none_end : count ≡ 0 → 20 ≡ 20 + length (bytes_of_all (instrs_of ws log strings count))
  unfolding bytes_of_all
  none_end e = ap (λ (z : List Placed). 20 + length (bytes_of_all z)) (all_to 0 (omega arith))

  -- all are put
  pub all_put : (i : ℕ) → count ≤ i → (out₀ out : List ℕ) → out ≡ sets out₀ 20 (bytes_of_all (take i (instrs_of ws log strings count)))
      → out ≡ sets out₀ 20 (bytes_of_all (instrs_of ws log strings count))
  all_put i h out₀ out w = w ∙ ap (λ (z : List Placed). sets out₀ 20 (bytes_of_all z)) (all_to i h)
