-- How the passes over a book go: past a record, and to the end.
use Prim.Native.Nat.{ℕ, zero, suc, ◌+◌, ◌*◌, ◌-◌, ◌<◌, ◌≤◌}
use mathlib.Core.Path.{◌≡◌, refl, ap, sym, ◌∙◌}
use mathlib.Core.Bool.{true, false, ◌&&◌}
use mathlib.Core.List.{List, [], ◌∷◌, ◌++◌, map, append-nil}
use Rattle.std.specs.Prelude.{Option, Some}
use native.Mathlib.Nat.{mul-zero, sub-zero}
use native.Mathlib.Numerals.{add-one}
use native.Mathlib.Omega.{arith}
use lib.Dec.{eqb}
use lib.ListN.{length, drop, length-drop}
use lib.Seq.{sets, drop-drop}
use Rattle.spec.specs.declared.Fields.{Fields}
use Rattle.spec.specs.declared.Numbers.{Numbers}
use Rattle.spec.specs.Base.{joined}
use Rattle.spec.specs.Numbers.{no_numbers, onward, numbers_of, numbers_from}
use Rattle.spec.specs.Records.{field_size, field_words, fields_at, record_size, record_words, records_with, called_for, numbered}
use Rattle.spec.specs.Load.{laid_over}
use Rattle.spec.specs.Check.{records_of}
use Rattle.spec.specs.Books.{has_numbers, misnumbered}
use Rattle.spec.proofs.Store.{sets_append}
use Rattle.demands.proofs.Lists.{joined_append}
use Rattle.demands.proofs.Stores.{numbered_length}
use Rattle.numbers.specs.declared.Step.{Step}
use Rattle.numbers.specs.Counting.{step_of, counted, begun}
use Rattle.numbers.proofs.Laws.{onward_few, begun_more, numbered_more}
use Rattle.records.specs.Good.{numbers_at}
use Rattle.records.proofs.Operands.{has_yes}
use Rattle.records.proofs.Pass.{records_by, records_end}
use Rattle.std.specs.Prelude.{None}

-- THE RECORDS OF A STORE

-- as many as are asked for, where they lie in it
records_count : (size n : ℕ) (ws : List ℕ) → size * n ≤ length ws → length (records_of size n ws) ≡ n
unfolding records_of
records_count size zero ws h = refl
records_count size (suc n) ws h =
    rw (has_yes size ws (omega arith)) (ap suc (records_count size n (drop size ws) (omega (arith, length-drop size ws))))

-- one more is the next
records_more : (size i : ℕ) (ws : List ℕ) → size * i + size ≤ length ws
    → records_of size (suc i) ws ≡ records_of size i ws ++ (fields_at (drop (size * i) ws) ∷ [])
unfolding records_of
records_more size zero ws h = rw (has_yes size ws (omega arith), mul-zero size)
records_more size (suc i) ws h =
    let k : size + size * i ≡ size * suc i = omega arith in
    let later = records_more size i (drop size ws) (omega (arith, length-drop size ws)) in
    rw (has_yes size ws (omega arith), ← k, ← drop-drop (size * i) size ws) (ap (λ (z : List Fields). fields_at ws ∷ z) later)

-- NUMBERS THAT GROW

-- no more have begun than so many records
abbrev pub Few : Numbers → ℕ → Type 0
Few n i = (n.function ≤ i) × (n.block ≤ i)

-- with one more
few_more : (tag : ℕ) {n : Numbers} {i : ℕ} {x : Step} → Few n i → x ≡ step_of tag n → Few x.begun (i + 1)
unfolding step_of
few_more tag {n} few e =
    let m = onward_few tag n in
    rw e (omega (arith, m.0, few.0), omega (arith, m.1, few.1))

-- INTO A NEW BOOK

-- so many records are numbered in the output
pub record Numbering (ws out₀ out : List ℕ) (n : Numbers) (i count : ℕ) : Type 0 where
  pub stored : out ≡ sets out₀ 0 (numbered (records_of field_size i ws))
  pub counts : n ≡ begun (records_of field_size i ws)
  pub few : Few n i
  pub within : i ≤ count

-- none at first
pub number_starts : (ws out : List ℕ) (count : ℕ) → Numbering ws out out no_numbers 0 count
unfolding records_of numbered called_for records_with begun counted
number_starts ws out count = record { stored = refl; counts = refl; few = (omega arith, omega arith); within = omega arith }

module _ {ws out₀ out : List ℕ} {n : Numbers} {i count : ℕ} (r : Numbering ws out₀ out n i count) where
  -- one more
  pub number_goes_on : i < count → field_size * count ≤ length ws → (f : Fields) → f ≡ fields_at (drop (field_size * i) ws)
      → (x : Step) → x ≡ step_of f.tag n → (out' : List ℕ) → out' ≡ sets out (record_size * i) (record_words f x.own)
      → Numbering ws out₀ out' x.begun (i + 1) count
  number_goes_on h g f e x q out' p =
      let fs = records_of field_size i ws in
      let more : records_of field_size (i + 1) ws ≡ fs ++ (f ∷ []) = rw (add-one i, e) (records_more field_size i ws (omega arith)) in
      let at : record_size * i ≡ 0 + length (numbered fs) = omega (arith, numbered_length fs, records_count field_size i ws (omega arith)) in
      let is : x ≡ step_of f.tag (begun fs) = q ∙ ap (step_of f.tag) r.counts in
      record {
        stored =
            p
            ∙ ap (λ (z : List ℕ). sets z (record_size * i) (record_words f x.own)) r.stored
            ∙ ap (λ (k : ℕ). sets (sets out₀ 0 (numbered fs)) k (record_words f x.own)) at
            ∙ sets_append (numbered fs) (record_words f x.own) out₀ 0
            ∙ ap (λ (s : Step). sets out₀ 0 (numbered fs ++ record_words f s.own)) is
            ∙ ap (sets out₀ 0) (sym (numbered_more fs f) ∙ ap numbered (sym more));
        counts = ap (λ (s : Step). s.begun) is ∙ sym (begun_more fs f) ∙ ap begun (sym more);
        few = few_more f.tag r.few q;
        within = omega arith;
      }

  -- all
  pub number_ends : count ≤ i → out ≡ laid_over out₀ (numbered (records_of field_size count ws))
  unfolding laid_over
  number_ends h =
      let e : i ≡ count = omega (arith, r.within) in
      r.stored ∙ ap (λ (k : ℕ). sets out₀ 0 (numbered (records_of field_size k ws))) e

-- INTO AN OLD BOOK

-- the fields of so many records are in the output
pub record Stripping (ws out₀ out : List ℕ) (i count : ℕ) : Type 0 where
  pub stored : out ≡ sets out₀ 0 (joined field_words (records_of record_size i ws))
  pub within : i ≤ count

-- none at first
pub strip_starts : (ws out : List ℕ) (count : ℕ) → Stripping ws out out 0 count
unfolding records_of
strip_starts ws out count = record { stored = refl; within = omega arith }

-- fields are eight words each
pub fields_long : (fs : List Fields) → length (joined field_words fs) ≡ field_size * length fs
unfolding field_words
fields_long [] = refl
fields_long (f ∷ fs) = omega (arith, fields_long fs)

module _ {ws out₀ out : List ℕ} {i count : ℕ} (r : Stripping ws out₀ out i count) where
  -- one more
  pub strip_goes_on : i < count → record_size * count ≤ length ws → (f : Fields) → f ≡ fields_at (drop (record_size * i) ws)
      → (out' : List ℕ) → out' ≡ sets out (field_size * i) (field_words f) → Stripping ws out₀ out' (i + 1) count
  strip_goes_on h g f e out' p =
      let fs = records_of record_size i ws in
      let more : records_of record_size (i + 1) ws ≡ fs ++ (f ∷ []) = rw (add-one i, e) (records_more record_size i ws (omega arith)) in
      let at : field_size * i ≡ 0 + length (joined field_words fs) = omega (arith, fields_long fs, records_count record_size i ws (omega arith)) in
      let one : joined field_words fs ++ field_words f ≡ joined field_words (fs ++ (f ∷ [])) =
      sym (joined_append field_words fs (f ∷ []) ∙ ap (λ (z : List ℕ). joined field_words fs ++ z) (append-nil (field_words f))) in
      record {
        stored =
            p
            ∙ ap (λ (z : List ℕ). sets z (field_size * i) (field_words f)) r.stored
            ∙ ap (λ (k : ℕ). sets (sets out₀ 0 (joined field_words fs)) k (field_words f)) at
            ∙ sets_append (joined field_words fs) (field_words f) out₀ 0
            ∙ ap (sets out₀ 0) (one ∙ ap (joined field_words) (sym more));
        within = omega arith;
      }

  -- all
  pub strip_ends : count ≤ i → out ≡ laid_over out₀ (joined field_words (records_of record_size count ws))
  unfolding laid_over
  strip_ends h =
      let e : i ≡ count = omega (arith, r.within) in
      r.stored ∙ ap (λ (k : ℕ). sets out₀ 0 (joined field_words (records_of record_size k ws))) e

-- THE NUMBERS OF A NEW BOOK

-- the first of some records, from an index on, whose numbers are not those called for where so many have begun
abbrev wrong_from : ℕ → Numbers → List Fields → List ℕ → Option ℕ
wrong_from index n fs ws = misnumbered index (numbers_from n (map (λ (f : Fields). f.tag) fs)) ws

-- so many records have theirs: the first that has not is among the rest
pub record Matching (ws : List ℕ) (count : ℕ) (n : Numbers) (i : ℕ) : Type 0 where
  pub same : misnumbered 1 (called_for (records_of record_size count ws)) ws
      ≡ wrong_from (suc i) n (records_of record_size (count - i) (drop (record_size * i) ws)) (drop (record_size * i) ws)
  pub few : Few n i
  pub within : i ≤ count

-- none is looked at at first
pub match_starts : (ws : List ℕ) (count : ℕ) → Matching ws count no_numbers 0
unfolding called_for
match_starts ws count = record { same = rw (sub-zero count); few = (omega arith, omega arith); within = omega arith }

-- one that has the numbers, and one that has not
match_yes : (index : ℕ) (f : Fields) (fs : List Fields) (n : Numbers) (ws : List ℕ)
    → has_numbers ws (numbers_of f.tag (onward f.tag n)) ≡ true
    → wrong_from index n (f ∷ fs) ws ≡ wrong_from (suc index) (onward f.tag n) fs (drop record_size ws)
unfolding misnumbered numbers_from
match_yes index f fs n ws e = rw e

match_no : (index : ℕ) (f : Fields) (fs : List Fields) (n : Numbers) (ws : List ℕ)
    → has_numbers ws (numbers_of f.tag (onward f.tag n)) ≡ false → wrong_from index n (f ∷ fs) ws ≡ Some index
unfolding misnumbered numbers_from
match_no index f fs n ws e = rw e

module _ {ws : List ℕ} {count : ℕ} {n : Numbers} {i : ℕ} (r : Matching ws count n i) where
  module _ (h : i < count) (g : record_size * count ≤ length ws) (f : Fields) (e : f ≡ fields_at (drop (record_size * i) ws))
      (m : Numbers) (d : m ≡ numbers_at (drop (record_size * i) ws)) (x : Step) (q : x ≡ step_of f.tag n) where
    -- the record at the index is the first of the rest
    next_is : records_of record_size (count - i) (drop (record_size * i) ws)
        ≡ f ∷ records_of record_size (count - (i + 1)) (drop (record_size * (i + 1)) ws)
    next_is = rw e (records_by record_size ws i (count - (i + 1)) (count - i) (omega arith) (omega arith))

    -- the test is of its numbers
    test_is : has_numbers (drop (record_size * i) ws) (numbers_of f.tag (onward f.tag n)) ≡ (eqb m.function x.own.function && eqb m.block x.own.block)
    unfolding step_of numbers_at
    test_is = rw (d, q)

    -- it has not those called for
    pub match_stops : (eqb m.function x.own.function && eqb m.block x.own.block) ≡ false → Some (i + 1) ≡ misnumbered 1 (called_for (records_of record_size count ws)) ws
    match_stops u =
        sym (r.same
        ∙ ap (λ (fs : List Fields). wrong_from (suc i) n fs (drop (record_size * i) ws)) next_is
        ∙ match_no (suc i) f (records_of record_size (count - (i + 1)) (drop (record_size * (i + 1)) ws)) n (drop (record_size * i) ws) (test_is ∙ u)
        ∙ ap Some (sym (add-one i)))

    -- it has
    pub match_goes_on : (eqb m.function x.own.function && eqb m.block x.own.block) ≡ true → Matching ws count x.begun (i + 1)
    unfolding step_of
    match_goes_on u =
        let fs = records_of record_size (count - (i + 1)) (drop (record_size * (i + 1)) ws) in
        let k : record_size * i + record_size ≡ record_size * (i + 1) = omega arith in
        let on : drop record_size (drop (record_size * i) ws) ≡ drop (record_size * (i + 1)) ws =
        drop-drop record_size (record_size * i) ws ∙ ap (λ (j : ℕ). drop j ws) k in
        record {
          same =
              r.same
              ∙ ap (λ (fs : List Fields). wrong_from (suc i) n fs (drop (record_size * i) ws)) next_is
              ∙ match_yes (suc i) f fs n (drop (record_size * i) ws) (test_is ∙ u)
              ∙ ap (wrong_from (suc (suc i)) (onward f.tag n) fs) on
              ∙ ap (λ (j : ℕ). wrong_from (suc j) (onward f.tag n) fs (drop (record_size * (i + 1)) ws)) (sym (add-one i))
              ∙ ap (λ (s : Step). wrong_from (suc (i + 1)) s.begun fs (drop (record_size * (i + 1)) ws)) (sym q);
          few = few_more f.tag r.few q;
          within = omega arith;
        }

  -- all have
  pub match_ends : count ≤ i → None ≡ misnumbered 1 (called_for (records_of record_size count ws)) ws
  unfolding misnumbered numbers_from
  match_ends h =
      sym (r.same
      ∙ ap (λ (fs : List Fields). wrong_from (suc i) n fs (drop (record_size * i) ws))
      (records_end record_size (drop (record_size * i) ws) (count - i) (omega arith)))
