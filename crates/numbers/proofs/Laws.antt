-- Laws of numbers that go on by a record.
use Prim.Native.Nat.{ℕ, ◌+◌, ◌≤◌}
use mathlib.Core.Path.{◌≡◌, refl, ap, sym, ◌∙◌}
use mathlib.Core.Bool.{Bool, true, false}
use mathlib.Core.List.{List, [], ◌∷◌, ◌++◌, map, append_assoc, append-nil}
use native.Mathlib.Omega.{arith}
use lib.Dec.{eqb}
use lib.ListN.{length}
use Rattle.spec.specs.declared.Fields.{Fields}
use Rattle.spec.specs.declared.Numbers.{Numbers}
use Rattle.std.specs.Prelude.{if◌then◌else◌}
use Rattle.spec.specs.Numbers.{in_function, no_numbers, onward, numbers_of, numbers_from}
use Rattle.spec.specs.Records.{record_words, records_with, called_for, numbered}
use Rattle.demands.proofs.Stores.{called_length}
use Rattle.numbers.specs.Counting.{step_of, counted, begun}

-- no number grows by more than one
pub onward_few : (tag : ℕ) (n : Numbers) → ((onward tag n).function ≤ n.function + 1) × ((onward tag n).block ≤ n.block + 1)
unfolding onward
onward_few tag n = by (eqb tag 12) (eqb tag 14)
  where
    by : (a b : Bool)
        → let m : Numbers =
        if a then in_function (n.function + 1)
        else if b then record { function = n.function; block = n.block + 1 }
        else n
        in (m.function ≤ n.function + 1) × (m.block ≤ n.block + 1)
    by true b = (omega arith, omega arith)
    by false true = (omega arith, omega arith)
    by false false = (omega arith, omega arith)

-- the fields' tags, with one more
tags_more : (fs : List Fields) (f : Fields) → map (λ (x : Fields). x.tag) (fs ++ (f ∷ [])) ≡ map (λ (x : Fields). x.tag) fs ++ (f.tag ∷ [])
tags_more [] f = refl
tags_more (g ∷ fs) f = ap (λ (z : List ℕ). g.tag ∷ z) (tags_more fs f)

-- what has begun with one more
counted_more : (n : Numbers) (tags : List ℕ) (tag : ℕ) → counted n (tags ++ (tag ∷ [])) ≡ onward tag (counted n tags)
unfolding counted
counted_more n [] tag = refl
counted_more n (t ∷ tags) tag = counted_more (onward t n) tags tag

-- the numbers of one more
numbers_more : (n : Numbers) (tags : List ℕ) (tag : ℕ)
    → numbers_from n (tags ++ (tag ∷ [])) ≡ numbers_from n tags ++ (numbers_of tag (onward tag (counted n tags)) ∷ [])
unfolding numbers_from counted
numbers_more n [] tag = refl
numbers_more n (t ∷ tags) tag = ap (λ (z : List Numbers). numbers_of t (onward t n) ∷ z) (numbers_more (onward t n) tags tag)

-- the records of one more
records_more : (fs : List Fields) (ns : List Numbers) → length ns ≡ length fs → (f : Fields) (n : Numbers)
    → records_with (fs ++ (f ∷ [])) (ns ++ (n ∷ [])) ≡ records_with fs ns ++ record_words f n
unfolding records_with
records_more [] [] e f n = append-nil (record_words f n)
records_more [] (m ∷ ns) e f n = absurd (omega arith)
records_more (g ∷ fs) [] e f n = absurd (omega arith)
records_more (g ∷ fs) (m ∷ ns) e f n =
    ap (λ (z : List ℕ). record_words g m ++ z) (records_more fs ns (omega arith) f n)
    ∙ sym (append_assoc (record_words g m) (records_with fs ns) (record_words f n))

module _ (fs : List Fields) (f : Fields) where
  -- a book with a record more has begun what that record's step says
  pub begun_more : begun (fs ++ (f ∷ [])) ≡ (step_of f.tag (begun fs)).begun
  unfolding begun step_of
  begun_more = ap (counted no_numbers) (tags_more fs f) ∙ counted_more no_numbers _ f.tag

  -- and ends in it, with the numbers that its step says
  pub numbered_more : numbered (fs ++ (f ∷ [])) ≡ numbered fs ++ record_words f (step_of f.tag (begun fs)).own
  unfolding numbered called_for begun step_of
  numbered_more =
      ap (λ (ts : List ℕ). records_with (fs ++ (f ∷ [])) (numbers_from no_numbers ts)) (tags_more fs f)
      ∙ ap (records_with (fs ++ (f ∷ []))) (numbers_more no_numbers _ f.tag)
      ∙ records_more fs (called_for fs) (called_length fs) f _
