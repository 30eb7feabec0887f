-- On a standing module both orders agree after the header: where standing says yes, both writers answer alike, and their outputs
-- differ in the twenty bytes of the header only.
use Prim.Native.Nat.{ℕ, ◌≤◌}
use mathlib.Core.Path.{◌≡◌, refl, ap, sym, ◌∙◌}
use mathlib.Core.Bool.{Bool, true, false, false≢true}
use mathlib.Core.List.{List, ◌++◌}
use native.Mathlib.Omega.{arith}
use borrow.Author.Tests.{ltb-false}
use lib.Dec.{ltb}
use lib.ListN.{length, drop, length-append}
use lib.Seq.{drop-append-le}
use Rattle.std.specs.Prelude.{if◌then◌else◌}
use Rattle.spec.specs.Base.{joined}
use Rattle.spec.specs.Words.{bytes_of}
use Rattle.spec.specs.Records.{Placed, record_size}
use Rattle.spec.specs.Load.{laid_over}
use Rattle.spec.specs.Check.{Given, Checked, good, bad, check}
use Rattle.spec.specs.Write.{bytes_of_all, parse_bytes, module_header, module_order, module_bytes, Writing, unwritten, put, write_parse, write_module, is_standing, stands_by, standing}
use Rattle.spec.proofs.Faultless.{good_told, part_faultless}
use Rattle.demands.proofs.Leaves.{laid_over_lem}
use Rattle.demands.proofs.Standing.{words_length, standing_order, orders_agree}

-- THE CHECK OF BOTH ORDERS

-- records that pass the check of module order pass that of parse order, and say the same
check_part : (x : Given) (is : List Placed) → check record_size true x ≡ good is → check record_size false x ≡ good is
unfolding check
check_part x is e = let told = good_told record_size true x is e in rw (part_faultless record_size x told.0, told.1)

-- where standing says yes, the records pass the check and stand
yes_said : (y : Checked) → (stands_by y).yes ≡ true → (is : List Placed) × (y ≡ good is) × (is_standing is ≡ true)
yes_said (bad i) e = absurd (false≢true e)
yes_said (good is) e = (is, refl, e)

-- THE WRITERS

-- both writings are the same, the first so many bytes of the output aside
pub record Agree (n : ℕ) (a b : Writing) : Type 0 where
  pub said : a.said ≡ b.said
  pub output : drop n a.output ≡ drop n b.output

module _ (out a b : List ℕ) (n : ℕ) (long : length a ≡ length b) (least : n ≤ length b) (same : drop n a ≡ drop n b) where
  -- bytes laid over an output that has room
  laid_agree : length b ≤ length out → drop n (laid_over out a) ≡ drop n (laid_over out b)
  laid_agree h =
      let k : ℕ = length b in
      ap (drop n) (laid_over_lem out a k long h)
      ∙ drop-append-le n a (drop k out) (omega arith)
      ∙ ap (λ (l : List ℕ). l ++ drop k out) same
      ∙ sym (drop-append-le n b (drop k out) least)
      ∙ sym (ap (drop n) (laid_over_lem out b k refl h))

  -- bytes as many, by whether the output has room for them
  put_by : (c : Bool) → ltb (length out) (length b) ≡ c
      → Agree n
      (if c then unwritten 29 0 out else record { said = record { number = 0; index = 0; bytes = length b }; output = laid_over out a })
      (if c then unwritten 29 0 out else record { said = record { number = 0; index = 0; bytes = length b }; output = laid_over out b })
  put_by true e = record { said = refl; output = refl }
  put_by false e = record { said = refl; output = laid_agree (ltb-false (length out) (length b) e) }

  -- bytes that differ in their first few only, put into an output
  puts_agree : Agree n (put out a) (put out b)
  puts_agree = rw long (put_by (ltb (length out) (length b)) refl)

-- the bytes of both orders are as many, where module order leaves the instructions where they are, and no fewer than the header's
same_long : (h : List ℕ) (is : List Placed) → length h ≡ 5 → module_order is ≡ is
    → (length (module_bytes h is) ≡ length (parse_bytes h is)) × (20 ≤ length (parse_bytes h is))
unfolding module_bytes parse_bytes module_header
same_long h is five e =
    let own = length-append (joined bytes_of (module_header h)) (bytes_of_all (module_order is)) in
    let read = length-append (joined bytes_of h) (bytes_of_all is) in
    let all : length (bytes_of_all (module_order is)) ≡ length (bytes_of_all is) = ap (λ (l : List Placed). length (bytes_of_all l)) e in
    (omega (arith, own, read, words_length h, words_length (module_header h)), omega (arith, read, words_length h))

-- "On a standing module both orders agree after the header": the same answer, and the same output past twenty bytes
pub writers_agree : (x : Given) → (standing x).yes ≡ true → (h : List ℕ) → length h ≡ 5 → (out : List ℕ)
    → Agree 20 (write_module h x out) (write_parse h x out)
unfolding standing write_module write_parse
writers_agree x e h five out =
    let s = yes_said (check record_size true x) e in
    let is : List Placed = s.0 in
    let long = same_long h is five (standing_order true x is s.1 s.2) in
    rw (s.1, check_part x is s.1)
    (puts_agree out (module_bytes h is) (parse_bytes h is) 20 long.0 long.1 (orders_agree true x is s.1 s.2 h five))
