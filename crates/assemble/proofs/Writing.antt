-- Laws of the writers: the header, the output that is too small, the bytes written, and the stores cut at their counts.
use Prim.Native.Nat.{ℕ, ◌+◌, ◌*◌, ◌<◌, ◌≤◌}
use mathlib.Core.Path.{◌≡◌, refl, ap, sym, subst, ◌∙◌}
use mathlib.Core.Bool.{Bool, true, false}
use mathlib.Core.List.{List, [], ◌∷◌}
use native.Mathlib.Omega.{arith}
use borrow.Author.Tests.{lt-ltb, le-ltb}
use lib.Dec.{ltb}
use lib.ListN.{length, take, get_or, set, length-append, drop_of_length-le}
use lib.Seq.{sets, length-take-le, take-length, drop-cons}
use Rattle.spec.specs.declared.Written.{Written}
use Rattle.spec.specs.declared.State.TheVariants.{Outside}
use Rattle.std.specs.Prelude.{if◌then◌else◌}
use Rattle.spec.specs.Base.{joined}
use Rattle.spec.specs.Words.{bytes_of, major, minor}
use Rattle.spec.specs.Records.{Placed, record_size}
use Rattle.spec.specs.Load.{laid_over}
use Rattle.spec.specs.Check.{Given, lower, missing, fields_fault, Scan, scan_from, scan_of, tags_fault, records_of, fault_of, Checked, good, check}
use Rattle.spec.specs.Write.{bytes_of_all, parse_bytes, module_header, module_order, module_bytes, Writing, unwritten, write_by, write_parse, write_module}
use Rattle.spec.proofs.Store.{sets_append}
use Rattle.records.specs.Steps.{given}
use Rattle.records.specs.Good.{Good}
use Rattle.records.proofs.Good.{good_by, good_counts, check_is_good, check_is_bad}
use Rattle.spelled.specs.Placing.{full_stores, GoodStores, instrs_of, ordered, order_bytes, written_over, write_order}
use Rattle.assemble.specs.Writes.{Writes}
use Rattle.std.specs.Prelude.{None, Option, Some}

-- THE HEADER

-- five words
five_words : (h : List ℕ) → length h ≡ 5 → h ≡ get_or h 0 0 ∷ get_or h 1 0 ∷ get_or h 2 0 ∷ get_or h 3 0 ∷ get_or h 4 0 ∷ []
five_words h e =
    drop-cons h 0 0 (omega arith)
    ∙ ap (λ (l : List ℕ). get_or h 0 0 ∷ l)
    (drop-cons h 1 0 (omega arith)
    ∙ ap (λ (l : List ℕ). get_or h 1 0 ∷ l)
    (drop-cons h 2 0 (omega arith)
    ∙ ap (λ (l : List ℕ). get_or h 2 0 ∷ l)
    (drop-cons h 3 0 (omega arith)
    ∙ ap (λ (l : List ℕ). get_or h 3 0 ∷ l)
    (drop-cons h 4 0 (omega arith) ∙ ap (λ (l : List ℕ). get_or h 4 0 ∷ l) (drop_of_length-le h {i = 5} (omega arith))))))

-- they are twenty bytes
length_header : (h : List ℕ) → length h ≡ 5 → length (joined bytes_of h) ≡ 20
unfolding bytes_of
length_header h e = ap (λ (l : List ℕ). length (joined bytes_of l)) (five_words h e)

-- they are put one after the other
pub header_put : (h : List ℕ) → length h ≡ 5 → (l l₁ l₂ l₃ l₄ l₅ : List ℕ) → l₁ ≡ sets l 0 (bytes_of (get_or h 0 0)) → l₂ ≡ sets l₁ 4 (bytes_of (get_or h 1 0))
    → l₃ ≡ sets l₂ 8 (bytes_of (get_or h 2 0)) → l₄ ≡ sets l₃ 12 (bytes_of (get_or h 3 0)) → l₅ ≡ sets l₄ 16 (bytes_of (get_or h 4 0)) → l₅ ≡ sets l 0 (joined bytes_of h)
unfolding bytes_of
header_put h e l l₁ l₂ l₃ l₄ l₅ e₁ e₂ e₃ e₄ e₅ =
    e₅
    ∙ ap (λ (z : List ℕ). sets z 16 (bytes_of (get_or h 4 0)))
    (e₄
    ∙ ap (λ (z : List ℕ). sets z 12 (bytes_of (get_or h 3 0)))
    (e₃
    ∙ ap (λ (z : List ℕ). sets z 8 (bytes_of (get_or h 2 0)))
    (e₂ ∙ ap (λ (z : List ℕ). sets z 4 (bytes_of (get_or h 1 0))) e₁)))
    ∙ ap (λ (z : List ℕ). sets l 0 (joined bytes_of z)) (sym (five_words h e))

-- the header in module order, word by word
pub module_words : (h : List ℕ) → length h ≡ 5 → set (set (set (set h 0 0x07230203) 1 (65536 * major (get_or h 1 0) + 256 * minor (get_or h 1 0))) 2 0x000F0000) 4 0 ≡ module_header h
unfolding module_header
module_words h e =
    ap (λ (l : List ℕ). set (set (set (set l 0 0x07230203) 1 (65536 * major (get_or h 1 0) + 256 * minor (get_or h 1 0))) 2 0x000F0000) 4 0) (five_words h e)

-- GOOD STORES

-- what one writing comes to, another comes to that is it
pub writes_as : {x y : Writing} {out : List ℕ} {w : Written} → x ≡ y → Writes x out w → Writes y out w
writes_as {out = out} {w = w} e h = subst (λ (z : Writing). Writes z out w) e h

-- one of two, by a test that holds
pick_yes : (t : Bool) (x y : Writing) → t ≡ true → x ≡ (if t then x else y)
pick_yes t x y e = rw e

-- the other, by a test that fails
pick_no : (t : Bool) (x y : Writing) → t ≡ false → y ≡ (if t then x else y)
pick_no t x y e = rw e

-- too many bytes
over_full : (out bs : List ℕ) → length out < length bs → unwritten 29 0 out ≡ written_over out bs
unfolding written_over
over_full out bs h = pick_yes (ltb (length out) (length bs)) (unwritten 29 0 out) _ (lt-ltb (length out) (length bs) h)

-- bytes that have room
over_done : (out bs : List ℕ) → length bs ≤ length out
    → ◌≡◌ {A = Writing} (record { said = record { number = 0; index = 0; bytes = length bs }; output = laid_over out bs }) (written_over out bs)
unfolding written_over
over_done out bs h = pick_no (ltb (length out) (length bs)) (unwritten 29 0 out) _ (le-ltb (length out) (length bs) h)

-- as read
pub read_order : (is : List Placed) → ordered false is ≡ is
unfolding ordered
read_order is = refl

-- in module order
pub whole_order : (is : List Placed) → ordered true is ≡ module_order is
unfolding ordered
whole_order is = refl

-- one order is another
pub order_as : (h out : List ℕ) (is : List Placed) (whole whole' : Bool) → whole ≡ whole' → written_over out (order_bytes whole h is) ≡ written_over out (order_bytes whole' h is)
order_as h out is whole whole' e = ap (λ (b : Bool). written_over out (order_bytes b h is)) e

module _ (whole : Bool) (h : List ℕ) (five : length h ≡ 5) (is ps : List Placed) (o : ordered whole is ≡ ps) (out : List ℕ) where
  -- how many bytes there are
  order_length : length (order_bytes whole h is) ≡ 20 + length (bytes_of_all ps)
  unfolding order_bytes
  order_length =
      length-append (joined bytes_of h) (bytes_of_all (ordered whole is))
      ∙ ap (λ (n : ℕ). n + length (bytes_of_all (ordered whole is))) (length_header h five)
      ∙ ap (λ (qs : List Placed). 20 + length (bytes_of_all qs)) o

  -- "29, exactly when the bytes needed exceed the output"
  pub write_full : (w : Written) (l : List ℕ) → w ≡ record { number = 29; index = 0; bytes = 0 } → l ≡ out → length out < 20 + length (bytes_of_all ps)
      → Writes (written_over out (order_bytes whole h is)) l w
  write_full w l a b g =
      writes_as (over_full out (order_bytes whole h is) (omega (arith, g, order_length))) (record { said = a; output = b })

  module _ (l₁ l₂ : List ℕ) (e₁ : l₁ ≡ sets out 0 (joined bytes_of h)) (e₂ : l₂ ≡ sets l₁ 20 (bytes_of_all ps)) where
    -- the output with header and instructions
    end_out : l₂ ≡ laid_over out (order_bytes whole h is)
    unfolding laid_over order_bytes
    end_out =
        e₂
        ∙ ap (λ (z : List ℕ). sets z 20 (bytes_of_all ps)) e₁
        ∙ ap (λ (qs : List Placed). sets (sets out 0 (joined bytes_of h)) 20 (bytes_of_all qs)) (sym o)
        ∙ ap (λ (k : ℕ). sets (sets out 0 (joined bytes_of h)) k (bytes_of_all (ordered whole is))) (sym (omega (arith, length_header h five)))
        ∙ sets_append (joined bytes_of h) (bytes_of_all (ordered whole is)) out 0

    -- "Output past the bytes written stays"
    pub write_done : (n : ℕ) → n ≡ 20 + length (bytes_of_all ps) → n ≤ length out
        → Writes (written_over out (order_bytes whole h is)) l₂ (record { number = 0; index = 0; bytes = n })
    write_done n e g =
        writes_as (over_done out (order_bytes whole h is) (omega (arith, e, g, order_length)))
        (record { said = ap (λ (k : ℕ). record { number = 0; index = 0; bytes = k }) (e ∙ sym order_length); output = end_out })

-- STORES CUT AT THEIR COUNTS

module _ (ws log strings : List ℕ) (count lc sc : ℕ) (in_log : lc ≤ length log) (in_strings : sc ≤ length strings) where
  -- the scan is the same
  cut_scan : scan_of record_size (full_stores ws (take lc log) (take sc strings) count) ≡ scan_of record_size (given ws log strings count lc sc)
  cut_scan =
      let a = take lc log in
      let b = take sc strings in
      ap (λ (l : List ℕ). scan_from (length a) (length b) 1 (record { log_at = 0; log = l; strings_at = 0; strings = take (length b) b }) (records_of record_size count ws)) (take-length a)
      ∙ ap (λ (l : List ℕ). scan_from (length a) (length b) 1 (record { log_at = 0; log = a; strings_at = 0; strings = l }) (records_of record_size count ws)) (take-length b)
      ∙ ap (λ (n : ℕ). scan_from n (length b) 1 (record { log_at = 0; log = a; strings_at = 0; strings = b }) (records_of record_size count ws)) (length-take-le lc log in_log)
      ∙ ap (λ (n : ℕ). scan_from lc n 1 (record { log_at = 0; log = a; strings_at = 0; strings = b }) (records_of record_size count ws)) (length-take-le sc strings in_strings)

  -- so are the instructions
  cut_instrs : instrs_of ws (take lc log) (take sc strings) count ≡ (scan_of record_size (given ws log strings count lc sc)).instrs
  unfolding instrs_of
  cut_instrs = ap (λ (x : Scan). x.instrs) cut_scan

  -- and they are good
  cut_good : Good (given ws log strings count lc sc) → GoodStores ws (take lc log) (take sc strings) count
  unfolding Good GoodStores fault_of
  cut_good g =
      ap
      (λ (x : Scan). lower (missing count (records_of record_size count ws)) (lower (fields_fault 1 20 (records_of record_size count ws)) (lower x.fault (tags_fault false 1 Outside (records_of record_size count ws)))))
      cut_scan
      ∙ g

module _ (whole : Bool) (ws log strings : List ℕ) (count lc sc : ℕ) (r : Option ℕ) (e : r ≡ fault_of record_size whole (given ws log strings count lc sc)) where
  module _ (q : r ≡ None) where
    -- the log's count lies in the log
    pub cut_log : lc ≡ length (take lc log)
    cut_log = sym (length-take-le lc log (good_counts (given ws log strings count lc sc) (good_by whole (given ws log strings count lc sc) r e q)).0)

    -- the strings' in the strings
    pub cut_strings : sc ≡ length (take sc strings)
    cut_strings = sym (length-take-le sc strings (good_counts (given ws log strings count lc sc) (good_by whole (given ws log strings count lc sc) r e q)).1)

    -- the stores that are lent are good
    pub lent_good : GoodStores ws (take lc log) (take sc strings) count
    lent_good =
        let g = good_by whole (given ws log strings count lc sc) r e q in
        let c = good_counts (given ws log strings count lc sc) g in
        cut_good ws log strings count lc sc c.0 c.1 g

    -- the check gives their instructions
    pub lent_check : check record_size whole (given ws log strings count lc sc) ≡ good (instrs_of ws (take lc log) (take sc strings) count)
    lent_check =
        let c = good_counts (given ws log strings count lc sc) (good_by whole (given ws log strings count lc sc) r e q) in
        check_is_good whole (given ws log strings count lc sc) r e q ∙ ap good (sym (cut_instrs ws log strings count lc sc c.0 c.1))

    -- what is written of them is what is asked for
    lent_is : (h out : List ℕ) → written_over out (order_bytes whole h (instrs_of ws (take lc log) (take sc strings) count)) ≡ write_order whole h (given ws log strings count lc sc) out
    unfolding written_over write_order
    lent_is h out = ap (λ (x : Checked). write_by x (order_bytes whole h) out) (sym lent_check)

    -- good records are written
    pub order_good : (h out : List ℕ) (w : Written) (out' : List ℕ)
        → Writes (written_over out (order_bytes whole h (instrs_of ws (take lc log) (take sc strings) count))) out' w
        → Writes (write_order whole h (given ws log strings count lc sc) out) out' w
    order_good h out w out' = writes_as (lent_is h out)

  -- "first 30 for records that break the store layout"
  pub order_bad : (i : ℕ) → r ≡ Some i → (h out : List ℕ)
      → Writes (write_order whole h (given ws log strings count lc sc) out) out (record { number = 30; index = i; bytes = 0 })
  unfolding write_order
  order_bad i q h out = rw (check_is_bad whole (given ws log strings count lc sc) r i e q) (record { said = refl; output = refl })

-- THE WRITERS

-- parse order
pub parse_is : (h : List ℕ) (x : Given) (out : List ℕ) → write_order false h x out ≡ write_parse h x out
unfolding write_order write_parse parse_bytes order_bytes ordered
parse_is h x out = refl

-- module order
module_order_is : (h : List ℕ) (x : Given) (out : List ℕ) → write_order true (module_header h) x out ≡ write_module h x out
unfolding write_order write_module module_bytes order_bytes ordered
module_order_is h x out = refl

-- module order, under its header
pub module_order_by : (h h' : List ℕ) → h' ≡ module_header h → (x : Given) (out : List ℕ) → write_order true h' x out ≡ write_module h x out
module_order_by h h' e x out = ap (λ (z : List ℕ). write_order true z x out) e ∙ module_order_is h x out
