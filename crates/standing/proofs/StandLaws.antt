-- Standing as one pass: the instructions that checked records say stand where each tag may come after those before it.
use Prim.Native.Nat.compare
use Prim.Native.Nat.{ℕ, suc, min, ◌+◌, ◌*◌, ◌<◌, ◌≤◌}
use mathlib.Core.Path.{◌≡◌, refl, ap, sym, ◌∙◌}
use mathlib.Core.Bool.{Bool, true, false, not, ◌&&◌, ◌||◌}
use mathlib.Core.List.{List, ◌∷◌}
use native.Mathlib.Omega.{arith}
use native.Mathlib.Numerals.{add-one}
use borrow.Author.Tests.{leb-true, leb-false, ne_eqb}
use lib.Dec.{leb, eqb}
use lib.ListN.{length, drop}
use lib.Seq.{drop-length}
use Rattle.spec.specs.declared.Fields.{Fields}
use Rattle.std.specs.Prelude.{if◌then◌else◌}
use Rattle.spec.specs.Base.{only}
use Rattle.spec.specs.Records.{Placed, record_size, fields_at}
use Rattle.spec.specs.Check.{Given, good, check, fault_of, placed_of, scan_of}
use Rattle.spec.specs.Write.{has_tag, never_falls, parameters_first, bodies, declarations_first, is_standing, standing}
use Rattle.records.specs.Good.{Good}
use Rattle.records.proofs.Good.{good_by, good_at, good_length, check_is_good, check_is_bad}
use Rattle.standing.specs.declared.Order.{Order}
use Rattle.standing.specs.Stand.{may_come, order_after, stands_after}
use Rattle.std.specs.Prelude.{None, Option, Some}

-- THE ORDER AFTER A TAG

-- the tag before, by whether the tag is a section's
before_is : (t : ℕ) (b : Bool) → leb t 11 ≡ b → min t 12 ≡ (if b then t else 12)
before_is t true e = omega (arith, leb-true t 11 e)
before_is t false e = omega (arith, leb-false t 11 e)

-- after a tag
pub after_tag : (o : Order) (t before : ℕ) → before ≡ min t 12
    → record {
      before = before;
      label = not (eqb t 12) && (o.label || eqb t 14);
      model = o.model || eqb t 4;
      body = o.body || (eqb t 16 && o.label);
    }
    ≡ order_after o t
unfolding order_after
after_tag o t before e = rw (e ∙ before_is t (leb t 11) refl)

-- ONE INSTRUCTION

-- a MemoryModel, where one came or not
model_more : (e m : Bool) (p : Placed) (l : List Placed)
    → eqb (length (if e then p ∷ l else l)) (if m then 0 else 1) ≡ (not (e && m) && eqb (length l) (if m || e then 0 else 1))
model_more true true p l = ne_eqb (suc (length l)) 0 (λ z. omega arith)
model_more true false p l = rw (compare.suc-suc (length l) 0)
model_more false true p l = refl
model_more false false p l = refl

-- the end of a function, where a label came in it or not, and one with a body before it or not
body_more : (e label body : Bool) (bs : List Bool)
    → declarations_first body (if e then label ∷ bs else bs)
    ≡ (not (e && (not label && body)) && declarations_first (body || (e && label)) bs)
unfolding declarations_first
body_more true true body bs = refl
body_more true false body bs = refl
body_more false label true bs = refl
body_more false label false bs = refl

-- two tests change over
swap : (a b c d : Bool) → (a && b && (c && d)) ≡ (a && c && (b && d))
swap true true c d = refl
swap true false true d = refl
swap true false false d = refl
swap false b c d = refl

-- four tests of the first before those of the rest
regroup : (f q s e F P L D : Bool) → (f && F && (q && P) && (s && L) && (e && D)) ≡ (f && q && s && e && (F && P && L && D))
regroup f q s e F P L D =
    ap (λ (b : Bool). b && (s && L) && (e && D)) (swap f F q P)
    ∙ ap (λ (b : Bool). b && (e && D)) (swap (f && q) (F && P) s L)
    ∙ swap (f && q && s) (F && P && L) e D

-- instructions stand where the first may come, and the others stand after it
stands_more : (o : Order) (p : Placed) (ps : List Placed)
    → stands_after o (p ∷ ps) ≡ (may_come o p.tag && stands_after (order_after o p.tag) ps)
unfolding stands_after may_come order_after never_falls parameters_first bodies
stands_more o p ps =
    let tags : Bool = never_falls o.before (p ∷ ps) && parameters_first o.label (p ∷ ps) in
    let models : Bool = not (has_tag 4 p && o.model) && eqb (length (only (has_tag 4) ps)) (if o.model || has_tag 4 p then 0 else 1) in
    let label : Bool = not (has_tag 12 p) && (o.label || has_tag 14 p) in
    ap (λ (b : Bool). tags && b && declarations_first o.body (bodies o.label (p ∷ ps)))
    (model_more (has_tag 4 p) o.model p (only (has_tag 4) ps))
    ∙ ap (λ (b : Bool). tags && models && b)
    (body_more (has_tag 16 p) o.label o.body (bodies label ps))
    ∙ regroup (leb 12 p.tag || leb o.before p.tag) (not (has_tag 13 p && o.label)) (not (has_tag 4 p && o.model)) _ _ _ _ _

-- THE PASS

-- good records of which some are passed: all stand where those that are left stand after them
pub record Passing (x : Given) (o : Order) (i : ℕ) : Type 0 where
  pub checked : check record_size true x ≡ good (scan_of record_size x).instrs
  pub good_x : Good x
  pub within : i ≤ x.count
  pub whole : is_standing (scan_of record_size x).instrs ≡ stands_after o (drop i (scan_of record_size x).instrs)

-- a yes or no, where the check is passed
stands_by_lem : (x : Given) (is : List Placed) → check record_size true x ≡ good is → (b : Bool) → is_standing is ≡ b
    → record { number = 0; index = 0; yes = b } ≡ standing x
unfolding standing
stands_by_lem x is e b h = rw (e, h)

-- where the check finds a fault
pub stands_bad : (x : Given) (r : Option ℕ) (i : ℕ) → r ≡ fault_of record_size true x → r ≡ Some i
    → record { number = 30; index = i; yes = false } ≡ standing x
unfolding standing
stands_bad x r i e q = rw (check_is_bad true x r i e q)

-- before the first record
pub pass_starts : (x : Given) (r : Option ℕ) → r ≡ fault_of record_size true x → r ≡ None
    → Passing x (record { before = 0; label = false; model = false; body = false }) 0
unfolding is_standing stands_after
pass_starts x r e q =
    record { checked = check_is_good true x r e q; good_x = good_by true x r e q; within = omega arith; whole = refl }

module _ {x : Given} {o : Order} {i : ℕ} (w : Passing x o i) where
  -- the record is in the store
  pub in_store_lem : i < x.count → record_size * i + record_size ≤ length x.instructions
  in_store_lem h = (good_at x w.good_x i h).in_store

  -- the records stand where this one's tag may come, and those after it stand
  whole_more : i < x.count → (f : Fields) → f ≡ fields_at (drop (record_size * i) x.instructions)
      → is_standing (scan_of record_size x).instrs
      ≡ (may_come o f.tag && stands_after (order_after o f.tag) (drop (suc i) (scan_of record_size x).instrs))
  unfolding placed_of
  whole_more h f e =
      let s = (good_at x w.good_x i h).said in
      let more : List Placed = drop (suc i) (scan_of record_size x).instrs in
      w.whole
      ∙ ap (stands_after o) s.here
      ∙ stands_more o s.next.0 more
      ∙ ap (λ (k : ℕ). may_come o k && stands_after (order_after o k) more)
      (ap (λ (p : Placed). p.tag) s.said.is ∙ ap (λ (g : Fields). g.tag) (sym e))

  -- a tag that may not come: no
  pub pass_stops : i < x.count → (f : Fields) → f ≡ fields_at (drop (record_size * i) x.instructions)
      → may_come o f.tag ≡ false → record { number = 0; index = 0; yes = false } ≡ standing x
  pass_stops h f e n = stands_by_lem x (scan_of record_size x).instrs w.checked false (whole_more h f e ∙ rw n)

  -- one that may: on
  pub pass_goes_on : i < x.count → (f : Fields) → f ≡ fields_at (drop (record_size * i) x.instructions)
      → may_come o f.tag ≡ true → (o' : Order) → o' ≡ order_after o f.tag → Passing x o' (i + 1)
  pass_goes_on h f e y o' q = record {
    checked = w.checked;
    good_x = w.good_x;
    within = omega arith;
    whole = whole_more h f e ∙ rw (y, q, add-one i);
  }

  -- after the last record: yes, where a MemoryModel came
  pub pass_ends : x.count ≤ i → record { number = 0; index = 0; yes = o.model } ≡ standing x
  unfolding stands_after never_falls parameters_first bodies declarations_first
  pass_ends h =
      let n : i ≡ length (scan_of record_size x).instrs = omega (arith, w.within, good_length x w.good_x) in
      stands_by_lem x (scan_of record_size x).instrs w.checked o.model
      (w.whole
      ∙ ap (λ (k : ℕ). stands_after o (drop k (scan_of record_size x).instrs)) n
      ∙ ap (stands_after o) (drop-length (scan_of record_size x).instrs)
      ∙ none_left_lem o.model)
    where
      -- none is to come where one came
      none_left_lem : (m : Bool) → (eqb 0 (if m then 0 else 1) && true) ≡ m
      none_left_lem true = refl
      none_left_lem false = refl
