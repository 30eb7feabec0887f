-- Laws of an instruction's line.
use Prim.Native.Nat.{ℕ, zero, suc, ◌+◌, ◌-◌, ◌%◌, ◌<◌, ◌≤◌}
use mathlib.Core.Path.{◌≡◌, refl, ap, sym, subst, ◌∙◌}
use mathlib.Core.Bool.{Bool, true, false, not, ◌&&◌, ◌||◌}
use mathlib.Core.List.{List, [], ◌∷◌, ◌++◌, append_assoc}
use Rattle.std.specs.Prelude.{Option, None, Some}
use Rattle.std.proofs.lemmas.Option.{none-some}
use native.Mathlib.Omega.{arith}
use borrow.Author.Tests.{eqb-true, eqb-false, ne_eqb, ltb-true, ltb-false, lt-ltb}
use lib.Dec.{leb, ltb, eqb}
use lib.ListN.{length, take, drop, get_or}
use Rattle.spec.specs.declared.Fields.{Fields}
use Rattle.std.specs.Prelude.{if◌then◌else◌}
use Rattle.spec.specs.Base.{has, or_zero, and_then, ascii}
use Rattle.spec.specs.Words.{four_at}
use Rattle.spec.specs.Kinds.{is_long}
use Rattle.spec.specs.Names.{name_of}
use Rattle.spec.specs.Records.{Operand, narrow, wide, text, Placed}
use Rattle.spec.specs.Check.{bits_in, field_in, placed_of}
use Rattle.spec.specs.Disassembly.{id_text, name_text, set_of, name_by, ext_name, spaced, spaced_by, operands_text, result_text, type_text, instr_text}
use Rattle.lookup.specs.Find.{text_found, Inside}
use Rattle.operand.specs.Parts.{is_two}
use Rattle.records.specs.Good.{operand_by, operand_at}
use Rattle.records.proofs.Good.{operand_is}
use Rattle.spelled.specs.Spelled.{Readable, AllReadable, operand_after, operands_from, said_by}
use Rattle.pieces.specs.Putting.{type_by}
use Rattle.line.specs.Named.{name_in}
use Rattle.pieces.proofs.Texts.{readable_more}
use Rattle.imports.proofs.Sets.{set_zero, set_there}

-- RESULTS

-- a result id
pub result_yes : (t : Bool) (id : ℕ) → t ≡ true → result_text (field_in t id) ≡ id_text id ++ ascii " = "
unfolding result_text
result_yes t id e = rw e

-- none
pub result_no : (t : Bool) (id : ℕ) → t ≡ false → [] ≡ result_text (field_in t id)
unfolding result_text
result_no t id e = rw e

-- no result type
pub type_none : (t : Bool) (id : ℕ) (more : Bool) → not t ≡ true → [] ≡ type_by (field_in t id) more
unfolding type_by
type_none true id more e = let z : ◌≡◌ {A = ℕ} 0 1 = cc in absurd (omega arith)
type_none false id more e = refl

-- a result type, before operands or none
pub type_is : (t : Bool) (id : ℕ) (more : Bool) → not t ≡ false → type_by (field_in t id) more ≡ ascii "  " ++ (id_text id ++ (if more then ascii " " else []))
unfolding type_by
type_is true id more e = refl
type_is false id more e = let z : ◌≡◌ {A = ℕ} 0 1 = cc in absurd (omega arith)

-- before operands
pub blank_yes : (more : Bool) → more ≡ true → 32 ∷ [] ≡ (if more then ascii " " else [])
blank_yes more e = rw e

-- before none
pub blank_no : (more : Bool) → more ≡ false → [] ≡ (if more then ascii " " else [])
blank_no more e = rw e

-- THE LINE

-- are there operands
has_some : (n : ℕ) (log strings : List ℕ) (a : ℕ) → has 1 (operands_from n log strings a) ≡ ltb 0 n
unfolding operands_from
has_some zero log strings a = refl
has_some (suc n) log strings a = sym (lt-ltb 0 (suc n) (omega arith))

-- the result type's text
type_text_lem : (t : Option ℕ) (os : List Operand) (more : Bool) → has 1 os ≡ more → type_by t more ≡ type_text t os
unfolding type_by type_text
type_text_lem None os more e = refl
type_text_lem (Some i) os more e = ap (λ (b : Bool). ascii "  " ++ id_text i ++ (if b then ascii " " else [])) (sym e)

-- five pieces, one after the other
pieces : (r n t o : List ℕ) → r ++ ascii "Op" ++ n ++ t ++ o ≡ r ++ ((79 ∷ 112 ∷ []) ++ (n ++ (t ++ o)))
pieces r n t o =
    append_assoc (r ++ ascii "Op" ++ n) t o
    ∙ append_assoc (r ++ ascii "Op") n (t ++ o)
    ∙ append_assoc r (ascii "Op") (n ++ (t ++ o))

-- its pieces
pub line_is : (is : List Placed) (log strings : List ℕ) (f : Fields)
    → ascii "\n" ++ instr_text is (said_by log strings f)
    ≡ (10 ∷ []) ++ (result_text (field_in (leb 2 (bits_in f)) f.rid)
    ++ ((79 ∷ 112 ∷ []) ++ (name_text 0 (f.head % 65536) ++ (type_by (field_in (eqb (bits_in f % 2) 1) f.rtype) (ltb 0 f.count) ++ operands_text is (said_by log strings f)))))
unfolding instr_text said_by placed_of
line_is is log strings f =
    ap (λ (z : List ℕ). 10 ∷ z) (pieces (result_text (field_in (leb 2 (bits_in f)) f.rid)) (name_text 0 (f.head % 65536)) _ _)
    ∙ ap (λ (z : List ℕ). (10 ∷ []) ++ (result_text (field_in (leb 2 (bits_in f)) f.rid) ++ ((79 ∷ 112 ∷ []) ++ (name_text 0 (f.head % 65536) ++ (z ++ operands_text is (placed_of f (operands_from f.count log strings f.start)))))))
    (sym (type_text_lem (field_in (eqb (bits_in f % 2) 1) f.rtype) (operands_from f.count log strings f.start) (ltb 0 f.count) (has_some f.count log strings f.start)))

-- THE NAME OF AN EXTENDED INSTRUCTION

-- the operands by it
pub operands_none : (is : List Placed) (log strings : List ℕ) (f : Fields) (run : List ℕ) (r : Option (ℕ × ℕ)) → text_found run r ≡ name_in is (said_by log strings f) → r ≡ None
    → spaced (operands_from f.count log strings f.start) ≡ operands_text is (said_by log strings f)
unfolding operands_text name_in text_found spaced_by said_by placed_of
operands_none is log strings f run r e q =
    ap (λ (n : Option (List ℕ)). spaced_by n (operands_from f.count log strings f.start)) (sym (ap (text_found run) q) ∙ e)

-- with a name
operands_named : (is : List Placed) (log strings : List ℕ) (f : Fields) (run : List ℕ) (r : Option (ℕ × ℕ)) (start end : ℕ) → text_found run r ≡ name_in is (said_by log strings f) → r ≡ Some (start, end)
    → spaced_by (Some (take (end - start) (drop start run))) (operands_from f.count log strings f.start) ≡ operands_text is (said_by log strings f)
unfolding operands_text name_in text_found said_by placed_of
operands_named is log strings f run r start end e q =
    ap (λ (n : Option (List ℕ)). spaced_by n (operands_from f.count log strings f.start)) (sym (ap (text_found run) q) ∙ e)

-- one operand
one_first : (log strings : List ℕ) (a : ℕ) → operands_from 1 log strings a ≡ operand_at log strings a ∷ []
unfolding operands_from
one_first log strings a = refl

-- it can be read
one_readable : (log strings : List ℕ) (a : ℕ) → Readable log strings a → AllReadable 1 log strings a
unfolding AllReadable
one_readable log strings a r = (r, tt)

-- two are one at least, and one less is one at least
few_two : {n : ℕ} → 2 ≤ n → 0 < n
few_two h = omega arith

few_one : {n : ℕ} → 2 ≤ n → 0 < n - 1
few_one h = omega arith

-- two operands come first
two_first : (n : ℕ) (log strings : List ℕ) (a : ℕ) → 2 ≤ n
    → operands_from n log strings a ≡ operand_at log strings a ∷ operand_at log strings (operand_after log a) ∷ operands_from (n - 2) log strings (operand_after log (operand_after log a))
unfolding operands_from
two_first zero log strings a h = absurd (omega arith)
two_first (suc zero) log strings a h = absurd (omega arith)
two_first (suc (suc n)) log strings a h =
    let q : n ≡ suc (suc n) - 2 = omega arith in
    ap (λ (k : ℕ). operand_at log strings a ∷ operand_at log strings (operand_after log a) ∷ operands_from k log strings (operand_after log (operand_after log a))) q

-- an operand of one word
narrow_is : (log strings : List ℕ) (a k : ℕ) → get_or log a 0 ≡ k → is_two k ≡ false → operand_at log strings a ≡ narrow k (four_at (a + 1) log)
unfolding operand_by
narrow_is log strings a k e t =
    sym (operand_is log strings a false (is_long (get_or log a 0)) (ap is_two e ∙ t) refl) ∙ ap (λ (j : ℕ). narrow j (four_at (a + 1) log)) e

-- the place after one
after_is : (log : List ℕ) (a k : ℕ) → get_or log a 0 ≡ k → is_two k ≡ false → operand_after log a ≡ a + 5
unfolding operand_after
after_is log a k e t = rw (ap is_two e ∙ t)

-- by tests of which one fails
fails_left : (t u : Bool) (x : Option (List ℕ)) → t ≡ false → (if t && u then x else None) ≡ None
fails_left t u x e = rw e

fails_right : (t u : Bool) (x : Option (List ℕ)) → u ≡ false → (if t && u then x else None) ≡ None
fails_right true u x e = rw e
fails_right false u x e = refl

-- the first is no id
first_other : (is : List Placed) (log strings : List ℕ) (a : ℕ) (p : Operand) (os : List Operand) → (get_or log a 0 ≡ 33 → ⊥) → ext_name is (operand_at log strings a ∷ p ∷ os) ≡ None
unfolding operand_by ext_name
first_other is log strings a p os n = by (is_two (get_or log a 0)) (is_long (get_or log a 0)) refl refl p
  where
    by : (t u : Bool) → is_two (get_or log a 0) ≡ t → is_long (get_or log a 0) ≡ u → (p : Operand) → ext_name is (operand_at log strings a ∷ p ∷ os) ≡ None
    by false u e f (narrow j v) = ap (λ (o : Operand). ext_name is (o ∷ narrow j v ∷ os)) (sym (operand_is log strings a false u e f)) ∙ fails_left (eqb (get_or log a 0) 33) (eqb j 35) _ (ne_eqb (get_or log a 0) 33 n)
    by false u e f (wide j v) = ap (λ (o : Operand). ext_name is (o ∷ wide j v ∷ os)) (sym (operand_is log strings a false u e f))
    by false u e f (text s) = ap (λ (o : Operand). ext_name is (o ∷ text s ∷ os)) (sym (operand_is log strings a false u e f))
    by true true e f p = ap (λ (o : Operand). ext_name is (o ∷ p ∷ os)) (sym (operand_is log strings a true true e f))
    by true false e f p = ap (λ (o : Operand). ext_name is (o ∷ p ∷ os)) (sym (operand_is log strings a true false e f))

-- the second is no number of an instruction
second_other : (is : List Placed) (log strings : List ℕ) (b k v : ℕ) (os : List Operand) → (get_or log b 0 ≡ 35 → ⊥) → ext_name is (narrow k v ∷ operand_at log strings b ∷ os) ≡ None
unfolding operand_by ext_name
second_other is log strings b k v os n = by (is_two (get_or log b 0)) (is_long (get_or log b 0)) refl refl
  where
    by : (t u : Bool) → is_two (get_or log b 0) ≡ t → is_long (get_or log b 0) ≡ u → ext_name is (narrow k v ∷ operand_at log strings b ∷ os) ≡ None
    by false u e f = ap (λ (o : Operand). ext_name is (narrow k v ∷ o ∷ os)) (sym (operand_is log strings b false u e f)) ∙ fails_right (eqb k 33) (eqb (get_or log b 0) 35) _ (ne_eqb (get_or log b 0) 35 n)
    by true true e f = ap (λ (o : Operand). ext_name is (narrow k v ∷ o ∷ os)) (sym (operand_is log strings b true true e f))
    by true false e f = ap (λ (o : Operand). ext_name is (narrow k v ∷ o ∷ os)) (sym (operand_is log strings b true false e f))

module _ (is : List Placed) (log strings : List ℕ) (a n : ℕ) (h : 2 ≤ n) where
  -- the first is no id
  pub ext_first : (get_or log a 0 ≡ 33 → ⊥) → ext_name is (operands_from n log strings a) ≡ None
  ext_first k = ap (ext_name is) (two_first n log strings a h) ∙ first_other is log strings a _ _ k

  module _ (k : get_or log a 0 ≡ 33) where
    -- the second stands behind it
    second_at : operands_from n log strings a ≡ narrow 33 (four_at (a + 1) log) ∷ operand_at log strings (a + 5) ∷ operands_from (n - 2) log strings (operand_after log (a + 5))
    second_at =
        two_first n log strings a h
        ∙ ap (λ (b : ℕ). operand_at log strings a ∷ operand_at log strings b ∷ operands_from (n - 2) log strings (operand_after log b)) (after_is log a 33 k refl)
        ∙ ap (λ (o : Operand). o ∷ operand_at log strings (a + 5) ∷ operands_from (n - 2) log strings (operand_after log (a + 5))) (narrow_is log strings a 33 k refl)

    -- it is no number
    pub ext_second : (get_or log (a + 5) 0 ≡ 35 → ⊥) → ext_name is (operands_from n log strings a) ≡ None
    ext_second j = ap (ext_name is) second_at ∙ second_other is log strings (a + 5) 33 (four_at (a + 1) log) _ j

    module _ (j : get_or log (a + 5) 0 ≡ 35) where
      -- both are
      both_at : operands_from n log strings a ≡ narrow 33 (four_at (a + 1) log) ∷ narrow 35 (four_at (a + 6) log) ∷ operands_from (n - 2) log strings (a + 10)
      both_at =
          let p : a + 5 + 1 ≡ a + 6 = omega arith in
          let q : a + 5 + 5 ≡ a + 10 = omega arith in
          second_at
          ∙ ap (λ (o : Operand). narrow 33 (four_at (a + 1) log) ∷ o ∷ operands_from (n - 2) log strings (operand_after log (a + 5))) (narrow_is log strings (a + 5) 35 j refl)
          ∙ ap (λ (b : ℕ). narrow 33 (four_at (a + 1) log) ∷ narrow 35 (four_at (a + 5 + 1) log) ∷ operands_from (n - 2) log strings b) (after_is log (a + 5) 35 j refl ∙ q)
          ∙ ap (λ (b : ℕ). narrow 33 (four_at (a + 1) log) ∷ narrow 35 (four_at b log) ∷ operands_from (n - 2) log strings (a + 10)) p

      -- the name by the set
      pub ext_both : ext_name is (operands_from n log strings a) ≡ name_by is (four_at (a + 1) log) (four_at (a + 6) log)
      unfolding ext_name
      ext_both = ap (ext_name is) both_at

-- two operands lie in the log
pub two_inside : (n : ℕ) (log strings : List ℕ) (a : ℕ) → 2 ≤ n → AllReadable n log strings a → a + 10 ≤ length log
unfolding operand_after
two_inside n log strings a h r =
    let x = readable_more n log strings a (few_two h) r in
    let y = readable_more (n - 1) log strings (operand_after log a) (few_one h) x.1 in
    omega (arith, y.0.whole.five, far (is_two (get_or log a 0)))
  where
    far : (t : Bool) → a + 5 ≤ (if t then a + 9 else a + 5)
    far true = omega arith
    far false = omega arith

-- nothing lies anywhere
pub inside_none : (n : ℕ) → Inside None n
unfolding Inside
inside_none n = tt

-- NAMES BY THE TESTS OF THE CODE

-- an OpExtInst in a block, of two operands
record Extended (o t c : Bool) : Type 0 where
  pub opcode : o ≡ true
  pub block : t ≡ true
  pub two : c ≡ false

extended : (o t c : Bool) → ((not o || not t) || c) ≡ false → Extended o t c
extended true true false e = record { opcode = refl; block = refl; two = refl }
extended true true true e = let y : ◌≡◌ {A = ℕ} 0 1 = cc in absurd (omega arith)
extended true false c e = let y : ◌≡◌ {A = ℕ} 0 1 = cc in absurd (omega arith)
extended false t c e = let y : ◌≡◌ {A = ℕ} 0 1 = cc in absurd (omega arith)

-- few operands have no name
ext_few : (is : List Placed) (n : ℕ) (log strings : List ℕ) (a : ℕ) → n < 2 → ext_name is (operands_from n log strings a) ≡ None
unfolding operands_from ext_name
ext_few is zero log strings a h = refl
ext_few is (suc zero) log strings a h = refl
ext_few is (suc (suc n)) log strings a h = absurd (omega arith)

module _ (is : List Placed) (log strings : List ℕ) (f : Fields) where
  -- by the tests
  name_by_lem : (o t : Bool) (x : Option (List ℕ)) → eqb (f.head % 65536) 12 ≡ o → eqb f.tag 15 ≡ t → ext_name is (operands_from f.count log strings f.start) ≡ x
      → (if o && t then x else None) ≡ name_in is (said_by log strings f)
  unfolding name_in said_by placed_of
  name_by_lem o t x a b c = rw (a, b, c)

  -- no such instruction
  pub name_off : (run : List ℕ) → ((not (eqb (f.head % 65536) 12) || not (eqb f.tag 15)) || ltb f.count 2) ≡ true → text_found run None ≡ name_in is (said_by log strings f)
  unfolding text_found
  name_off run e = by (eqb (f.head % 65536) 12) (eqb f.tag 15) (ltb f.count 2) refl refl refl e
    where
      by : (o t c : Bool) → eqb (f.head % 65536) 12 ≡ o → eqb f.tag 15 ≡ t → ltb f.count 2 ≡ c → ((not o || not t) || c) ≡ true → None ≡ name_in is (said_by log strings f)
      by false t c p q s e = name_by_lem false t _ p q refl
      by true false c p q s e = name_by_lem true false _ p q refl
      by true true true p q s e = name_by_lem true true None p q (ext_few is f.count log strings f.start (ltb-true f.count 2 s))
      by true true false p q s e = let y : ◌≡◌ {A = ℕ} 0 1 = cc in absurd (omega arith)

  module _ (e : ((not (eqb (f.head % 65536) 12) || not (eqb f.tag 15)) || ltb f.count 2) ≡ false) where
    ext : Extended (eqb (f.head % 65536) 12) (eqb f.tag 15) (ltb f.count 2)
    ext = extended _ _ _ e

    -- two operands at least
    pub name_two : 2 ≤ f.count
    name_two = ltb-false f.count 2 ext.two

    -- it is the one of its operands
    name_of_lem : (x : Option (List ℕ)) → ext_name is (operands_from f.count log strings f.start) ≡ x → x ≡ name_in is (said_by log strings f)
    name_of_lem x g = name_by_lem true true x ext.opcode ext.block g

    -- the first two are of other kinds
    pub name_kinds : (run : List ℕ) → (not (eqb (get_or log f.start 0) 33) || not (eqb (get_or log (f.start + 5) 0) 35)) ≡ true → text_found run None ≡ name_in is (said_by log strings f)
    unfolding text_found
    name_kinds run g = by (eqb (get_or log f.start 0) 33) (eqb (get_or log (f.start + 5) 0) 35) refl refl g
      where
        by : (k j : Bool) → eqb (get_or log f.start 0) 33 ≡ k → eqb (get_or log (f.start + 5) 0) 35 ≡ j → (not k || not j) ≡ true → None ≡ name_in is (said_by log strings f)
        by false j p q g = name_of_lem None (ext_first is log strings f.start f.count name_two (eqb-false _ _ p))
        by true false p q g = name_of_lem None (ext_second is log strings f.start f.count name_two (eqb-true _ _ p) (eqb-false _ _ q))
        by true true p q g = let y : ◌≡◌ {A = ℕ} 0 1 = cc in absurd (omega arith)

    module _ (g : (not (eqb (get_or log f.start 0) 33) || not (eqb (get_or log (f.start + 5) 0) 35)) ≡ false) where
      -- the kinds
      kinds : (get_or log f.start 0 ≡ 33) × (get_or log (f.start + 5) 0 ≡ 35)
      kinds = by (eqb (get_or log f.start 0) 33) (eqb (get_or log (f.start + 5) 0) 35) refl refl g
        where
          by : (k j : Bool) → eqb (get_or log f.start 0) 33 ≡ k → eqb (get_or log (f.start + 5) 0) 35 ≡ j → (not k || not j) ≡ false → (get_or log f.start 0 ≡ 33) × (get_or log (f.start + 5) 0 ≡ 35)
          by true true p q g = (eqb-true _ _ p, eqb-true _ _ q)
          by true false p q g = let y : ◌≡◌ {A = ℕ} 0 1 = cc in absurd (omega arith)
          by false j p q g = let y : ◌≡◌ {A = ℕ} 0 1 = cc in absurd (omega arith)

      -- the name by the set of the id
      by_set : name_by is (four_at (f.start + 1) log) (four_at (f.start + 6) log) ≡ name_in is (said_by log strings f)
      by_set = name_of_lem _ (ext_both is log strings f.start f.count name_two kinds.0 kinds.1)

      module _ (id s : ℕ) (i : id ≡ four_at (f.start + 1) log) (q : s ≡ or_zero (set_of id is)) where
        -- no set
        pub name_setless : (run : List ℕ) → s ≡ 0 → text_found run None ≡ name_in is (said_by log strings f)
        unfolding text_found name_by
        name_setless run z =
            sym (ap (λ (x : Option ℕ). and_then x (λ set. name_of set (four_at (f.start + 6) log))) (set_zero (four_at (f.start + 1) log) is (sym (ap (λ (k : ℕ). or_zero (set_of k is)) i) ∙ sym q ∙ z)))
            ∙ by_set

        -- a set
        pub name_set : (run : List ℕ) (r : Option (ℕ × ℕ)) (m : ℕ) → (s ≡ 0 → ⊥) → m ≡ four_at (f.start + 6) log → text_found run r ≡ name_of s m → text_found run r ≡ name_in is (said_by log strings f)
        unfolding name_by
        name_set run r m z w t =
            t ∙ ap (name_of s) w
            ∙ sym (ap (λ (x : Option ℕ). and_then x (λ set. name_of set (four_at (f.start + 6) log))) (set_there s (set_of (four_at (f.start + 1) log) is) (q ∙ ap (λ (k : ℕ). or_zero (set_of k is)) i) z))
            ∙ by_set

-- some is not none
some_none : {A : Type 0} (x : List ℕ) (y : Option (List ℕ)) → Some x ≡ y → y ≡ None → A
some_none x y e f = absurd (none-some x (sym (e ∙ f)))

-- what a name that is there tells of the operands: there are two, and where the next stand
pub record Third (log : List ℕ) (f : Fields) : Type 0 where
  pub two : 2 ≤ f.count
  pub second : operand_after log f.start ≡ f.start + 5
  pub third : operand_after log (f.start + 5) ≡ f.start + 10

-- it is that of the operands
ext_there : (b : Bool) (x : List ℕ) (y : Option (List ℕ)) → Some x ≡ (if b then y else None) → Some x ≡ y
ext_there true x y e = e
ext_there false x y e = some_none x None e refl

-- so the operands are of the kinds
third_by : (is : List Placed) (log strings : List ℕ) (f : Fields) (x : List ℕ) → Some x ≡ ext_name is (operands_from f.count log strings f.start) → Third log f
third_by is log strings f x e = by (ltb f.count 2) (eqb (get_or log f.start 0) 33) (eqb (get_or log (f.start + 5) 0) 35) refl refl refl
  where
    by : (c k j : Bool) → ltb f.count 2 ≡ c → eqb (get_or log f.start 0) 33 ≡ k → eqb (get_or log (f.start + 5) 0) 35 ≡ j → Third log f
    by true k j p q r = some_none x _ e (ext_few is f.count log strings f.start (ltb-true f.count 2 p))
    by false false j p q r = some_none x _ e (ext_first is log strings f.start f.count (ltb-false f.count 2 p) (eqb-false _ _ q))
    by false true false p q r = some_none x _ e (ext_second is log strings f.start f.count (ltb-false f.count 2 p) (eqb-true _ _ q) (eqb-false _ _ r))
    by false true true p q r =
        let k : f.start + 5 + 5 ≡ f.start + 10 = omega arith in
        record {
          two = ltb-false f.count 2 p;
          second = after_is log f.start 33 (eqb-true _ _ q) refl;
          third = after_is log (f.start + 5) 35 (eqb-true _ _ r) refl ∙ k;
        }

-- four pieces, one after the other
four_pieces : (a x b : List ℕ) → a ++ ascii " " ++ x ++ b ≡ a ++ ((32 ∷ []) ++ (x ++ b))
four_pieces a x b = append_assoc (a ++ ascii " ") x b ∙ append_assoc a (ascii " ") (x ++ b)

-- a name that is there
module _ (is : List Placed) (log strings : List ℕ) (f : Fields) (run : List ℕ) (r : Option (ℕ × ℕ)) (start end : ℕ) (e : text_found run r ≡ name_in is (said_by log strings f)) (q : r ≡ Some (start, end)) where
  -- tells where the third operand stands
  pub named_third : Third log f
  unfolding text_found name_in said_by placed_of
  named_third = third_by is log strings f (take (end - start) (drop start run)) (ext_there (eqb (f.head % 65536) 12 && eqb f.tag 15) _ _ (sym (ap (text_found run) q) ∙ e))

  -- takes the place of the second
  pub named_pieces : operands_text is (said_by log strings f)
      ≡ spaced (operands_from 1 log strings f.start) ++ ((32 ∷ []) ++ (take (end - start) (drop start run) ++ spaced (operands_from (f.count - 2) log strings (f.start + 10))))
  unfolding spaced_by
  named_pieces =
      let x = take (end - start) (drop start run) in
      let t = named_third in
      sym (operands_named is log strings f run r start end e q)
      ∙ four_pieces (spaced (take 1 (operands_from f.count log strings f.start))) x (spaced (drop 2 (operands_from f.count log strings f.start)))
      ∙ ap (λ (os : List Operand). spaced (take 1 os) ++ ((32 ∷ []) ++ (x ++ spaced (drop 2 os)))) (two_first f.count log strings f.start t.two)
      ∙ ap (λ (b : ℕ). spaced (operand_at log strings f.start ∷ []) ++ ((32 ∷ []) ++ (x ++ spaced (operands_from (f.count - 2) log strings (operand_after log b))))) t.second
      ∙ ap (λ (b : ℕ). spaced (operand_at log strings f.start ∷ []) ++ ((32 ∷ []) ++ (x ++ spaced (operands_from (f.count - 2) log strings b)))) t.third
      ∙ ap (λ (os : List Operand). spaced os ++ ((32 ∷ []) ++ (x ++ spaced (operands_from (f.count - 2) log strings (f.start + 10))))) (sym (one_first log strings f.start))

  -- the first can be read
  pub named_first : AllReadable f.count log strings f.start → AllReadable 1 log strings f.start
  named_first a = one_readable log strings f.start (readable_more f.count log strings f.start (few_two named_third.two) a).0

  -- and those from the third on
  pub named_rest : AllReadable f.count log strings f.start → AllReadable (f.count - 2) log strings (f.start + 10)
  named_rest a =
      let t = named_third in
      let x = (readable_more f.count log strings f.start (few_two t.two) a).1 in
      let y = (readable_more (f.count - 1) log strings (operand_after log f.start) (few_one t.two) x).1 in
      let k : f.count - 1 - 1 ≡ f.count - 2 = omega arith in
      subst (λ (n : ℕ). AllReadable n log strings (f.start + 10)) k
      (subst (AllReadable (f.count - 1 - 1) log strings) (ap (operand_after log) t.second ∙ t.third) y)
