-- Laws of imports: the set of an id.
use Prim.Native.Nat.{ℕ, zero, suc, ◌+◌, ◌*◌, ◌-◌, ◌<◌, ◌≤◌}
use mathlib.Core.Path.{◌≡◌, refl, ap, sym, ◌∙◌}
use mathlib.Core.Bool.{Bool, true, false, not, ◌&&◌, ◌||◌}
use mathlib.Core.List.{List, [], ◌∷◌}
use Rattle.std.specs.Prelude.{Option, None, Some}
use Rattle.std.proofs.lemmas.Option.{none-some}
use native.Mathlib.Omega.{arith}
use borrow.Author.Tests.{eqb-true, eqb-false, eq-eqb, ne_eqb, le-leb, lt-leb, ltb-true, ltb-false}
use lib.Dec.{leb, ltb, eqb}
use lib.ListN.{take, drop, get_or}
use lib.Pointwise.{pointwise}
use Rattle.spec.specs.declared.Fields.{Fields}
use Rattle.std.specs.Prelude.{if◌then◌else◌}
use Rattle.spec.specs.Base.{or_zero, or_else, same, ascii}
use Rattle.spec.specs.Words.{four_at}
use Rattle.spec.specs.Kinds.{is_long, is_text}
use Rattle.spec.specs.Records.{Operand, narrow, wide, text, Placed, record_size, fields_at}
use Rattle.spec.specs.Check.{bits_in, field_in, placed_of}
use Rattle.spec.specs.Disassembly.{set_named, set_in, is_id, import_of, set_of}
use Rattle.operand.specs.Parts.{is_two}
use Rattle.records.specs.Good.{operand_by, operand_at}
use Rattle.records.proofs.Good.{operand_is}
use Rattle.spelled.specs.Spelled.{Readable, AllReadable, operand_after, operands_from, said_by}
use Rattle.spelled.specs.Placing.{GoodStores, instrs_of}
use Rattle.spelled.proofs.Stores.{At, stores_at}
use Rattle.spelled.proofs.Orders.{all_end}
use Rattle.imports.specs.Imports.{ImportsEnd}
use Rattle.pieces.proofs.Texts.{readable_more}

-- WHERE THE IMPORTS END

-- behind the last record
pub imports_none : (ws : List ℕ) (count : ℕ) → ImportsEnd ws count count
unfolding ImportsEnd
imports_none ws count i h g q = omega arith

-- one record less, which is none
pub imports_less : (ws : List ℕ) (count i : ℕ) (f : Fields) → f ≡ fields_at (drop (record_size * (i - 1)) ws) → (f.tag ≡ 3 → ⊥) → 0 < i
    → ImportsEnd ws count i → ImportsEnd ws count (i - 1)
unfolding ImportsEnd
imports_less ws count end f e n z p i h g q = by (eqb i (end - 1)) refl
  where
    by : (t : Bool) → eqb i (end - 1) ≡ t → ⊥
    by true y = n (ap (λ (x : Fields). x.tag) e ∙ ap (λ (k : ℕ). (fields_at (drop (record_size * k) ws)).tag) (sym (eqb-true i (end - 1) y)) ∙ q)
    by false y = p i (omega (arith, eqb-false i (end - 1) y)) g q

-- THE SET OF A NAME

-- `==` is the comparison of the names' definition
same_is : (s t : List ℕ) → pointwise eqb s t ≡ same s t
same_is [] [] = refl
same_is [] (y ∷ t) = refl
same_is (x ∷ s) [] = refl
same_is (x ∷ s) (y ∷ t) = ap (λ (b : Bool). eqb x y && b) (same_is s t)

module _ (s : List ℕ) (a : Bool) (e : a ≡ pointwise eqb s (ascii "GLSL.std.450")) where
  -- GLSL.std.450
  pub set_glsl : a ≡ true → 46 ≡ or_zero (set_named s)
  unfolding set_named
  set_glsl q = rw (← same_is s (ascii "GLSL.std.450"), ← e, q)

  module _ (q : a ≡ false) (b : Bool) (f : b ≡ pointwise eqb s (ascii "OpenCL.std")) where
    -- OpenCL.std
    pub set_opencl : b ≡ true → 47 ≡ or_zero (set_named s)
    unfolding set_named
    set_opencl r = rw (← same_is s (ascii "GLSL.std.450"), ← same_is s (ascii "OpenCL.std"), ← e, q, ← f, r)

    -- neither
    pub set_none : b ≡ false → 0 ≡ or_zero (set_named s)
    unfolding set_named
    set_none r = rw (← same_is s (ascii "GLSL.std.450"), ← same_is s (ascii "OpenCL.std"), ← e, q, ← f, r)

-- by the tests of a name
abbrev set_by : Bool → Bool → Option ℕ
set_by a b = if a then Some 46 else if b then Some 47 else None

-- no set is 0
set_some : (s : List ℕ) → or_zero (set_named s) ≡ 0 → set_named s ≡ None
unfolding set_named
set_some s = by (same s (ascii "GLSL.std.450")) (same s (ascii "OpenCL.std"))
  where
    by : (a b : Bool) → or_zero (set_by a b) ≡ 0 → set_by a b ≡ None
    by true b e = absurd (omega (arith, e))
    by false true e = absurd (omega (arith, e))
    by false false e = refl

-- THE SET OF AN IMPORT

-- the set that the operands of a record name first
first_set : (n : ℕ) (log strings : List ℕ) (a : ℕ) (o : Operand) (x : Option ℕ) → 0 < n → operand_at log strings a ≡ o → set_in (o ∷ operands_from (n - 1) log strings (operand_after log a)) ≡ x
    → set_in (operands_from n log strings a) ≡ x
unfolding operands_from
first_set zero log strings a o x h e g = absurd (omega arith)
first_set (suc n) log strings a o x h e g =
    let q : n ≡ suc n - 1 = omega arith in
    ap (λ (k : ℕ). set_in (operand_at log strings a ∷ operands_from k log strings (operand_after log a))) q
    ∙ ap (λ (p : Operand). set_in (p ∷ operands_from (suc n - 1) log strings (operand_after log a))) e
    ∙ g

-- nothing of no operand
no_set : (n : ℕ) (log strings : List ℕ) (a : ℕ) → n ≡ 0 → set_in (operands_from n log strings a) ≡ None
unfolding operands_from set_in
no_set zero log strings a e = refl
no_set (suc n) log strings a e = absurd (omega arith)

-- a first operand that is no string names none
other_set : (log strings : List ℕ) (a n : ℕ) → 0 < n → (get_or log a 0 ≡ 40 → ⊥) → set_in (operands_from n log strings a) ≡ None
unfolding operand_by set_in
other_set log strings a n h k = by (is_two (get_or log a 0)) (is_long (get_or log a 0)) refl refl
  where
    by : (t u : Bool) → is_two (get_or log a 0) ≡ t → is_long (get_or log a 0) ≡ u → set_in (operands_from n log strings a) ≡ None
    by false u e f = first_set n log strings a _ None h (sym (operand_is log strings a false u e f)) refl
    by true true e f = first_set n log strings a _ None h (sym (operand_is log strings a true true e f)) refl
    by true false e f =
        let z : ◌≡◌ {A = Bool} true false = sym e ∙ ap (λ (b : Bool). b || is_text (get_or log a 0)) f ∙ ne_eqb (get_or log a 0) 40 k in
        let y : ◌≡◌ {A = ℕ} 0 1 = cc in
        absurd (omega arith)

-- one that is a string names its set
string_set : (log strings : List ℕ) (a n : ℕ) → 0 < n → get_or log a 0 ≡ 40 → (low high : ℕ) → low ≡ four_at (a + 1) log → high ≡ four_at (a + 5) log
    → set_in (operands_from n log strings a) ≡ set_named (take (low + high - low) (drop low strings))
unfolding operand_by set_in
string_set log strings a n h k low high e f =
    let q : low + high - low ≡ high = omega arith in
    first_set n log strings a _ _ h (sym (operand_is log strings a true false (ap is_two k) (ap is_long k))) refl
    ∙ ap (λ (m : ℕ). set_named (take m (drop (four_at (a + 1) log) strings))) (sym (q ∙ f))
    ∙ ap (λ (m : ℕ). set_named (take (low + high - low) (drop m strings))) (sym e)

-- no, whatever the test
either_none : (t : Bool) → ◌≡◌ {A = Option ℕ} (if t then None else None) None
either_none true = refl
either_none false = refl

-- what two tests that fail say
record Asked (b r c : Bool) : Type 0 where
  pub there : b ≡ false
  pub same : r ≡ true
  pub some : c ≡ false

asked : (b r c : Bool) → ((b || not r) || c) ≡ false → Asked b r c
asked false true false e = record { there = refl; same = refl; some = refl }
asked false true true e = let y : ◌≡◌ {A = ℕ} 0 1 = cc in absurd (omega arith)
asked false false c e = let y : ◌≡◌ {A = ℕ} 0 1 = cc in absurd (omega arith)
asked true r c e = let y : ◌≡◌ {A = ℕ} 0 1 = cc in absurd (omega arith)

module _ (log strings : List ℕ) (f : Fields) (id : ℕ) where
  -- by its tests
  import_by : (t u : Bool) (x : Option ℕ) → eqb f.tag 3 ≡ t → is_id id (field_in (leb 2 (bits_in f)) f.rid) ≡ u → set_in (operands_from f.count log strings f.start) ≡ x
      → import_of id (said_by log strings f) ≡ (if t && u then x else None)
  unfolding import_of said_by placed_of
  import_by t u x a b c = rw (a, b, c)

  -- another tag
  pub import_other : (f.tag ≡ 3 → ⊥) → 0 ≡ or_zero (import_of id (said_by log strings f))
  import_other n = sym (ap or_zero (import_by false _ _ (ne_eqb f.tag 3 n) refl refl))

  -- the id by its tests
  id_by : (b r : Bool) → ltb (bits_in f) 2 ≡ b → eqb f.rid id ≡ r → is_id id (field_in (leb 2 (bits_in f)) f.rid) ≡ (not b && r)
  id_by true r e g = rw (lt-leb 2 (bits_in f) (ltb-true (bits_in f) 2 e))
  id_by false r e g = rw (le-leb 2 (bits_in f) (ltb-false (bits_in f) 2 e)) g

  -- another id, or no operand
  pub import_not : ((ltb (bits_in f) 2 || not (eqb f.rid id)) || eqb f.count 0) ≡ true → 0 ≡ or_zero (import_of id (said_by log strings f))
  import_not e = by (ltb (bits_in f) 2) (eqb f.rid id) (eqb f.count 0) refl refl refl e
    where
      off : (t : Bool) → 0 ≡ or_zero (if t && false then set_in (operands_from f.count log strings f.start) else None)
      off true = refl
      off false = refl

      no : (t u : Bool) → 0 ≡ or_zero (if t && u then None else None)
      no t u = sym (ap or_zero (either_none (t && u)))

      by : (b r c : Bool) → ltb (bits_in f) 2 ≡ b → eqb f.rid id ≡ r → eqb f.count 0 ≡ c → ((b || not r) || c) ≡ true → 0 ≡ or_zero (import_of id (said_by log strings f))
      by true r c p q s e = off (eqb f.tag 3) ∙ sym (ap or_zero (import_by _ false _ refl (id_by true r p q) refl))
      by false false c p q s e = off (eqb f.tag 3) ∙ sym (ap or_zero (import_by _ false _ refl (id_by false false p q) refl))
      by false true true p q s e =
          no (eqb f.tag 3) _ ∙ sym (ap or_zero (import_by _ _ None refl refl (no_set f.count log strings f.start (eqb-true f.count 0 s))))
      by false true false p q s e = let y : ◌≡◌ {A = ℕ} 0 1 = cc in absurd (omega arith)

  module _ (t : f.tag ≡ 3) (e : ((ltb (bits_in f) 2 || not (eqb f.rid id)) || eqb f.count 0) ≡ false) where
    tests : Asked (ltb (bits_in f) 2) (eqb f.rid id) (eqb f.count 0)
    tests = asked _ _ _ e

    -- there is an operand
    pub import_some : 0 < f.count
    import_some = omega (arith, eqb-false f.count 0 tests.some)

    -- it is what the first operand names
    import_is : (x : Option ℕ) → set_in (operands_from f.count log strings f.start) ≡ x → import_of id (said_by log strings f) ≡ x
    import_is x g = import_by true true x (eq-eqb f.tag 3 t) (id_by false true tests.there tests.same) g

    -- the first operand is no string
    pub import_nameless : (get_or log f.start 0 ≡ 40 → ⊥) → 0 ≡ or_zero (import_of id (said_by log strings f))
    import_nameless n = sym (ap or_zero (import_is None (other_set log strings f.start f.count import_some n)))

    -- a set's name
    pub import_name : get_or log f.start 0 ≡ 40 → (low high r : ℕ) → low ≡ four_at (f.start + 1) log → high ≡ four_at (f.start + 5) log
        → r ≡ or_zero (set_named (take (low + high - low) (drop low strings))) → r ≡ or_zero (import_of id (said_by log strings f))
    import_name k low high r a b h =
        h ∙ sym (ap or_zero (import_is _ (string_set log strings f.start f.count import_some k low high a b)))

    -- its operands can be read
    pub import_readable : AllReadable f.count log strings f.start → Readable log strings f.start
    import_readable r = (readable_more f.count log strings f.start import_some r).0

-- no import is 0
import_zero : (id : ℕ) (p : Placed) → or_zero (import_of id p) ≡ 0 → import_of id p ≡ None
unfolding import_of set_in
import_zero id p = by (eqb p.tag 3 && is_id id p.instr.result_id) p.instr.operands
  where
    by : (t : Bool) (os : List Operand) → or_zero (if t then set_in os else None) ≡ 0 → (if t then set_in os else None) ≡ None
    by false os e = refl
    by true [] e = refl
    by true (narrow k v ∷ os) e = refl
    by true (wide k v ∷ os) e = refl
    by true (text s ∷ os) e = set_some s e

-- THE SET OF AN ID

-- what is found later holds
set_kept : (id j : ℕ) (is : List Placed) (s : ℕ) → set_of id (drop j is) ≡ Some s → set_of id is ≡ Some s
unfolding set_of
set_kept id zero is s e = e
set_kept id (suc j) [] s e = e
set_kept id (suc j) (p ∷ ps) s e = ap (λ (x : Option ℕ). or_else x (import_of id p)) (set_kept id j ps s e)

-- one that is found
set_found : (id j : ℕ) (is : List Placed) (x : Option ℕ) → set_of id (drop j is) ≡ x → (or_zero x ≡ 0 → ⊥) → or_zero x ≡ or_zero (set_of id is)
set_found id j is None e n = absurd (n refl)
set_found id j is (Some s) e n = sym (ap or_zero (set_kept id j is s e))

module _ {ws log strings : List ℕ} {count i : ℕ} {f : Fields} (a : At ws log strings count i f) (id : ℕ) where
  -- the import at an index, where there is none after it
  set_here : set_of id (drop (i + 1) (instrs_of ws log strings count)) ≡ None → set_of id (drop i (instrs_of ws log strings count)) ≡ import_of id (said_by log strings f)
  unfolding set_of
  set_here e = ap (set_of id) a.next ∙ ap (λ (x : Option ℕ). or_else x (import_of id (said_by log strings f))) e

  -- it is recognised
  pub set_hit : (r : ℕ) → set_of id (drop (i + 1) (instrs_of ws log strings count)) ≡ None → r ≡ or_zero (import_of id (said_by log strings f)) → (r ≡ 0 → ⊥)
      → r ≡ or_zero (set_of id (instrs_of ws log strings count))
  set_hit r e g n = g ∙ set_found id i (instrs_of ws log strings count) _ (set_here e) (λ z. n (g ∙ z))

  -- it is not
  pub set_miss : (r : ℕ) → set_of id (drop (i + 1) (instrs_of ws log strings count)) ≡ None → r ≡ or_zero (import_of id (said_by log strings f)) → r ≡ 0
      → set_of id (drop i (instrs_of ws log strings count)) ≡ None
  set_miss r e g z = set_here e ∙ import_zero id (said_by log strings f) (sym g ∙ z)

-- one index on from one back
pub set_up : (id : ℕ) (is : List Placed) (i : ℕ) → 0 < i → set_of id (drop i is) ≡ None → set_of id (drop (i - 1 + 1) is) ≡ None
set_up id is i h e =
    let k : i - 1 + 1 ≡ i = omega arith in
    ap (λ (j : ℕ). set_of id (drop j is)) k ∙ e

-- no import, none behind the last
pub set_past : (ws log strings : List ℕ) (count : ℕ) → GoodStores ws log strings count → (end id : ℕ) → ImportsEnd ws count end → (n i : ℕ) → end ≤ i → i + n ≡ count
    → set_of id (drop i (instrs_of ws log strings count)) ≡ None
unfolding set_of ImportsEnd
set_past ws log strings count g end id p zero i h e = ap (set_of id) (all_end ws log strings count g i (omega arith))
set_past ws log strings count g end id p (suc n) i h e =
    let f = fields_at (drop (record_size * i) ws) in
    let a = stores_at ws log strings count g i (omega arith) f refl in
    set_miss a id 0 (set_past ws log strings count g end id p n (i + 1) (omega arith) (omega arith)) (import_other log strings f id (p i h (omega arith))) refl

-- where the imports end
pub set_start : (ws log strings : List ℕ) (count : ℕ) → GoodStores ws log strings count → (end id : ℕ) → end ≤ count → ImportsEnd ws count end
    → set_of id (drop end (instrs_of ws log strings count)) ≡ None
set_start ws log strings count g end id h p = set_past ws log strings count g end id p (count - end) end (omega arith) (omega arith)

-- no set is 0
pub set_zero : (id : ℕ) (is : List Placed) → or_zero (set_of id is) ≡ 0 → set_of id is ≡ None
unfolding set_of
set_zero id [] e = refl
set_zero id (p ∷ ps) e = by (set_of id ps) refl (set_zero id ps) e
  where
    by : (x : Option ℕ) → set_of id ps ≡ x → (or_zero (set_of id ps) ≡ 0 → set_of id ps ≡ None) → or_zero (or_else x (import_of id p)) ≡ 0 → or_else (set_of id ps) (import_of id p) ≡ None
    by None q on e = ap (λ (x : Option ℕ). or_else x (import_of id p)) q ∙ import_zero id p e
    by (Some s) q on e = absurd (none-some s (sym (on (ap or_zero q ∙ e)) ∙ q))

-- a set that is not 0 is there
pub set_there : (s : ℕ) (x : Option ℕ) → s ≡ or_zero x → (s ≡ 0 → ⊥) → x ≡ Some s
set_there s None e n = absurd (n e)
set_there s (Some t) e n = ap Some (sym e)
