-- Laws of what is in use: one record more.
use Prim.Native.Nat.{ℕ, ◌+◌, ◌-◌, ◌≤◌}
use mathlib.Core.Path.{◌≡◌, refl, ap, sym, ◌∙◌}
use mathlib.Core.List.{List}
use Rattle.std.specs.Prelude.{Option, None, Some}
use native.Mathlib.Omega.{arith}
use borrow.Author.Tests.{eq-eqb, ne_eqb}
use lib.Dec.{leb}
use lib.ListN.{length, take, drop}
use lib.Seq.{slice, take-add, drop_at, length-take-le}
use Rattle.spec.specs.Plain.{first_break}
use Rattle.operand.specs.Parts.{parts, Fits}
use Rattle.operand.specs.Log.{record_length, length_by, kept, Laid}
use Rattle.operand.proofs.LogLaws.{laid_kept}
use Rattle.tracker.specs.Track.{literal_of}
use Rattle.used.specs.declared.used.Used.{Used}
use Rattle.used.specs.Parse.{id_ref_of, selector_of, notes_of, note_as, Pushed, Copied}
use Rattle.used.specs.Fresh.{with_results, with_result}

-- THE ID THAT THE FIRST OPERAND IS

module _ (u : Used) where
  -- there is no operand
  pub selector_none : u.operands ≡ 0 → None ≡ selector_of u
  unfolding selector_of
  selector_none e = simp (eq-eqb u.operands 0 e)

  module _ (h : u.operands ≡ 0 → ⊥) where
    -- it is an id
    pub selector_there : u.kind1 ≡ 33 → Some u.value1 ≡ selector_of u
    unfolding selector_of id_ref_of
    selector_there e = simp (ne_eqb u.operands 0 h, eq-eqb u.kind1 33 e)

    -- it is none
    pub selector_absent : (u.kind1 ≡ 33 → ⊥) → None ≡ selector_of u
    unfolding selector_of id_ref_of
    selector_absent e = simp (ne_eqb u.operands 0 h, ne_eqb u.kind1 33 e)

-- ONE OPERAND MORE

module _ (u : Used) (k v log : ℕ) (f : Fits k v) (l : log ≡ u.log + record_length (parts k v)) where
  -- the first operand
  pub note_first : u.operands ≡ 0
      → Pushed k v u (record { rtype = u.rtype; rid = u.rid; operands = u.operands + 1; kind1 = k; value1 = v; kind2 = u.kind2; value2 = u.value2; log = log; strings = u.strings; base = u.base; breaks = u.breaks })
  unfolding notes_of selector_of note_as
  note_first e =
      record {
        rtype = refl;
        rid = refl;
        base = refl;
        strings = refl;
        log = l;
        noted = rw e;
        fits = λ q. record { first = λ h. f; second = λ h. absurd (omega arith) };
      }

  -- the second
  pub note_second : u.operands ≡ 1
      → Pushed k v u (record { rtype = u.rtype; rid = u.rid; operands = u.operands + 1; kind1 = u.kind1; value1 = u.value1; kind2 = k; value2 = v; log = log; strings = u.strings; base = u.base; breaks = u.breaks })
  unfolding notes_of selector_of note_as
  note_second e =
      record {
        rtype = refl;
        rid = refl;
        base = refl;
        strings = refl;
        log = l;
        noted = rw e;
        fits = λ q. record { first = λ h. q.first (omega arith); second = λ h. f };
      }

  -- a later one
  pub note_later : (u.operands ≡ 0 → ⊥) → (u.operands ≡ 1 → ⊥)
      → Pushed k v u (record { rtype = u.rtype; rid = u.rid; operands = u.operands + 1; kind1 = u.kind1; value1 = u.value1; kind2 = u.kind2; value2 = u.value2; log = log; strings = u.strings; base = u.base; breaks = u.breaks })
  unfolding notes_of selector_of note_as
  note_later h i =
      record {
        rtype = refl;
        rid = refl;
        base = refl;
        strings = refl;
        log = l;
        noted = simp (ne_eqb u.operands 0 h, ne_eqb u.operands 1 i, ne_eqb (u.operands + 1) 0 (λ e. omega arith));
        fits = λ q. record { first = λ m. q.first (omega (arith, h)); second = λ m. q.second (omega (arith, h, i)) };
      }

-- STRINGS

-- any value fits a string's kind, which has two words
pub fits_text : (v : ℕ) → Fits 40 v
fits_text v = record { known = refl; small = λ e. let z : ◌≡◌ {A = ℕ} 0 1 = cc in absurd (omega arith) }

-- its bytes follow, and what breaks its padding is noted
pub copied : (size v b x : ℕ) (u n : Used) → Pushed 40 v u n → x ≡ first_break u.breaks b
    → Copied size b u (record { rtype = n.rtype; rid = n.rid; operands = n.operands; kind1 = n.kind1; value1 = n.value1; kind2 = n.kind2; value2 = n.value2; log = n.log; strings = u.strings + size; base = n.base; breaks = x })
unfolding record_length length_by notes_of selector_of literal_of id_ref_of
copied size v b x u n p e =
    record { rtype = p.rtype; rid = p.rid; base = p.base; strings = refl; log = p.log; noted = p.noted; fits = p.fits; breaks = e }

-- the bytes from a position on, as a part of all of them
front_slice : (at n : ℕ) (s : List ℕ) → at ≤ length s → take n (drop at s) ≡ slice at (at + n) s
front_slice at n s h = sym (ap (drop at) (take-add at n s) ∙ drop_at (take at s) (take n (drop at s)) at (length-take-le at s h))

-- the part that is lent
part_is : (at n : ℕ) (s : List ℕ) → at ≤ length s → take (at + n - at) (drop at s) ≡ slice at (at + n) s
part_is at n s h = let e : at + n - at ≡ n = omega arith in ap (λ (i : ℕ). take i (drop at s)) e ∙ front_slice at n s h

-- it went in
pub part_laid : (l x : List ℕ) (a at n : ℕ) (s : List ℕ)
    → x ≡ kept (leb (a + length (take (at + n - at) (drop at s))) (length l)) l a (take (at + n - at) (drop at s)) → at + n ≤ length s
    → Laid l a (slice at (at + n) s) x
part_laid l x a at n s e h = rw (← part_is at n s (omega arith)) (laid_kept l x a _ _ refl e)

-- THE FIRST THAT BREAKS

-- nothing broke before
pub first_is : (a b : ℕ) → a ≡ 0 → b ≡ first_break a b
unfolding first_break
first_is a b e = simp (eq-eqb a 0 e)

-- something did
pub first_stays : (a b : ℕ) → (a ≡ 0 → ⊥) → a ≡ first_break a b
unfolding first_break
first_stays a b h = simp (ne_eqb a 0 h)

-- RESULTS

module _ (u : Used) (k : ℕ) (i : Option ℕ) where
  -- a result type
  pub type_more : k ≡ 46
      → record { rtype = i; rid = u.rid; operands = u.operands; kind1 = u.kind1; value1 = u.value1; kind2 = u.kind2; value2 = u.value2; log = u.log; strings = u.strings; base = u.base; breaks = u.breaks }
      ≡ with_result k i u
  unfolding with_result with_results
  type_more e = simp (eq-eqb k 46 e)

  -- a result id
  pub id_more : (k ≡ 46 → ⊥)
      → record { rtype = u.rtype; rid = i; operands = u.operands; kind1 = u.kind1; value1 = u.value1; kind2 = u.kind2; value2 = u.value2; log = u.log; strings = u.strings; base = u.base; breaks = u.breaks }
      ≡ with_result k i u
  unfolding with_result with_results
  id_more e = simp (ne_eqb k 46 e)
