-- Laws of the ranges of sections: what one more instruction makes of them.
use Prim.Native.Nat.{ℕ, ◌+◌, ◌≤◌}
use mathlib.Core.Path.{◌≡◌, refl, ap, sym, subst, ◌∙◌}
use mathlib.Core.Bool.{Bool, true, false, ◌||◌, true≢false}
use mathlib.Core.List.{List, [], ◌∷◌, ◌++◌, append-nil, reverse, reverse-append}
use native.Mathlib.Omega.{arith}
use borrow.Author.Tests.{eqb-true, eqb-false, eq-eqb, ne_eqb}
use lib.Dec.{eqb}
use lib.ListN.{length, take, drop, get_or, set, replicate, get_or-replicate, length-append, drop_of_length-le}
use lib.Seq.{drop-append-le, drop-append_seam, take-add, take_all, length-take-le, get_or-set_same, get_or-set_other}
use Rattle.spec.specs.declared.Fields.{Fields}
use Rattle.std.specs.Prelude.{if◌then◌else◌}
use Rattle.spec.specs.Records.{Placed}
use Rattle.spec.specs.Check.{placed_of}
use Rattle.spec.specs.Write.{section_of}
use Rattle.spec.proofs.Choice.{other, cases, either}
use Rattle.spelled.specs.Spelled.{said_by}
use Rattle.spelled.specs.Placing.{GoodStores, instrs_of, one_at, tagged, Ranged, AllRanged, begins_at}
use Rattle.spelled.proofs.Stores.{At, one_is, stores_length}
use Rattle.spelled.proofs.Orders.{tagged_append}

-- A SECTION

-- of MemoryModel the last, of any other all
abbrev written : ℕ → List Placed → List Placed
written t ps = if eqb t 4 then take 1 (reverse ps) else ps

-- a section by the instructions with its tag
section_by : (t : ℕ) (is ps : List Placed) → tagged t is ≡ ps → section_of t is ≡ written t ps
unfolding section_of tagged
section_by t is ps e = ap (written t) e

-- the last of some and one more
written_last : (t : ℕ) (ps : List Placed) (p : Placed) → (eqb t 4 ≡ false → ps ≡ []) → written t (ps ++ p ∷ []) ≡ p ∷ []
written_last t ps p h =
    either (λ (l : List Placed). l ≡ p ∷ []) (eqb t 4) (take 1 (reverse (ps ++ p ∷ []))) (ps ++ p ∷ [])
    (λ e. ap (take 1) (reverse-append ps (p ∷ []))) (λ e. ap (λ (l : List Placed). l ++ p ∷ []) (h e))

-- of any but MemoryModel all
pub section_all : (t : ℕ) (is : List Placed) → eqb t 4 ≡ false → section_of t is ≡ tagged t is
section_all t is f = section_by t is (tagged t is) refl ∙ rw f

-- of two tests, neither of which holds, the first fails
neither : (a b : Bool) → (a || b) ≡ false → a ≡ false
neither true b e = absurd (true≢false e)
neither false b e = refl

-- none of none
ranged_none : (t : ℕ) → Ranged [] t 0 0
unfolding tagged
ranged_none t = record {
  opens = section_by t [] [] refl ∙ either (λ (l : List Placed). l ≡ []) (eqb t 4) [] [] (λ e. refl) (λ e. refl);
  closes = refl;
  order = omega arith;
  within = omega arith;
}

-- at its end none is left
pub ranged_ends : {is : List Placed} {t first end i : ℕ} → Ranged is t first end → i ≤ end → end ≤ i → tagged t (drop i is) ≡ []
ranged_ends {is} {t} {first} {end} {i} r h g =
    let q : end ≡ i = omega arith in
    subst (λ (k : ℕ). tagged t (drop k is) ≡ []) q r.closes

-- ONE MORE INSTRUCTION

module _ {seen : List Placed} {t first end : ℕ} (r : Ranged seen t first end) (p : Placed) where
  -- those with the tag from an index on
  from_more : (k : ℕ) → k ≤ length seen → tagged t (drop k (seen ++ p ∷ [])) ≡ tagged t (drop k seen) ++ tagged t (p ∷ [])
  from_more k h = ap (tagged t) (drop-append-le k seen (p ∷ []) h) ∙ tagged_append t (drop k seen) (p ∷ [])

  -- with another tag it changes nothing
  module _ (n : p.tag ≡ t → ⊥) where
    -- it has not the tag
    not_it : tagged t (p ∷ []) ≡ []
    unfolding tagged
    not_it = rw (ne_eqb p.tag t n)

    -- those with the tag from an index on are as they were
    from_same : (k : ℕ) → k ≤ length seen → tagged t (drop k (seen ++ p ∷ [])) ≡ tagged t (drop k seen)
    from_same k h = from_more k h ∙ ap (λ (l : List Placed). tagged t (drop k seen) ++ l) not_it ∙ append-nil (tagged t (drop k seen))

    pub ranged_other : Ranged (seen ++ p ∷ []) t first end
    ranged_other = record {
      opens =
          section_by t (seen ++ p ∷ []) (tagged t seen) (from_same 0 (omega arith))
          ∙ sym (section_by t seen (tagged t seen) refl)
          ∙ r.opens
          ∙ sym (from_same first (omega (arith, r.order, r.within)));
      closes = from_same end r.within ∙ r.closes;
      order = r.order;
      within = omega (arith, r.within, length-append seen (p ∷ []));
    }

  -- with the tag the range ends behind it
  module _ (e : p.tag ≡ t) where
    -- it has the tag
    it : tagged t (p ∷ []) ≡ p ∷ []
    unfolding tagged
    it = rw (eq-eqb p.tag t e)

    -- it comes after those with the tag from an index on
    from_it : (k : ℕ) → k ≤ length seen → tagged t (drop k (seen ++ p ∷ [])) ≡ tagged t (drop k seen) ++ p ∷ []
    from_it k h = from_more k h ∙ ap (λ (l : List Placed). tagged t (drop k seen) ++ l) it

    -- the section begins there, where it is the last of MemoryModels, or none has the tag before it
    begins_there : (eqb t 4 ≡ false → tagged t seen ≡ []) → section_of t (seen ++ p ∷ []) ≡ tagged t (drop (length seen) (seen ++ p ∷ []))
    begins_there h =
        section_by t (seen ++ p ∷ []) (tagged t seen ++ p ∷ []) (from_it 0 (omega arith))
        ∙ written_last t (tagged t seen) p h
        ∙ sym it
        ∙ ap (tagged t) (sym (drop-append_seam seen (p ∷ [])))

    -- or where it did
    begins_before : eqb t 4 ≡ false → section_of t (seen ++ p ∷ []) ≡ tagged t (drop first (seen ++ p ∷ []))
    begins_before f =
        section_all t (seen ++ p ∷ []) f
        ∙ from_it 0 (omega arith)
        ∙ ap (λ (l : List Placed). l ++ p ∷ []) (sym (section_all t seen f) ∙ r.opens)
        ∙ sym (from_it first (omega (arith, r.order, r.within)))

    -- its section
    begins_as : section_of t (seen ++ p ∷ []) ≡ tagged t (drop (begins_at t (length seen) first end) (seen ++ p ∷ []))
    unfolding begins_at
    begins_as =
        either (λ (k : ℕ). section_of t (seen ++ p ∷ []) ≡ tagged t (drop k (seen ++ p ∷ []))) (eqb t 4 || eqb end 0) (length seen) first
        (λ h. begins_there (λ f. subst (λ (k : ℕ). tagged t (drop k seen) ≡ []) (eqb-true end 0 (other (eqb t 4) (eqb end 0) h f)) r.closes))
        (λ h. begins_before (neither (eqb t 4) (eqb end 0) h))

    -- no further than there
    begins_within : begins_at t (length seen) first end ≤ length seen + 1
    unfolding begins_at
    begins_within =
        either (λ (k : ℕ). k ≤ length seen + 1) (eqb t 4 || eqb end 0) (length seen) first (λ h. omega arith) (λ h. omega (arith, r.order, r.within))

    ranged_it : Ranged (seen ++ p ∷ []) t (begins_at t (length seen) first end) (length seen + 1)
    unfolding tagged
    ranged_it = record {
      opens = begins_as;
      closes = ap (tagged t) (drop_of_length-le (seen ++ p ∷ []) {i = length seen + 1} (omega (arith, length-append seen (p ∷ []))));
      order = begins_within;
      within = omega (arith, length-append seen (p ∷ []));
    }

-- ALL RANGES

-- no instruction, and arrays that are all zero
pub ranges_start : (first end : List ℕ) → first ≡ replicate 13 0 → end ≡ replicate 13 0 → AllRanged [] first end
ranges_start first end e d = record {
  each = λ t h. rw (e, d, get_or-replicate {A = ℕ} 13 t 0 0 h) (ranged_none t);
}

-- one instruction more, noted by its tag
ranges_noted : (seen : List Placed) (p : Placed) (first end : List ℕ) → AllRanged seen first end → length first ≡ 13 → length end ≡ 13
    → AllRanged (seen ++ p ∷ []) (set first p.tag (begins_at p.tag (length seen) (get_or first p.tag 0) (get_or end p.tag 0))) (set end p.tag (length seen + 1))
ranges_noted seen p first end r a b = record {
  each = λ t h.
      let k = p.tag in
      let begins = begins_at k (length seen) (get_or first k 0) (get_or end k 0) in
      cases (eqb k t)
      (λ e. let q : k ≡ t = eqb-true k t e in
      subst (λ (j : ℕ). Ranged (seen ++ p ∷ []) j (get_or (set first k begins) j 0) (get_or (set end k (length seen + 1)) j 0)) q
      (subst (λ (j : ℕ). Ranged (seen ++ p ∷ []) k j (get_or (set end k (length seen + 1)) k 0)) (sym (get_or-set_same first k begins 0 (omega arith)))
      (subst (λ (j : ℕ). Ranged (seen ++ p ∷ []) k begins j) (sym (get_or-set_same end k (length seen + 1) 0 (omega arith))) (ranged_it (r.each k (omega arith)) p refl))))
      (λ e. let n : k ≡ t → ⊥ = eqb-false k t e in
      subst (λ (j : ℕ). Ranged (seen ++ p ∷ []) t j (get_or (set end k (length seen + 1)) t 0)) (sym (get_or-set_other first k t begins 0 (λ q. n (sym q))))
      (subst (λ (j : ℕ). Ranged (seen ++ p ∷ []) t (get_or first t 0) j) (sym (get_or-set_other end k t (length seen + 1) 0 (λ q. n (sym q)))) (ranged_other (r.each t h) p n)));
}

module _ {ws log strings : List ℕ} {count i : ℕ} {f : Fields} (a : At ws log strings count i f) where
  -- the record at an index is noted
  pub ranges_more : (first end first' end' : List ℕ) → AllRanged (take i (instrs_of ws log strings count)) first end → length first ≡ 13 → length end ≡ 13
      → i ≤ length (instrs_of ws log strings count)
      → first' ≡ set first f.tag (begins_at f.tag i (get_or first f.tag 0) (get_or end f.tag 0))
      → end' ≡ set end f.tag (i + 1)
      → AllRanged (take (i + 1) (instrs_of ws log strings count)) first' end'
  unfolding one_at said_by placed_of
  ranges_more first end first' end' r n m h e d =
      let is = instrs_of ws log strings count in
      let up_to : take (i + 1) is ≡ take i is ++ said_by log strings f ∷ [] = take-add i 1 is ∙ ap (λ (l : List Placed). take i is ++ l) (one_is a) in
      let noted = ranges_noted (take i is) (said_by log strings f) first end r n m in
      rw (up_to, e, d) (rw (length-take-le i is h) at noted)

-- all are noted
pub ranges_all : (ws log strings : List ℕ) (count : ℕ) → GoodStores ws log strings count → (i : ℕ) → count ≤ i → (first end : List ℕ)
    → AllRanged (take i (instrs_of ws log strings count)) first end → AllRanged (instrs_of ws log strings count) first end
ranges_all ws log strings count g i h first end r =
    subst (λ (l : List Placed). AllRanged l first end) (take_all i (instrs_of ws log strings count) (omega (arith, stores_length ws log strings count g))) r
