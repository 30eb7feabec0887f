-- The walk over two grammars from their starts to their ends, and what is stored on the way.
use Prim.Native.Nat.{ℕ, zero, suc, ◌+◌, ◌-◌, ◌≤◌, ◌<◌}
use mathlib.Core.Path.{◌≡◌, refl, sym, ap, ◌∙◌, subst}
use mathlib.Core.Bool.{Bool, true, false, ◌||◌}
use mathlib.Core.List.{List, [], ◌∷◌, ◌++◌, append_assoc, append-nil}
use Rattle.std.specs.Prelude.{Result, Ok, Err, None, Some}
use native.Mathlib.Omega.{arith}
use native.Mathlib.Nat.{zero-add}
use borrow.Author.Tests.{lt-ltb, le-ltb, ltb-false}
use lib.Dec.{ltb}
use lib.ListN.{length, take, drop, length-append}
use lib.Seq.{sets}
use Rattle.spec.specs.Base.{joined}
use Rattle.spec.specs.Grammar.{well_formed}
use Rattle.spec.specs.Join.{Piece, pieces_of, pieces, piece_bytes, merged, clash, union}
use Rattle.spec.proofs.Choice.{either}
use Rattle.spec.proofs.Store.{sets_append}
use Rattle.operand.specs.Log.{kept}
use Rattle.operand.proofs.LogLaws.{kept_nil, length_kept}
use Rattle.grammar.proofs.ItemLaws.{items_end}
use Rattle.grammar.proofs.MarkLaws.{never}
use Rattle.grammar.proofs.IndexLaws.{well_told}
use Rattle.join.specs.Steps.{between, taken, Starts, Onward, Stepped, Walked, MayKeep}

-- WHAT A STEP TAKES

-- the first's piece
pub taken_first : (a : List ℕ) (i i' : ℕ) (b : List ℕ) (j j' : ℕ) → i < i' → between i i' a ≡ taken a i i' b j j'
unfolding taken
taken_first a i i' b j j' h = rw (lt-ltb i i' h)

-- the second's
pub taken_second : (a : List ℕ) (i i' : ℕ) (b : List ℕ) (j j' : ℕ) → i' ≤ i → between j j' b ≡ taken a i i' b j j'
unfolding taken
taken_second a i i' b j j' h = rw (le-ltb i i' h)

-- what may be put of bytes may be put of the same bytes
pub may_put : {l m : List ℕ} (out : List ℕ) (at : ℕ) (keep : Bool) → l ≡ m → (keep ≡ true → at + length m ≤ length out) × (at + length m ≤ 131070)
    → (keep ≡ true → at + length l ≤ length out) × (at + length l ≤ 131070)
may_put out at keep e h = rw e h

-- what was put of bytes was put of the same bytes
pub put_told : {l m : List ℕ} (out out' : List ℕ) (at r : ℕ) (keep : Bool) → l ≡ m → (r ≡ at + length l) × (out' ≡ kept keep out at l)
    → (r ≡ at + length m) × (out' ≡ kept keep out at m)
put_told out out' at r keep e h = rw (← e) h

-- the first n elements are at most n
take_most : (n : ℕ) (l : List ℕ) → length (take n l) ≤ n
take_most zero l = omega arith
take_most (suc n) [] = omega arith
take_most (suc n) (x ∷ l) = omega (arith, take_most n l)

-- it is no longer than the way
taken_length : (a : List ℕ) (i i' : ℕ) (b : List ℕ) (j j' : ℕ) → length (taken a i i' b j j') ≤ (i' - i) + (j' - j)
unfolding taken
taken_length a i i' b j j' =
    either (λ (l : List ℕ). length l ≤ (i' - i) + (j' - j)) (ltb i i') (between i i' a) (between j j' b)
    (λ e. omega (arith, take_most (i' - i) (drop i a))) (λ e. omega (arith, take_most (j' - j) (drop j b)))

-- bytes after bytes
kept_append : (k : Bool) (l a b : List ℕ) → kept k (kept k l 0 a) (length a) b ≡ kept k l 0 (a ++ b)
unfolding kept
kept_append true l a b = ap (λ (n : ℕ). sets (sets l 0 a) n b) (sym (zero-add (length a))) ∙ sets_append a b l 0
kept_append false l a b = refl

-- THE WALK

-- in the loop: where it stands in both, the bytes so far, and that what is left decides
pub record Walking (a b out₀ out : List ℕ) (keep : Bool) (i j at : ℕ) : Type 0 where
  pub first : Starts a i
  pub second : Starts b j
  pub apart : clash (pieces a) (pieces b) ≡ clash (pieces (drop i a)) (pieces (drop j b))
  pub done : List ℕ
  pub whole : union a b ≡ done ++ union (drop i a) (drop j b)
  pub count : length done ≡ at
  pub few : at ≤ i + j
  pub stored : out ≡ kept keep out₀ 0 done

-- where it begins
pub walk_start : (a b out : List ℕ) (keep : Bool) → (well_formed a ≡ true) × (well_formed b ≡ true) → Walking a b out out keep 0 0 0
walk_start a b out keep w = record {
  first = record { within = omega arith; rules = (well_told a w.0).rules };
  second = record { within = omega arith; rules = (well_told b w.1).rules };
  apart = refl;
  done = [];
  whole = refl;
  count = refl;
  few = omega arith;
  stored = kept_nil keep out 0;
}

-- where a step goes
pub on_told : {a b : List ℕ} {i j : ℕ} (s : Result (ℕ × ℕ) ℕ) (i' j' : ℕ) → Stepped a i b j s → s ≡ Ok (i', j') → Onward a i i' b j j'
unfolding Stepped
on_told {a} {b} {i} {j} s i' j' h e = subst (Stepped a i b j) e h

-- where it stops
pub differ_told : (a : List ℕ) (i : ℕ) (b : List ℕ) (j : ℕ) (s : Result (ℕ × ℕ) ℕ) (n : ℕ) → Stepped a i b j s → s ≡ Err n → clash (pieces (drop i a)) (pieces (drop j b)) ≡ Some n
unfolding Stepped
differ_told a i b j s n h e = subst (Stepped a i b j) e h

-- it goes up, and not past the ends
pub on_within : {a b : List ℕ} {i i' j j' : ℕ} → Onward a i i' b j j' → (i ≤ i') × (i' ≤ length a) × (j ≤ j') × (j' ≤ length b)
on_within o = (o.up.0, o.first.within, o.up.1, o.second.within)

-- nothing is left
both_ended : (i m j n : ℕ) → ltb i m || ltb j n ≡ false → (m ≤ i) × (n ≤ j)
both_ended i m j n e = by (ltb i m) (ltb j n) refl refl
  where
    by : (p q : Bool) → ltb i m ≡ p → ltb j n ≡ q → (m ≤ i) × (n ≤ j)
    by true q f g = never (rw f) e
    by false true f g = never (rw (f, g)) e
    by false false f g = (ltb-false i m f, ltb-false j n g)

-- from the end on there are no pieces
pieces_end : (g : List ℕ) (at : ℕ) → length g ≤ at → pieces (drop at g) ≡ []
unfolding pieces pieces_of
pieces_end g at h = rw (items_end g at h)

-- no pieces, no bytes
union_ended : (x y : List ℕ) → pieces x ≡ [] → pieces y ≡ [] → union x y ≡ []
unfolding union merged
union_ended x y e f = ap (λ (l : List Piece). joined piece_bytes (merged l (pieces y))) e ∙ ap (joined piece_bytes) f

module _ {a b out₀ out : List ℕ} {keep : Bool} {i j at : ℕ} (r : Walking a b out₀ out keep i j at) where
  -- no byte more or less
  pub walk_length : length out ≡ length out₀
  walk_length = ap length r.stored ∙ length_kept keep out₀ 0 r.done

  module _ {i' j' : ℕ} (o : Onward a i i' b j j') where
    -- the bytes so far, with those of this step
    walk_whole : union a b ≡ (r.done ++ taken a i i' b j j') ++ union (drop i' a) (drop j' b)
    walk_whole =
        r.whole ∙ ap (λ (z : List ℕ). r.done ++ z) o.whole ∙ sym (append_assoc r.done (taken a i i' b j j') (union (drop i' a) (drop j' b)))

    -- how far it goes
    walk_far : at + length (taken a i i' b j j') ≤ i' + j'
    walk_far = omega (arith, taken_length a i i' b j j', r.few, o.up.0, o.up.1)

    -- there is room
    pub walk_room : (well_formed a ≡ true) × (well_formed b ≡ true) → (keep ≡ true → MayKeep a b out₀)
        → (keep ≡ true → at + length (taken a i i' b j j') ≤ length out) × (at + length (taken a i i' b j j') ≤ 131070)
    unfolding MayKeep
    walk_room w may =
        let e = length-append (r.done ++ taken a i i' b j j') (union (drop i' a) (drop j' b)) in
        let f = length-append r.done (taken a i i' b j j') in (
          λ k. omega (arith, (may k).1, ap length walk_whole, e, f, r.count, walk_length),
          omega (arith, walk_far, o.first.within, o.second.within, (well_told a w.0).few, (well_told b w.1).few),
        )

    -- on to the next piece
    pub walk_turn : (at' : ℕ) (out' : List ℕ)
        → (at' ≡ at + length (taken a i i' b j j')) × (out' ≡ kept keep out at (taken a i i' b j j')) → Walking a b out₀ out' keep i' j' at'
    walk_turn at' out' put = record {
      first = o.first;
      second = o.second;
      apart = r.apart ∙ o.apart;
      done = r.done ++ taken a i i' b j j';
      whole = walk_whole;
      count = length-append r.done (taken a i i' b j j') ∙ ap (λ (n : ℕ). n + length (taken a i i' b j j')) r.count ∙ sym put.0;
      few = omega (arith, put.0, walk_far);
      stored =
          put.1 ∙ ap (λ (l : List ℕ). kept keep l at (taken a i i' b j j')) r.stored
          ∙ ap (λ (n : ℕ). kept keep (kept keep out₀ 0 r.done) n (taken a i i' b j j')) (sym r.count)
          ∙ kept_append keep out₀ r.done (taken a i i' b j j');
    }

    -- less is left
    pub walk_less : (length a - i') + (length b - j') < (length a - i) + (length b - j)
    walk_less = omega (arith, o.up.0, o.up.1, o.up.2, o.first.within, o.second.within)

  -- two pieces differ
  pub walk_clash : (n : ℕ) → (keep ≡ true → MayKeep a b out₀) → clash (pieces (drop i a)) (pieces (drop j b)) ≡ Some n
      → Walked a b keep out₀ out (Err n)
  unfolding Walked MayKeep kept
  walk_clash n may e = (r.apart ∙ e, r.stored ∙ untouched keep may)
    where
      untouched : (k : Bool) → (k ≡ true → MayKeep a b out₀) → kept k out₀ 0 r.done ≡ out₀
      untouched true may = let z : None ≡ Some n = sym (may refl).0 ∙ r.apart ∙ e in let y : ◌≡◌ {A = ℕ} 0 1 = cc z in absurd (omega arith)
      untouched false may = refl

  -- nothing is left
  pub walk_end : ltb i (length a) || ltb j (length b) ≡ false → Walked a b keep out₀ out (Ok at)
  unfolding Walked clash
  walk_end e =
      let ends = both_ended i (length a) j (length b) e in
      let ea = pieces_end a i ends.0 in
      let eb = pieces_end b j ends.1 in
      let is : union a b ≡ r.done = r.whole ∙ ap (λ (z : List ℕ). r.done ++ z) (union_ended (drop i a) (drop j b) ea eb) ∙ append-nil r.done in
      (r.apart ∙ ap (λ (l : List Piece). clash l (pieces (drop j b))) ea, sym (ap length is ∙ r.count), r.stored ∙ ap (kept keep out₀ 0) (sym is))
