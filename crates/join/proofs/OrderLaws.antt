-- Joining in whatever order: in the other order, grouped either way, with itself, with nothing.
use Prim.Native.Nat.{ℕ, ◌+◌, ◌≤◌}
use mathlib.Core.Path.{◌≡◌, refl, sym, ap, ◌∙◌, subst}
use mathlib.Core.Bool.{Bool, true, false}
use mathlib.Core.List.{List, []}
use Rattle.std.specs.Prelude.{Option, None, Some}
use native.Mathlib.Omega.{arith}
use borrow.Author.Tests.{le-leb, le-ltb, ltb-false}
use lib.Dec.{ltb}
use lib.ListN.{length, take, drop, length-append}
use lib.Seq.{sets-eq, take-append_seam}
use Rattle.spec.specs.declared.Joined.{Joined}
use Rattle.spec.specs.Base.{and_then, or_else, joined}
use Rattle.spec.specs.Words.{AllBytes}
use Rattle.spec.specs.Grammar.{items, items_from, rules_from, enumerants_of, all_flat, well_formed_items, well_formed}
use Rattle.spec.specs.Load.{laid_over}
use Rattle.spec.specs.Join.{Piece, pieces_of, pieces, piece_bytes, found, merged, clash, union, Joining, put_union, unless_clash, join}
use Rattle.spec.proofs.Choice.{both}
use Rattle.grammar.proofs.IndexLaws.{well_told}
use Rattle.join.specs.Made.{made_by, made}
use Rattle.join.specs.Steps.{Joins}
use Rattle.join.proofs.MergeLaws.{found_alike, found_merged, rising_merged, Agree, agree, no_clash, clash_sym, merging}
use Rattle.join.proofs.UnionLaws.{Formed, formed, union_formed, union_bytes, union_found, union_rules, flat_part}

-- TWO GRAMMARS THAT JOIN

-- all that is asked of them but room
pub record Accepts (a b : List ℕ) : Type 0 where
  pub first : well_formed a ≡ true
  pub second : well_formed b ≡ true
  pub apart : clash (pieces a) (pieces b) ≡ None
  pub well : well_formed (union a b) ≡ true

-- what was found, or else the same
else_same : {A : Type 0} (o : Option A) → or_else o o ≡ o
else_same None = refl
else_same (Some x) = refl

-- in the other order, where both are the same
else_swap : {A : Type 0} (o p : Option A) → ((x y : A) → o ≡ Some x → p ≡ Some y → x ≡ y) → or_else o p ≡ or_else p o
else_swap None None g = refl
else_swap None (Some y) g = refl
else_swap (Some x) None g = refl
else_swap (Some x) (Some y) g = ap Some (g x y refl refl)

-- grouped either way
else_group : {A : Type 0} (o p q : Option A) → or_else (or_else o p) q ≡ or_else o (or_else p q)
else_group None p q = refl
else_group (Some x) p q = refl

module _ (a b : List ℕ) (fa : Formed a) (fb : Formed b) (apart : clash (pieces a) (pieces b) ≡ None) where
  -- what is found in both is the same
  agrees : Agree (pieces a) (pieces b)
  agrees = agree (pieces a) (pieces b) fa.read fb.read apart

  -- the union in the other order is the same
  union_swap : union a b ≡ union b a
  unfolding union
  union_swap =
      ap (joined piece_bytes)
      (found_alike (merged (pieces a) (pieces b)) (merged (pieces b) (pieces a)) (rising_merged (pieces a) (pieces b) fb.rising)
      (rising_merged (pieces b) (pieces a) fa.rising)
      (λ n. found_merged (pieces a) (pieces b) n ∙ else_swap (found n (pieces a)) (found n (pieces b)) (agrees n) ∙ sym (found_merged (pieces b) (pieces a) n)))

  -- what is joined is no longer than the union
  union_longer : length b ≤ length (union a b)
  unfolding union
  union_longer =
      subst (λ (l : List ℕ). length l ≤ length (joined piece_bytes (merged (pieces a) (pieces b)))) fb.is
      (merging (λ xs ys zs. length (joined piece_bytes ys) ≤ length (joined piece_bytes zs)) (λ ys. omega arith) (λ x xs. omega arith)
      (λ x y xs ys zs h.
      let e = length-append (piece_bytes x) (joined piece_bytes zs) in
      omega (arith, e, h))
      (λ x y xs ys zs h.
      let e = length-append (piece_bytes y) (joined piece_bytes zs) in
      let f = length-append (piece_bytes y) (joined piece_bytes ys) in
      omega (arith, e, f, h))
      (λ x xs ys zs h.
      let e = length-append (piece_bytes x) (joined piece_bytes zs) in
      let f = length-append (piece_bytes x) (joined piece_bytes ys) in
      omega (arith, e, f, h))
      (pieces a) (pieces b) fa.rising fb.rising fa.read fb.read apart)

-- a union in which every key finds what it finds in a grammar is that grammar
union_is : (a b c : List ℕ) → Formed a → Formed b → Formed c → ((n : ℕ) → or_else (found n (pieces a)) (found n (pieces b)) ≡ found n (pieces c))
    → union a b ≡ c
unfolding union
union_is a b c fa fb fc e =
    ap (joined piece_bytes)
    (found_alike (merged (pieces a) (pieces b)) (pieces c) (rising_merged (pieces a) (pieces b) fb.rising) fc.rising
    (λ n. found_merged (pieces a) (pieces b) n ∙ e n))
    ∙ fc.is

-- IN THE OTHER ORDER

-- two grammars that join do so in the other order
accepts_swap : (a b : List ℕ) → AllBytes a → AllBytes b → Accepts a b → Accepts b a × (union a b ≡ union b a)
accepts_swap a b bya byb j =
    let fa = formed a bya j.first in
    let fb = formed b byb j.second in
    let same = union_swap a b fa fb j.apart in (
      record {
        first = j.second;
        second = j.first;
        apart = sym (clash_sym (pieces a) (pieces b) fa.rising fb.rising) ∙ j.apart;
        well = ap well_formed (sym same) ∙ j.well;
      },
      same,
    )

-- JOINED IN THE OTHER ORDER, into an output alike: the same answer, number, place, value and bytes, and the same output
pub swapped : (a b out : List ℕ) → AllBytes a → AllBytes b → join a b out ≡ join b a out
unfolding join
swapped a b out bya byb = by (well_formed a) (well_formed b) refl refl
  where
    clashing : (o : Option ℕ) → clash (pieces a) (pieces b) ≡ o → well_formed a ≡ true → well_formed b ≡ true
        → unless_clash o (union a b) out ≡ unless_clash o (union b a) out
    clashing None e wa wb = ap (λ (u : List ℕ). put_union u out) (union_swap a b (formed a bya wa) (formed b byb wb) e)
    clashing (Some n) e wa wb = refl

    by : (t u : Bool) → well_formed a ≡ t → well_formed b ≡ u → join a b out ≡ join b a out
    by true true wa wb =
        rw (wa, wb)
        (clashing (clash (pieces a) (pieces b)) refl wa wb
        ∙ ap (λ (o : Option ℕ). unless_clash o (union b a) out)
        (clash_sym (pieces a) (pieces b) (formed a bya wa).rising (formed b byb wb).rising))
    by true false wa wb = rw (wa, wb)
    by false true wa wb = rw (wa, wb)
    by false false wa wb = rw (wa, wb)

-- GROUPED EITHER WAY

module _ (a b c : List ℕ) (bya : AllBytes a) (byb : AllBytes b) (byc : AllBytes c) (j : Accepts a b) (k : Accepts (union a b) c) where
  fa : Formed a
  fa = formed a bya j.first

  fb : Formed b
  fb = formed b byb j.second

  fc : Formed c
  fc = formed c byc k.second

  -- the first two, joined
  fu : Formed (union a b)
  fu = union_formed a b fa fb

  -- what is found in the first and the second is the same
  first_agree : Agree (pieces a) (pieces b)
  first_agree = agrees a b fa fb j.apart

  -- and what is found in their union and the third
  union_agree : Agree (pieces (union a b)) (pieces c)
  union_agree = agrees (union a b) c fu fc k.apart

  -- and so what is found in the second and the third
  second_agree : Agree (pieces b) (pieces c)
  second_agree n y z p q = by (found n (pieces a)) refl
    where
      by : (o : Option Piece) → found n (pieces a) ≡ o → y ≡ z
      by None e = union_agree n y z (union_found a b fa fb n ∙ rw e p) q
      by (Some x) e = sym (first_agree n x y e p) ∙ union_agree n x z (union_found a b fa fb n ∙ rw e) q

  -- they do not clash
  second_apart : clash (pieces b) (pieces c) ≡ None
  second_apart = no_clash (pieces b) (pieces c) fb.rising second_agree

  -- the last two, joined
  fv : Formed (union b c)
  fv = union_formed b c fb fc

  -- and what is found in the first and in that union
  group_agree : Agree (pieces a) (pieces (union b c))
  group_agree n x w p q = by (found n (pieces b)) refl
    where
      by : (o : Option Piece) → found n (pieces b) ≡ o → x ≡ w
      by None e =
          let third : found n (pieces (union b c)) ≡ found n (pieces c) =
          union_found b c fb fc n ∙ ap (λ (o : Option Piece). or_else o (found n (pieces c))) e in
          union_agree n x w (union_found a b fa fb n ∙ rw p) (sym third ∙ q)
      by (Some y) e =
          let second : found n (pieces (union b c)) ≡ Some y =
          union_found b c fb fc n ∙ ap (λ (o : Option Piece). or_else o (found n (pieces c))) e in
          let is : Some y ≡ Some w = sym second ∙ q in
          first_agree n x w p (e ∙ is)

  -- they do not clash
  group_apart : clash (pieces a) (pieces (union b c)) ≡ None
  group_apart = no_clash (pieces a) (pieces (union b c)) fa.rising group_agree

  -- the unions are the same
  pub group_same : union (union a b) c ≡ union a (union b c)
  unfolding union
  group_same =
      ap (joined piece_bytes)
      (found_alike (merged (pieces (union a b)) (pieces c)) (merged (pieces a) (pieces (union b c)))
      (rising_merged (pieces (union a b)) (pieces c) fc.rising) (rising_merged (pieces a) (pieces (union b c)) fv.rising) alike)
    where
      alike : (n : ℕ) → found n (merged (pieces (union a b)) (pieces c)) ≡ found n (merged (pieces a) (pieces (union b c)))
      alike n =
          found_merged (pieces (union a b)) (pieces c) n
          ∙ ap (λ (o : Option Piece). or_else o (found n (pieces c))) (union_found a b fa fb n)
          ∙ else_group (found n (pieces a)) (found n (pieces b)) (found n (pieces c))
          ∙ ap (or_else (found n (pieces a))) (sym (union_found b c fb fc n))
          ∙ sym (found_merged (pieces a) (pieces (union b c)) n)

  -- the whole is well-formed
  group_well : well_formed (union a (union b c)) ≡ true
  group_well = ap well_formed (sym group_same) ∙ k.well

  -- and so is its part
  part_well : well_formed (union b c) ≡ true
  unfolding well_formed well_formed_items
  part_well =
      let few = le-leb (length (union b c)) 65535
      (omega (arith, union_longer a (union b c) fa fv group_apart, (well_told (union a (union b c)) group_well).few)) in
      let flat = flat_part a (union b c) fa fv group_apart (well_told (union a (union b c)) group_well).flat in
      both few (both (union_rules b c fb fc) flat)

  -- so the last two join, and the first with them
  pub grouped_on : Accepts b c × Accepts a (union b c)
  grouped_on = (
    record { first = j.second; second = k.second; apart = second_apart; well = part_well },
    record { first = j.first; second = part_well; apart = group_apart; well = group_well },
  )

-- WITH ROOM ENOUGH

-- bytes at the start of an output
laid_front : (out u : List ℕ) → length u ≤ length out → take (length u) (laid_over out u) ≡ u
unfolding laid_over
laid_front out u h =
    ap (take (length u)) (sets-eq u out 0 (omega arith)) ∙ take-append_seam u (drop (0 + length u) out)

-- what joining comes to where it is accepted
accepted : (a b out : List ℕ) → Accepts a b → length (union a b) ≤ length out
    → join a b out ≡ record { said = record { number = 0; place = 0; value = 0; bytes = length (union a b) }; output = laid_over out (union a b) }
unfolding join
accepted a b out j h = rw (j.first, j.second, j.apart, j.well, le-ltb (length out) (length (union a b)) h)

-- the same of a union that is known
accepted_as : (a b u out : List ℕ) → Accepts a b → union a b ≡ u → length u ≤ length out
    → join a b out ≡ record { said = record { number = 0; place = 0; value = 0; bytes = length u }; output = laid_over out u }
accepted_as a b u out j e h = subst (λ (u : List ℕ). length u ≤ length out → join a b out ≡ record { said = record { number = 0; place = 0; value = 0; bytes = length u }; output = laid_over out u }) e (accepted a b out j) h

-- WITH ITSELF: a well-formed grammar joined with itself is itself, byte for byte
pub itself : (a out : List ℕ) → AllBytes a → well_formed a ≡ true → length a ≤ length out
    → join a a out ≡ record { said = record { number = 0; place = 0; value = 0; bytes = length a }; output = laid_over out a }
itself a out by w h =
    let f = formed a by w in
    let same : Agree (pieces a) (pieces a) = λ n x y p q. one x y (sym p ∙ q) in
    let is : union a a ≡ a = whole f in
    accepted_as a a a out (record { first = w; second = w; apart = no_clash (pieces a) (pieces a) f.rising same; well = ap well_formed is ∙ w }) is h
  where
    one : (x y : Piece) → Some x ≡ Some y → x ≡ y
    one x y e = cc e

    whole : Formed a → union a a ≡ a
    whole f = union_is a a a f f f (λ n. else_same (found n (pieces a)))

-- WITH NOTHING: the grammar of no bytes changes nothing, on either side
pub nothing_first : (b out : List ℕ) → AllBytes b → well_formed b ≡ true → length b ≤ length out
    → join [] b out ≡ record { said = record { number = 0; place = 0; value = 0; bytes = length b }; output = laid_over out b }
unfolding union pieces pieces_of items items_from merged clash well_formed well_formed_items rules_from enumerants_of all_flat
nothing_first b out by w h =
    let is : union [] b ≡ b = (formed b by w).is in
    accepted_as [] b b out (record { first = refl; second = w; apart = refl; well = ap well_formed is ∙ w }) is h

-- the other side
pub nothing_second : (a out : List ℕ) → AllBytes a → well_formed a ≡ true → length a ≤ length out
    → join a [] out ≡ record { said = record { number = 0; place = 0; value = 0; bytes = length a }; output = laid_over out a }
nothing_second a out by w h = swapped a [] out by tt ∙ nothing_first a out by w h

-- what joining made is the union of grammars that join
made_told : (a b out u : List ℕ) → made (join a b out) ≡ Some u → Accepts a b × (u ≡ union a b)
unfolding join made made_by
made_told a b out u e = by (well_formed a) (well_formed b) (clash (pieces a) (pieces b)) (well_formed (union a b)) (ltb (length out) (length (union a b))) refl refl refl refl refl e
  where
    no : {A : Type 0} → None ≡ Some u → A
    no q = let z : ◌≡◌ {A = ℕ} 0 1 = cc q in absurd (omega arith)

    by : (p q : Bool) (o : Option ℕ) (r s : Bool) → well_formed a ≡ p → well_formed b ≡ q → clash (pieces a) (pieces b) ≡ o → well_formed (union a b) ≡ r
        → ltb (length out) (length (union a b)) ≡ s → made (join a b out) ≡ Some u → Accepts a b × (u ≡ union a b)
    by false q o r s wa wb c wu l e = no (rw wa at e)
    by true false o r s wa wb c wu l e = no (rw (wa, wb) at e)
    by true true (Some n) r s wa wb c wu l e = no (rw (wa, wb, c) at e)
    by true true None false s wa wb c wu l e = no (rw (wa, wb, c, wu) at e)
    by true true None true true wa wb c wu l e = no (rw (wa, wb, c, wu, l) at e)
    by true true None true false wa wb c wu l e =
        let is : Some (take (length (union a b)) (laid_over out (union a b))) ≡ Some u = rw (wa, wb, c, wu, l) at e in
        let first : take (length (union a b)) (laid_over out (union a b)) ≡ u = cc is in
        (record { first = wa; second = wb; apart = c; well = wu }, sym first ∙ laid_front out (union a b) (ltb-false (length out) (length (union a b)) l))

-- grammars that join make their union, where there is room enough
made_some : (a b out : List ℕ) → Accepts a b → 65535 ≤ length out → made (join a b out) ≡ Some (union a b)
unfolding made made_by
made_some a b out j h =
    let fits : length (union a b) ≤ length out = omega (arith, h, (well_told (union a b) j.well).few) in
    ap made (accepted a b out j fits) ∙ ap Some (laid_front out (union a b) fits)

-- two that are there alike are the same
option_same : {A : Type 0} (o p : Option A) → ((u : A) → o ≡ Some u → p ≡ Some u) → ((u : A) → p ≡ Some u → o ≡ Some u) → o ≡ p
option_same None None f g = refl
option_same None (Some y) f g = g y refl
option_same (Some x) p f g = sym (f x refl)

-- what there is after going on
then_told : {A B : Type 0} (o : Option A) (f : A → Option B) (u : B) → and_then o f ≡ Some u → (l : A) × (o ≡ Some l) × (f l ≡ Some u)
then_told None f u e = let z : ◌≡◌ {A = ℕ} 0 1 = cc e in absurd (omega arith)
then_told (Some l) f u e = (l, refl, e)

-- the first two, then the third
record Lefts (a b c u : List ℕ) : Type 0 where
  inner : Accepts a b
  outer : Accepts (union a b) c
  is : u ≡ union (union a b) c

-- the last two, then the first with them
record Rights (a b c u : List ℕ) : Type 0 where
  inner : Accepts b c
  outer : Accepts a (union b c)
  is : u ≡ union a (union b c)

module _ (a b c : List ℕ) (bya : AllBytes a) (byb : AllBytes b) (byc : AllBytes c) where
  -- what joins from the left joins from the right
  lefts_right : (u : List ℕ) → Lefts a b c u → Rights a b c u
  lefts_right u l =
      let on = grouped_on a b c bya byb byc l.inner l.outer in
      record { inner = on.0; outer = on.1; is = l.is ∙ group_same a b c bya byb byc l.inner l.outer }

-- and the other way, in the other order
rights_left : (a b c u : List ℕ) → AllBytes a → AllBytes b → AllBytes c → Rights a b c u → Lefts a b c u
rights_left a b c u bya byb byc r =
    let fb = formed b byb r.inner.first in
    let fc = formed c byc r.inner.second in
    let inner = accepts_swap b c byb byc r.inner in
    let outer = accepts_swap a (union b c) bya (union_bytes b c fb fc) r.outer in
    let turned = lefts_right c b a byc byb bya u (record {
      inner = inner.0;
      outer = subst (λ (l : List ℕ). Accepts l a) inner.1 outer.0;
      is = r.is ∙ outer.1 ∙ ap (λ (l : List ℕ). union l a) inner.1;
    }) in
    let fa = formed a bya r.outer.first in
    let back = accepts_swap b a byb bya turned.inner in
    let last = accepts_swap c (union a b) byc (union_bytes a b fa fb) (subst (Accepts c) back.1 turned.outer) in
    record { inner = back.0; outer = last.0; is = turned.is ∙ ap (union c) back.1 ∙ last.1 }

-- GROUPED EITHER WAY, with room enough: the same bytes, or none on both sides
pub grouped : (a b c x y z w : List ℕ) → AllBytes a → AllBytes b → AllBytes c → 65535 ≤ length x → 65535 ≤ length y → 65535 ≤ length z → 65535 ≤ length w
    → and_then (made (join a b x)) (λ l. made (join l c y)) ≡ and_then (made (join b c z)) (λ l. made (join a l w))
grouped a b c x y z w bya byb byc hx hy hz hw = option_same _ _ to from
  where
    to : (u : List ℕ) → and_then (made (join a b x)) (λ l. made (join l c y)) ≡ Some u → and_then (made (join b c z)) (λ l. made (join a l w)) ≡ Some u
    to u e =
        let t = then_told (made (join a b x)) (λ l. made (join l c y)) u e in
        let i = made_told a b x t.0 t.1 in
        let o = made_told (union a b) c y u (subst (λ (l : List ℕ). made (join l c y) ≡ Some u) i.1 t.2) in
        let r = lefts_right a b c bya byb byc u (record { inner = i.0; outer = o.0; is = o.1 }) in
        rw (made_some b c z r.inner hz) (made_some a (union b c) w r.outer hw ∙ ap Some (sym r.is))

    from : (u : List ℕ) → and_then (made (join b c z)) (λ l. made (join a l w)) ≡ Some u → and_then (made (join a b x)) (λ l. made (join l c y)) ≡ Some u
    from u e =
        let t = then_told (made (join b c z)) (λ l. made (join a l w)) u e in
        let i = made_told b c z t.0 t.1 in
        let o = made_told a (union b c) w u (subst (λ (l : List ℕ). made (join a l w) ≡ Some u) i.1 t.2) in
        let l = rights_left a b c u bya byb byc (record { inner = i.0; outer = o.0; is = o.1 }) in
        rw (made_some a b x l.inner hx) (made_some (union a b) c y l.outer hy ∙ ap Some (sym l.is))

-- OVER ANY CALLS THAT RETURNED

-- what a call made
call_made : {x : Joining} {r : Joined} {o : List ℕ} → Joins x r o → made x ≡ made_by r o
unfolding made
call_made j = rw (j.said, j.output)

-- a call in other words
pub call_is : {x y : Joining} {r : Joined} {o : List ℕ} → x ≡ y → Joins x r o → Joins y r o
call_is {r = r} {o = o} e j = subst (λ (z : Joining). Joins z r o) e j

-- any output that is long enough is answered alike
said_any : (a b x y : List ℕ) → 65535 ≤ length x → 65535 ≤ length y → (join a b x).said ≡ (join a b y).said
unfolding join
said_any a b x y hx hy = by (well_formed a) (well_formed b) (clash (pieces a) (pieces b)) (well_formed (union a b)) refl refl refl refl
  where
    by : (p q : Bool) (o : Option ℕ) (r : Bool) → well_formed a ≡ p → well_formed b ≡ q → clash (pieces a) (pieces b) ≡ o → well_formed (union a b) ≡ r
        → (join a b x).said ≡ (join a b y).said
    by false q o r wa wb c wu = rw wa
    by true false o r wa wb c wu = rw (wa, wb)
    by true true (Some n) r wa wb c wu = rw (wa, wb, c)
    by true true None false wa wb c wu = rw (wa, wb, c, wu)
    by true true None true wa wb c wu =
        let few = (well_told (union a b) wu).few in
        rw (wa, wb, c, wu, le-ltb (length x) (length (union a b)) (omega (arith, few, hx)), le-ltb (length y) (length (union a b)) (omega (arith, few, hy)))

-- and gets the same
made_any : (a b x y : List ℕ) → 65535 ≤ length x → 65535 ≤ length y → made (join a b x) ≡ made (join a b y)
made_any a b x y hx hy = option_same _ _ (to x y hy) (to y x hx)
  where
    to : (x y : List ℕ) → 65535 ≤ length y → (u : List ℕ) → made (join a b x) ≡ Some u → made (join a b y) ≡ Some u
    to x y hy u e = let t = made_told a b x u e in made_some a b y t.0 hy ∙ ap Some (sym t.1)

-- two calls, in either order: the same number, place, value and count, and the same bytes
pub calls_swapped : (a b x y : List ℕ) → AllBytes a → AllBytes b → 65535 ≤ length x → 65535 ≤ length y → {r s : Joined} {o p : List ℕ}
    → Joins (join a b x) r o → Joins (join b a y) s p → (r ≡ s) × (made_by r o ≡ made_by s p)
calls_swapped a b x y bya byb hx hy j k =
    let turned = swapped a b y bya byb in (
      j.said ∙ said_any a b x y hx hy ∙ ap (λ (z : Joining). z.said) turned ∙ sym k.said,
      sym (call_made j) ∙ made_any a b x y hx hy ∙ ap made turned ∙ call_made k,
    )

module _ (a b c x y z w : List ℕ) (bya : AllBytes a) (byb : AllBytes b) (byc : AllBytes c) (hx : 65535 ≤ length x) (hy : 65535 ≤ length y)
    (hz : 65535 ≤ length z) (hw : 65535 ≤ length w) {r s : Joined} {o p : List ℕ} (i : Joins (join a b x) r o) (j : Joins (join b c z) s p) where
  -- four calls: where the first two and then the third are joined, the last two are, and the first with them to the same bytes
  pub calls_grouped : {t : Joined} {q l u : List ℕ} → made_by r o ≡ Some l → Joins (join l c y) t q → made_by t q ≡ Some u
      → (m : List ℕ) × (made_by s p ≡ Some m) × ((k : Joined) (v : List ℕ) → Joins (join a m w) k v → made_by k v ≡ Some u)
  calls_grouped {l = l} {u = u} e k f =
      let ab : made (join a b x) ≡ Some l = call_made i ∙ e in
      let left : and_then (made (join a b x)) (λ l. made (join l c y)) ≡ Some u = rw ab (call_made k ∙ f) in
      let t = then_told (made (join b c z)) (λ l. made (join a l w)) u (sym (grouped a b c x y z w bya byb byc hx hy hz hw) ∙ left) in
      (t.0, sym (call_made j) ∙ t.1, λ n v h. sym (call_made h) ∙ t.2)

  -- and the other way
  pub calls_grouped_back : {t : Joined} {q m u : List ℕ} → made_by s p ≡ Some m → Joins (join a m w) t q → made_by t q ≡ Some u
      → (l : List ℕ) × (made_by r o ≡ Some l) × ((k : Joined) (v : List ℕ) → Joins (join l c y) k v → made_by k v ≡ Some u)
  calls_grouped_back {m = m} {u = u} e k f =
      let bc : made (join b c z) ≡ Some m = call_made j ∙ e in
      let right : and_then (made (join b c z)) (λ l. made (join a l w)) ≡ Some u = rw bc (call_made k ∙ f) in
      let t = then_told (made (join a b x)) (λ l. made (join l c y)) u (grouped a b c x y z w bya byb byc hx hy hz hw ∙ right) in
      (t.0, sym (call_made i) ∙ t.1, λ n v h. sym (call_made h) ∙ t.2)

-- a call that joins a well-formed grammar with itself
pub call_itself : (a out : List ℕ) → AllBytes a → well_formed a ≡ true → length a ≤ length out → {r : Joined} {o : List ℕ} → Joins (join a a out) r o
    → (r ≡ record { number = 0; place = 0; value = 0; bytes = length a }) × (o ≡ laid_over out a)
call_itself a out by w h j = let k = call_is (itself a out by w h) j in (k.said, k.output)

-- and one that joins it with nothing, on either side
pub call_nothing : (a out : List ℕ) → AllBytes a → well_formed a ≡ true → length a ≤ length out → {r s : Joined} {o p : List ℕ}
    → Joins (join a [] out) r o → Joins (join [] a out) s p
    → ((r ≡ record { number = 0; place = 0; value = 0; bytes = length a }) × (o ≡ laid_over out a)) × ((s ≡ r) × (p ≡ o))
call_nothing a out by w h i j =
    let k = call_is (nothing_second a out by w h) i in
    let l = call_is (nothing_first a out by w h) j in
    ((k.said, k.output), (l.said ∙ sym k.said, l.output ∙ sym k.output))
