-- What joining answers, by each way through the code.
use Prim.Native.Nat.{ℕ, ◌≤◌, ◌<◌}
use mathlib.Core.Path.{◌≡◌, sym, ◌∙◌, subst}
use mathlib.Core.Bool.{Bool, true, false, not, ◌&&◌}
use mathlib.Core.List.{List}
use Rattle.std.specs.Prelude.{Result, Ok, Err, Option, None, Some}
use native.Mathlib.Omega.{arith}
use borrow.Author.Tests.{le-leb, lt-leb, lt-ltb, le-ltb}
use lib.Dec.{leb, ltb}
use lib.ListN.{length}
use Rattle.spec.specs.declared.Joined.{Joined}
use Rattle.std.specs.Prelude.{if◌then◌else◌}
use Rattle.spec.specs.Words.{AllBytes}
use Rattle.spec.specs.Grammar.{well_formed}
use Rattle.spec.specs.Load.{laid_over}
use Rattle.spec.specs.Join.{pieces, clash, kind_in, value_in, union, Joining, unjoined, put_union, unless_clash, join}
use Rattle.rules.specs.Rules.{is_apart}
use Rattle.formed.specs.Check.{Noted}
use Rattle.spec.proofs.Choice.{cases}
use Rattle.grammar.proofs.IndexLaws.{well_told}
use Rattle.formed.proofs.FlatLaws.{noted_apart}
use Rattle.operand.specs.Log.{kept}
use Rattle.join.specs.Steps.{Walked, MayKeep, flat_both, Joins}
use Rattle.join.proofs.UnionLaws.{formed, union_well}

-- the first grammar is not well-formed
pub first_unformed : (a b out : List ℕ) (r : Joined) → well_formed a ≡ false → r ≡ (unjoined 24 0 0 out).said → Joins (join a b out) r out
unfolding join
first_unformed a b out r w e = record { said = e ∙ rw w; output = rw w }

-- the second is not
pub second_unformed : (a b out : List ℕ) (r : Joined) → well_formed a ≡ true → well_formed b ≡ false → r ≡ (unjoined 24 0 0 out).said
    → Joins (join a b out) r out
unfolding join
second_unformed a b out r wa wb e = record { said = e ∙ rw (wa, wb); output = rw (wa, wb) }

module _ (a b out : List ℕ) (wa : well_formed a ≡ true) (wb : well_formed b ≡ true) where
  -- what joining comes to, by the lowest clash
  join_by : join a b out ≡ unless_clash (clash (pieces a) (pieces b)) (union a b) out
  unfolding join
  join_by = rw (wa, wb)

  -- two pieces differ
  pub clashed : (r : Joined) (n : ℕ) (out' : List ℕ) → Walked a b false out out' (Err n) → r ≡ (unjoined 34 (kind_in n) (value_in n) out).said
      → Joins (join a b out) r out'
  unfolding Walked
  clashed r n out' h e =
      let is : join a b out ≡ unjoined 34 (kind_in n) (value_in n) out = join_by ∙ rw h.0 in
      record { said = e ∙ rw is; output = h.1 ∙ rw is }

  module _ (bya : AllBytes a) (byb : AllBytes b) (apart : clash (pieces a) (pieces b) ≡ None) (n : ℕ) (long : n ≡ length (union a b)) where
    -- the union, by whether it meets the rules
    join_union : join a b out ≡ put_union (union a b) out
    join_union = join_by ∙ rw apart

    -- it meets the rules where it is short enough, and each grammar is flat over the other
    meets_rules : well_formed (union a b) ≡ leb n 65535 && flat_both a b
    meets_rules = rw long (union_well a b (formed a bya wa) (formed b byb wb) apart wa wb)

    -- it does not
    breaks : (r : Joined) → well_formed (union a b) ≡ false → r ≡ (unjoined 24 0 0 out).said → Joins (join a b out) r out
    breaks r w e =
        let is : join a b out ≡ unjoined 24 0 0 out = join_union ∙ rw w in
        record { said = e ∙ rw is; output = rw is }

    -- it is too long
    pub too_long : (r : Joined) → 65535 < n → r ≡ (unjoined 24 0 0 out).said → Joins (join a b out) r out
    too_long r h e = breaks r (meets_rules ∙ rw (lt-leb n 65535 h)) e

    module _ (few : n ≤ 65535) (t : Bool) (asked : t ≡ flat_both a b) where
      -- the rules, by what was asked
      flat_rules : well_formed (union a b) ≡ t
      flat_rules = meets_rules ∙ rw (le-leb n 65535 few, asked)

      -- a parameter's kind has parameters now
      pub not_flat : (r : Joined) → t ≡ false → r ≡ (unjoined 24 0 0 out).said → Joins (join a b out) r out
      not_flat r h e = breaks r (flat_rules ∙ h) e

      -- there is no room
      pub no_room : (r : Joined) → t ≡ true → length out < n → r ≡ (unjoined 35 0 0 out).said → Joins (join a b out) r out
      no_room r h l e =
          let is : join a b out ≡ unjoined 35 0 0 out =
          join_union ∙ rw (flat_rules ∙ h, lt-ltb (length out) (length (union a b)) (omega (arith, l, long))) in
          record { said = e ∙ rw is; output = rw is }

      -- it is written
      pub joined_in : (r : Joined) (m : Result ℕ ℕ) (out' : List ℕ) → t ≡ true → n ≤ length out → Walked a b true out out' m
          → r ≡ record { number = 0; place = 0; value = 0; bytes = n } → Joins (join a b out) r out'
      unfolding laid_over kept Walked
      joined_in r m out' h l w e =
          let is : join a b out ≡ record { said = record { number = 0; place = 0; value = 0; bytes = length (union a b) }; output = laid_over out (union a b) } =
          join_union ∙ rw (flat_rules ∙ h, le-ltb (length out) (length (union a b)) (omega (arith, l, long))) in
          record { said = e ∙ rw (is, long); output = stored m w ∙ rw is }
        where
          stored : (m : Result ℕ ℕ) → Walked a b true out out' m → out' ≡ kept true out 0 (union a b)
          stored (Err k) w = let z : None ≡ Some k = sym apart ∙ w.0 in let y : ◌≡◌ {A = ℕ} 0 1 = cc z in absurd (omega arith)
          stored (Ok k) w = w.2

-- WHAT WAS NOTED

-- no kind that has parameters in one of two grammars is noted of the parameters of the other
pub flat_by : {a b : List ℕ} {owners used owners' used' : List Bool} → Noted a owners used → Noted b owners' used' → (t u : Bool)
    → t ≡ is_apart owners' used → u ≡ is_apart owners used' → t && u ≡ flat_both a b
unfolding flat_both
flat_by r s t u e f = rw (e, f, noted_apart s r, noted_apart r s)

-- HOW MANY BYTES ARE SAID TO BE WRITTEN

-- of one of two
few_if : (t : Bool) (x y : Joining) → x.said.bytes ≤ 65535 → y.said.bytes ≤ 65535 → (if t then x else y).said.bytes ≤ 65535
few_if true x y h k = h
few_if false x y h k = k

-- of a union that is put
put_few : (u out : List ℕ) → (put_union u out).said.bytes ≤ 65535
put_few u out =
    cases (well_formed u) (λ w. rw w (few_if (ltb (length out) (length u)) _ _ (omega arith) (well_told u w).few)) (λ w. rw w (omega arith))

-- by the lowest clash
unless_few : (o : Option ℕ) (u out : List ℕ) → (unless_clash o u out).said.bytes ≤ 65535
unless_few None u out = put_few u out
unless_few (Some n) u out = omega arith

-- no more than a grammar may have
pub bytes_few : (a b out : List ℕ) → (join a b out).said.bytes ≤ 65535
unfolding join
bytes_few a b out =
    few_if (not (well_formed a)) _ _ (omega arith)
    (few_if (not (well_formed b)) _ _ (omega arith) (unless_few (clash (pieces a) (pieces b)) (union a b) out))

-- WHAT THE WALKS SAID

-- what was said of an answer is said of what it is
pub walked_as : (a b : List ℕ) (keep : Bool) (out out' : List ℕ) (m l : Result ℕ ℕ) → Walked a b keep out out' m → m ≡ l → Walked a b keep out out' l
walked_as a b keep out out' m l h e = subst (Walked a b keep out out') e h

-- the union's length was measured
pub measured_union : (a b out out' : List ℕ) (n : ℕ) → Walked a b false out out' (Ok n) → (clash (pieces a) (pieces b) ≡ None) × (n ≡ length (union a b))
unfolding Walked
measured_union a b out out' n h = (h.0, h.1)

-- and nothing was written
pub measured_alone : (a b out out' : List ℕ) (n : ℕ) (r : Joined) (o : List ℕ) → Walked a b false out out' (Ok n) → Joins (join a b out') r o
    → Joins (join a b out) r o
unfolding Walked kept
measured_alone a b out out' n r o h j = subst (λ (z : List ℕ). Joins (join a b z) r o) h.2 j

-- it may be kept where it fits
pub may_keep : (a b out : List ℕ) (n : ℕ) → clash (pieces a) (pieces b) ≡ None → n ≡ length (union a b) → n ≤ length out → MayKeep a b out
unfolding MayKeep
may_keep a b out n apart long h = (apart, omega (arith, h, long))
