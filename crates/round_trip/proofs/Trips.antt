-- What a round trip comes to.
use Prim.Native.Nat.{ℕ, ◌≤◌, ◌<◌}
use mathlib.Core.Path.{◌≡◌, ap, ap₂, sym, ◌∙◌, subst}
use mathlib.Core.Bool.{Bool, true, false, ◌&&◌}
use mathlib.Core.List.{List}
use native.Mathlib.Omega.{arith}
use borrow.Author.Tests.{eqb-true, eq-eqb, ltb-true, ltb-false, lt-ltb}
use lib.Dec.{ltb, eqb}
use lib.ListN.{length, take}
use lib.Seq.{take-append_seam, length-take-le, length-sets}
use Rattle.spec.specs.declared.Counts.{Counts}
use Rattle.spec.specs.declared.Loaded.{Loaded}
use Rattle.spec.specs.declared.Written.{Written}
use Rattle.spec.specs.Records.{Placed, record_size}
use Rattle.spec.specs.Load.{Outcome, Same, load, Stores, stores_of, laid_over, room_in, laid_on}
use Rattle.spec.specs.Check.{Given, Checked, bad, good, check, given_by}
use Rattle.spec.specs.Write.{parse_bytes, Writing, unwritten, write_by, write_parse, written, wrote}
use Rattle.spec.specs.Words.{AllBytes}
use Rattle.loader.specs.Loading.{loading, Loads}
use Rattle.records.specs.Steps.{given}
use Rattle.demands.proofs.Choice.{left, right, both, cases}
use Rattle.demands.proofs.Stores.{BeginWith}
use Rattle.demands.proofs.Leaves.{load_begins}
use Rattle.demands.proofs.ReadBack.{reads_back}
use Rattle.demands.proofs.Rooms.{Roomy, any_room}
use Rattle.demands.proofs.Demand3.{ComesBack, comes_back, writes, plain_accepted, plain_is_written}
use Rattle.assemble.specs.Writes.{Writes}
use Rattle.round_trip.specs.Trip.{first, back, second, CameBack, Suited, RoundTrip}

-- THE OUTPUT

-- no more bytes are written than the output has
put_within : (c : Checked) (f : List Placed → List ℕ) (out : List ℕ)
    → (write_by c f out).said.bytes ≤ length (write_by c f out).output
unfolding laid_over
put_within (bad i) f out = omega arith
put_within (good is) f out =
    cases (ltb (length out) (length (f is))) (λ e. rw e (omega arith))
    (λ e. rw e (rw length-sets (ltb-false (length out) (length (f is)) e)))

pub parse_within : (h : List ℕ) (x : Given) (out : List ℕ) → (write_parse h x out).said.bytes ≤ length (write_parse h x out).output
unfolding write_parse
parse_within h x out = put_within (check record_size false x) (parse_bytes h) out

-- THE TRIP

-- an accepted load is not refused for room
accepted_roomy : (o : Outcome) → o.said.number ≡ 0 → Roomy o
accepted_roomy o z = rw z

module _ (g s : List ℕ) (by : AllBytes s) (t : Stores) (out : List ℕ) (u : Stores) where
  -- the outcome of the module's load
  abbrev X : Outcome
  X = load g (room_in t) s

  -- the stores begin with its records
  begins : BeginWith (laid_on t (stores_of X)) (stores_of X)
  begins = load_begins g s t

  -- bytes that fit are written
  back_fits : length (written X) ≤ length out → back g s t out u ≡ wrote (written X) out
  unfolding back first loading
  back_fits h = writes g (room_in t) s by (laid_on t (stores_of X)) begins out h

  -- bytes that do not are refused
  back_full : length out < length (written X) → back g s t out u ≡ unwritten 29 0 out
  unfolding back first loading write_parse
  back_full h = rw (reads_back g (room_in t) s by (laid_on t (stores_of X)) begins, lt-ltb (length out) (length (written X)) h)

  -- so what was written fits
  written_fits : (back g s t out u).said.number ≡ 0 → length (written X) ≤ length out
  written_fits z =
      cases (ltb (length out) (length (written X)))
      (λ e. let full = back_full (ltb-true (length out) (length (written X)) e) in
      absurd (omega (arith, ap (λ (w : Writing). w.said.number) full)))
      (λ e. ltb-false (length out) (length (written X)) e)

  -- what is loaded again is what was written
  second_fits : length (written X) ≤ length out → second g s t out u ≡ load g (room_in u) (written X)
  unfolding second loading
  second_fits h =
      ap (λ (w : Writing). load g (room_in u) (take w.said.bytes w.output)) (back_fits h)
      ∙ ap (load g (room_in u)) (take-append_seam (written X) _)

  -- an accepted module, whose bytes fit the output and are not refused for room, came back
  returned : X.said.number ≡ 0 → length (written X) ≤ length out → Roomy (load g (room_in u) (written X)) → CameBack g s t out u
  unfolding first loading
  returned z h f =
      let c : ComesBack g (room_in t) s (written X) = comes_back g (room_in t) s by z in
      let again : (load g (room_in t) (written X)).said.number ≡ 0 = plain_accepted g (room_in t) (written X) c.bytes c.plain in
      let room : load g (room_in u) (written X) ≡ load g (room_in t) (written X) =
      any_room g (room_in u) (room_in t) (written X) f (accepted_roomy (load g (room_in t) (written X)) again) in
      let came : second g s t out u ≡ load g (room_in t) (written X) = second_fits h ∙ room in
      record {
        accepted = z;
        output = back_fits h;
        itself = λ p. sym (plain_is_written g (room_in t) s by p);
        plain = ap (λ (o : Outcome). o.said.plain) came ∙ c.plain;
        again = ap (λ (o : Outcome). o.said.number) came ∙ again;
        same = subst (λ (o : Outcome). Same o X) (sym came) c.same;
        stores = ap stores_of came ∙ c.stores;
      }

  -- a module whose three numbers are 0 came back
  three_zeros : (first g s t out u).said.number ≡ 0 → (back g s t out u).said.number ≡ 0 → (second g s t out u).said.number ≡ 0
      → CameBack g s t out u
  unfolding first loading
  three_zeros a b c =
      let h = written_fits b in
      returned a h
      (accepted_roomy (load g (room_in u) (written X)) (ap (λ (o : Outcome). o.said.number) (sym (second_fits h)) ∙ c))

  -- so does one that is suited
  suited : Suited g s t out u → CameBack g s t out u
  unfolding first loading
  suited q =
      let long = (comes_back g (room_in t) s by q.accepted).long in
      let fits : length (written X) ≤ length out = omega (arith, long, q.output) in
      returned q.accepted fits (subst Roomy (second_fits fits) q.room)

  -- and its three numbers are 0
  zeros : CameBack g s t out u
      → (eqb (first g s t out u).said.number 0 && eqb (back g s t out u).said.number 0 && eqb (second g s t out u).said.number 0)
      ≡ true
  zeros c =
      both
      (both (eq-eqb _ 0 c.accepted) (eq-eqb _ 0 (ap (λ (w : Writing). w.said.number) c.output)))
      (eq-eqb _ 0 c.again)

  -- what the answer tells, by the three numbers, with what is left
  closes : {yes : Bool} {t' u' : Stores} {out' : List ℕ}
      → yes ≡
      (eqb (first g s t out u).said.number 0 && eqb (back g s t out u).said.number 0 && eqb (second g s t out u).said.number 0)
      → t' ≡ laid_on t (stores_of (first g s t out u)) → out' ≡ (back g s t out u).output
      → u' ≡ laid_on u (stores_of (second g s t out u))
      → RoundTrip g s t out u yes t' out' u'
  closes {yes} n p q r =
      let a : Bool = eqb (first g s t out u).said.number 0 in
      let b : Bool = eqb (back g s t out u).said.number 0 in
      let c : Bool = eqb (second g s t out u).said.number 0 in
      record {
        tells = λ e.
            let all : (a && b && c) ≡ true = sym n ∙ e in
            let two : (a && b) ≡ true = left (a && b) c all in
            three_zeros (eqb-true _ 0 (left a b two)) (eqb-true _ 0 (right a b two)) (eqb-true _ 0 (right (a && b) c all));
        told = λ x. n ∙ zeros x;
        suited = λ x. n ∙ zeros (suited x);
        loaded = p;
        output = q;
        again = r;
      }

-- THE ANSWERS OF THE CALLS

-- what was written fits the output
pub answer_within : (h : List ℕ) (x : Given) (out : List ℕ) {out' : List ℕ} {w : Written}
    → Writes (write_parse h x out) out' w → w.bytes ≤ length out'
answer_within h x out e = rw (e.said, e.output) (parse_within h x out)

-- so many elements are taken
pub taken : (n : ℕ) (l : List ℕ) → n ≤ length l → n ≡ length (take n l)
taken n l h = sym (length-take-le n l h)

-- the three calls, and the test of their numbers
pub trips : {g s out out' : List ℕ} {t t' u u' : Stores} {a b : Loaded} {w : Written} {yes : Bool} → Loads s g t t' a
    → let n : Counts = a.counts in
    let x : Writing =
    write_parse a.header (given t'.instructions t'.log t'.strings n.instructions n.log n.strings) out in
    Writes x out' w → Loads (take w.bytes out') g u u' b → yes ≡ (eqb a.number 0 && eqb w.number 0 && eqb b.number 0)
    → RoundTrip g s t out u yes t' out' u'
unfolding first back second given_by
trips {g} {s} {out} {t = t} {u = u} {b = b} p e f y =
    let x =
    ap₂ (λ (a : Loaded) (t' : Stores). write_parse a.header (given_by t' a.counts) out) p.leaves.said p.leaves.stores in
    let said = e.said ∙ ap (λ (w : Writing). w.said) x in
    let output = e.output ∙ ap (λ (w : Writing). w.output) x in
    let z = ap₂ (λ (n : ℕ) (o : List ℕ). loading (take n o) g u) (ap (λ (w : Written). w.bytes) said) output in
    closes g s p.bytes t out u
    (y ∙ ap₂ (λ (a : Loaded) (w : Written). eqb a.number 0 && eqb w.number 0 && eqb b.number 0) p.leaves.said said
    ∙ ap (λ (n : ℕ). eqb (first g s t out u).said.number 0 && eqb (back g s t out u).said.number 0 && eqb n 0)
    (ap (λ (b : Loaded). b.number) f.leaves.said ∙ ap (λ (o : Outcome). o.said.number) z))
    p.leaves.stores
    output
    (f.leaves.stores ∙ ap (λ (o : Outcome). laid_on u (stores_of o)) z)
