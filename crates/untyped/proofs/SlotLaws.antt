-- Laws of one operand of a row: which read it is by its kind, and what the walk has seen with it.
use Prim.Native.Nat.{ℕ, ◌+◌, ◌-◌, ◌≤◌}
use mathlib.Core.Path.{◌≡◌, refl, ap, sym, ◌∙◌}
use mathlib.Core.Bool.{Bool, true, false, not, true≢false}
use mathlib.Core.List.{List, [], ◌∷◌, ◌++◌, append_assoc, append-nil}
use Rattle.std.specs.Prelude.{Option, Some}
use native.Mathlib.Omega.{arith}
use borrow.Author.Tests.{eq-eqb, ne_eqb, eqb-true}
use lib.Dec.{eqb}
use Rattle.spec.specs.declared.Refusal.{Refusal}
use Rattle.std.specs.Prelude.{if◌then◌else◌}
use Rattle.spec.specs.Base.{within}
use Rattle.spec.specs.Kinds.{is_result}
use Rattle.spec.specs.Records.{Operand, narrow, wide, text, Entry}
use Rattle.spec.specs.Plain.{as_ids}
use Rattle.spec.specs.Reader.{Reader, Read, refused, after, give, read_word}
use Rattle.spec.specs.Grammar.{Grammar}
use Rattle.spec.specs.Match.{Seen, selector, with_type, with_id, with_operands, read_each, literal_kind_of, type_of, read_literal_as, read_literal, read_embedded, read_operand, read_pair, read_kind, read_slot}
use Rattle.decoder.specs.declared.Decoder.{Decoder}
use Rattle.decoder.specs.Answer.{reader_of, word_from}
use Rattle.decoder.proofs.Laws.{word_got, word_refused}
use Rattle.tracker.specs.Track.{literal_of}
use Rattle.used.specs.declared.used.Used.{Used}
use Rattle.used.specs.Parse.{Notes, selector_of, notes_of, note_as, note, notes, no_notes, Step, Few, Held, Parses, is_word, is_untyped, literal_for, literal_alone, pair_alone, kind_alone, Walked, SlotRead, SlotWalk, SlotWalks}
use Rattle.used.specs.Fresh.{unused, with_results, with_result}
use Rattle.untyped.proofs.KindLaws.{not_kind, word_no_enum, number_word, number_untyped, result_else}
use Rattle.untyped.proofs.One.{step_word, spotted_id}
use Rattle.untyped.proofs.Walk.{held_then, step_went, same_read}
use Rattle.decoder.specs.Answer.{Answered}
use Rattle.std.specs.Prelude.{Err, Ok}

-- KINDS

module _ (g : Grammar) (literal : Option ℕ) (k : ℕ) (r : Reader) where
  -- a literal by the result type
  pub kind_literal : k ≡ 48 → kind_alone g literal k r ≡ literal_alone literal r
  unfolding kind_alone
  kind_literal e = simp (eq-eqb k 48 e)

  -- a literal by the first operand, then an id
  pub kind_pair : k ≡ 49 → kind_alone g literal k r ≡ pair_alone literal r
  unfolding kind_alone
  kind_pair e = rw e

  -- an embedded operation
  pub kind_embedded : k ≡ 39 → kind_alone g literal k r ≡ read_embedded g r
  unfolding kind_alone
  kind_embedded e = rw e

  -- what is read without a type
  pub kind_operand : is_untyped k ≡ true → kind_alone g literal k r ≡ read_operand g k r
  unfolding kind_alone is_untyped
  kind_operand h =
      simp (ne_eqb k 48 (not_kind is_untyped k 48 h refl), ne_eqb k 49 (not_kind is_untyped k 49 h refl), ne_eqb k 39 (not_kind is_untyped k 39 h refl))

  -- an id or a number
  pub kind_word : within 31 k 35 ≡ true → kind_alone g literal k r ≡ read_each g (k ∷ []) r
  unfolding read_operand is_word
  kind_word h =
      let w = number_word k h in
      kind_operand (number_untyped k h)
      ∙ simp (word_no_enum k w, ne_eqb k 50 (not_kind is_word k 50 w refl), ne_eqb k 51 (not_kind is_word k 51 w refl))

  -- a string
  pub kind_text : k ≡ 40 → kind_alone g literal k r ≡ read_each g (40 ∷ []) r
  unfolding kind_alone read_operand
  kind_text e = rw e

-- little is in use after a result
result_few : (s : List ℕ) (d e : Decoder) (u : Used) (t i : Option ℕ) → Few s d u → Step s d e 1 → Few s e (with_results t i u)
unfolding with_results
result_few s d e u t i f p = record {
  short = f.short;
  inside = p.inside;
  left = f.left - 1;
  limited = (p.counted f.left f.limited).1;
  operands = omega (arith, p.next, f.operands);
  strings = omega (arith, p.next, f.strings);
  log = omega (arith, p.next, f.log);
  fits = f.fits;
}

-- THE IDS THAT LITERALS ARE READ BY

-- the id is noted with the first operand alone
id_stays : (os : List Operand) (n : Notes) → 1 ≤ n.count → (notes os n).id ≡ n.id
unfolding notes note note_as
id_stays [] n h = refl
id_stays (o ∷ os) n h =
    let z : eqb n.count 0 ≡ false = ne_eqb n.count 0 (λ e. omega arith) in
    id_stays os (note o n) (omega arith) ∙ simp z

-- it is the id of the first operand, whatever follows
first_selects : (o : Operand) (os : List Operand) → selector (o ∷ []) ≡ selector (o ∷ os)
first_selects (narrow k v) os = refl
first_selects (wide k v) os = refl
first_selects (text s) os = refl

-- the id that is noted is that of the first operand
noted_id : (os : List Operand) → (notes os no_notes).id ≡ selector os
unfolding notes note note_as no_notes
noted_id [] = refl
noted_id (o ∷ os) = id_stays os (note o no_notes) (omega arith) ∙ first_selects o os

module _ {log₀ strs₀ log strs : List ℕ} {u₀ u : Used} {x : Seen} (w : Walked log₀ strs₀ log strs u₀ u x) where
  -- the id in use is that of the first operand seen
  selector_is : selector_of u ≡ selector x.operands
  unfolding notes_of
  selector_is = ap (λ n. n.id) w.noted ∙ noted_id x.operands

  -- the read of an operand that is no result, by its kind and that of a literal
  kind_by_lem : (g : Grammar) (types : List Entry) (j : ℕ) (l : Option ℕ) (r : Reader) → l ≡ literal_for types u j → (a b : Bool) → eqb j 48 ≡ a → eqb j 49 ≡ b
      → read_kind g types x j r ≡ kind_alone g l j r
  unfolding read_kind kind_alone literal_alone pair_alone read_pair read_literal literal_for
  kind_by_lem g types j l r f true b p q =
      simp p (ap (λ (o : Option ℕ). after (read_literal_as o r) (λ z. give (z ∷ [])))
      (ap (λ (t : Option ℕ). literal_kind_of (type_of t types)) (sym w.rtype) ∙ sym (simp p at f)))
  kind_by_lem g types j l r f false true p q =
      simp (p, q) (ap (λ (o : Option ℕ). after (read_literal_as o r) (λ z t. after (read_word t) (λ v. give (z ∷ narrow 33 v ∷ []))))
      (ap (λ (t : Option ℕ). literal_kind_of (type_of t types)) (sym selector_is) ∙ sym (simp (p, q) at f)))
  kind_by_lem g types j l r f false false p q = simp (p, q)

  -- WHAT IS SEEN

  -- what was seen is held, from the places where the row began
  walked_held : Held log₀ strs₀ log strs (with_results u.rtype u.rid (unused u₀.log u₀.strings u₀.base u₀.breaks)) u x.operands
  unfolding with_results unused literal_of selector_of notes_of no_notes
  walked_held = record {
    rtype = refl;
    rid = refl;
    base = w.base;
    nlog = w.nlog;
    nstrings = w.nstrings;
    noted = w.noted;
    log_laid = w.log_laid;
    strings_laid = w.strings_laid;
  }

  -- operands more
  walked_more : {log₁ strs₁ : List ℕ} {n : Used} {os : List Operand} → Held log strs log₁ strs₁ u n os
      → Walked log₀ strs₀ log₁ strs₁ u₀ n (with_operands x os)
  unfolding with_results unused literal_of selector_of notes_of no_notes
  walked_more h =
      let m = held_then walked_held h in
      record {
        rtype = h.rtype ∙ w.rtype;
        rid = h.rid ∙ w.rid;
        base = m.base;
        nlog = m.nlog;
        nstrings = m.nstrings;
        noted = m.noted;
        log_laid = m.log_laid;
        strings_laid = m.strings_laid;
      }

  -- a result type
  walked_type : (v : ℕ) → Walked log₀ strs₀ log strs u₀ (with_results (Some v) u.rid u) (with_type x v)
  unfolding with_results selector_of notes_of
  walked_type v = record {
    rtype = refl;
    rid = w.rid;
    base = w.base;
    nlog = w.nlog;
    nstrings = w.nstrings;
    noted = w.noted;
    log_laid = w.log_laid;
    strings_laid = w.strings_laid;
  }

  -- a result id
  walked_id : (v : ℕ) → Walked log₀ strs₀ log strs u₀ (with_results u.rtype (Some v) u) (with_id x v)
  unfolding with_results selector_of notes_of
  walked_id v = record {
    rtype = w.rtype;
    rid = refl;
    base = w.base;
    nlog = w.nlog;
    nstrings = w.nstrings;
    noted = w.noted;
    log_laid = w.log_laid;
    strings_laid = w.strings_laid;
  }

  -- READS

  module _ (s : List ℕ) (g : Grammar) (types : List Entry) (j : ℕ) (d : Decoder) where
    module _ (l : Option ℕ) (f : l ≡ literal_for types u j) (h : is_result j ≡ false) where
      -- what is read is added to what was seen
      more_by : (y : Read (List Operand)) → kind_alone g l j (reader_of s d) ≡ y
          → read_slot g types x j (reader_of s d) ≡ after y (λ os. give (with_operands x os))
      unfolding read_slot
      more_by y e =
          simp (
            ne_eqb j 46 (not_kind (λ i. not (is_result i)) j 46 (ap not h) refl),
            ne_eqb j 47 (not_kind (λ i. not (is_result i)) j 47 (ap not h) refl),
          )
          (ap (λ (m : Read (List Operand)). after m (λ os. give (with_operands x os)))
          (kind_by_lem g types j l (reader_of s d) f (eqb j 48) (eqb j 49) refl refl ∙ e))

      -- an operand that is no result
      slot_more : (log₁ strs₁ : List ℕ) (v : Answered Used) → Parses s d 4 (kind_alone g l j (reader_of s d)) log strs log₁ strs₁ u v
          → SlotWalk s d j x (read_slot g types x j (reader_of s d)) log₀ strs₀ log₁ strs₁ u₀ u v
      unfolding Parses SlotWalk
      slot_more log₁ strs₁ (Ok (n, e)) p = record {
        seen = with_operands x p.operands;
        read = more_by _ p.read;
        walked = walked_more p.held;
        few = p.few;
        went = p.went;
        more = p.operands;
        spotted = p.spotted;
        adds = λ free. sym (append_assoc (as_ids x.result_type ++ as_ids x.result_id) x.operands p.operands);
        others = λ e. absurd (not_kind (λ i. not (is_result i)) j 46 (ap not h) refl (eqb-true j 46 e));
      }
      slot_more log₁ strs₁ (Err (y, e)) p = more_by _ p

    module _ (h : is_result j ≡ true) where
      -- a result is a word
      result_by : (y : Read ℕ) → read_word (reader_of s d) ≡ y → (t : Bool) → eqb j 46 ≡ t
          → read_slot g types x j (reader_of s d) ≡ after y (λ v. give (if t then with_type x v else with_id x v))
      unfolding read_slot
      result_by y e true q = simp q (ap (λ (m : Read ℕ). after m (λ v. give (with_type x v))) e)
      result_by y e false q =
          simp (q, result_else j h q)
          (ap (λ (m : Read ℕ). after m (λ v. give (with_id x v))) e)

      -- a result
      slot_result : (v : ℕ) (e : Decoder) → Ok (v, e) ≡ word_from s d → Few s d u → (t : Bool) → eqb j 46 ≡ t
          → SlotRead s d j x (read_slot g types x j (reader_of s d)) log₀ strs₀ log strs u₀ u e (if t then with_results (Some v) u.rid u else with_results u.rtype (Some v) u)
      unfolding with_results
      slot_result v e p f true q = record {
        seen = with_type x v;
        read = result_by _ (word_got s d e v p).reads true q;
        walked = walked_type v;
        few = result_few s d e u (Some v) u.rid f (step_word s d e v p);
        went = step_went s d e 1 (step_word s d e v p) f.left f.limited;
        more = narrow 33 v ∷ [];
        spotted = spotted_id s d e u (with_results (Some v) u.rid u) v (step_word s d e v p) refl;
        adds = λ free. rw (free.0 q);
        others = λ e. (refl, refl);
      }
      slot_result v e p f false q = record {
        seen = with_id x v;
        read = result_by _ (word_got s d e v p).reads false q;
        walked = walked_id v;
        few = result_few s d e u u.rtype (Some v) f (step_word s d e v p);
        went = step_went s d e 1 (step_word s d e v p) f.left f.limited;
        more = narrow 33 v ∷ [];
        spotted = spotted_id s d e u (with_results u.rtype (Some v) u) v (step_word s d e v p) refl;
        adds = λ free. let none_yet = free.1 (result_else j h q) in simp (none_yet.0, none_yet.1, append-nil);
        others = λ e. absurd (true≢false (sym e ∙ q));
      }

      -- no result
      slot_none : (y : Refusal) (e : Decoder) → Err (y, e) ≡ word_from s d → read_slot g types x j (reader_of s d) ≡ refused y (reader_of s e)
      slot_none y e p = result_by _ (word_refused s d e y p) (eqb j 46) refl

module _ (s : List ℕ) (g : Grammar) (j : ℕ) (l : Option ℕ) (d : Decoder) (log strs : List ℕ) (u : Used) (t : Bool) (p : t ≡ is_result j) (types : List Entry)
    (f : l ≡ literal_for types u j) where
  -- the walk goes on with a result
  pub walks_result : t ≡ true → Few s d u → (v : ℕ) (e : Decoder) → Ok (v, e) ≡ word_from s d → (n : Used) → n ≡ with_result j (Some v) u
      → SlotWalks s d j (λ x. read_slot g types x j (reader_of s d)) log strs log strs u (Ok (n, e))
  unfolding SlotWalks SlotWalk with_result
  walks_result q m v e h n z log₀ strs₀ u₀ x w = rw z (slot_result w s g types j d (sym p ∙ q) v e h m (eqb j 46) refl)

  -- it ends without the word of a result
  pub walks_none : t ≡ true → (y : Refusal) (e : Decoder) → Err (y, e) ≡ word_from s d
      → SlotWalks s d j (λ x. read_slot g types x j (reader_of s d)) log strs log strs u (Err (y, e))
  unfolding SlotWalks SlotWalk
  walks_none q y e h log₀ strs₀ u₀ x w = slot_none w s g types j d (sym p ∙ q) y e h

  module _ (q : t ≡ false) (log₁ strs₁ : List ℕ) (v : Answered Used) where
    -- it goes on with operands, or ends where they are refused
    pub walks_more : Parses s d 4 (kind_alone g l j (reader_of s d)) log strs log₁ strs₁ u v
        → SlotWalks s d j (λ x. read_slot g types x j (reader_of s d)) log strs log₁ strs₁ u v
    unfolding SlotWalks
    walks_more h log₀ strs₀ u₀ x w = slot_more w s g types j d l f (sym p ∙ q) log₁ strs₁ v h

    -- so it does by the read that is meant
    pub walks_as : (y : Read (List Operand)) → kind_alone g l j (reader_of s d) ≡ y → Parses s d 4 y log strs log₁ strs₁ u v
        → SlotWalks s d j (λ x. read_slot g types x j (reader_of s d)) log strs log₁ strs₁ u v
    walks_as y e h = walks_more (same_read s d 4 _ y log strs log₁ strs₁ u v e h)

-- PLACES

-- ZeroOrMore stays
pub stays : (p q : ℕ) → q ≡ 2 → p ≡ (if eqb q 2 then p else p + 3)
stays p q e = simp (eq-eqb q 2 e)

-- the others go on
pub goes_on_lem : (p q : ℕ) → (q ≡ 2 → ⊥) → p + 3 ≡ (if eqb q 2 then p else p + 3)
goes_on_lem p q e = simp (ne_eqb q 2 e)
