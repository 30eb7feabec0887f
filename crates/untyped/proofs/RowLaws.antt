-- Laws of the walk over a row's operands.
use Prim.Native.Nat.{ℕ, zero, suc, ◌+◌, ◌*◌, ◌-◌, ◌<◌, ◌≤◌}
use mathlib.Core.Path.{◌≡◌, refl, ap, sym, subst, ◌∙◌}
use mathlib.Core.Bool.{Bool, true, false, ◌&&◌, true≢false}
use mathlib.Core.List.{List, [], ◌∷◌}
use native.Mathlib.Omega.{arith}
use borrow.Author.Tests.{eq-eqb, ne_eqb, eqb-false}
use lib.Dec.{eqb}
use lib.ListN.{drop}
use Rattle.spec.specs.declared.Refusal.{Refusal}
use Rattle.std.specs.Prelude.{if◌then◌else◌}
use Rattle.spec.proofs.Choice.{cases}
use Rattle.spec.specs.Kinds.{may_be_operand}
use Rattle.spec.specs.Records.{operands_log, operands_strings, Entry}
use Rattle.spec.specs.Reader.{Read, got, after, refusal, reached, reader_at}
use Rattle.spec.specs.Grammar.{Grammar, Slot, slot, is_slot, grammar_of, items, slots_of}
use Rattle.spec.specs.Match.{Seen, nothing_seen, none_left, slots_after, read_slot, read_row}
use Rattle.demands.proofs.Formed.{RowFrom}
use Rattle.demands.proofs.Rows.{as_operands, Free, free_none, row_after}
use Rattle.operand.proofs.LogLaws.{laid_nil}
use Rattle.decoder.specs.declared.Decoder.{Decoder}
use Rattle.decoder.specs.Answer.{reader_of, limit_reached}
use Rattle.grammar.specs.Find.{slots_then, slot_bytes}
use Rattle.tracker.specs.Track.{literal_of}
use Rattle.used.specs.declared.used.Used.{Used}
use Rattle.used.specs.declared.used.Frame.{Frame}
use Rattle.used.specs.Parse.{selector_of, notes_of, notes, no_notes, left_of, Went, Few, Spotted, slots_at, Walked, Walks, ResultFree, SlotRead, SlotWalk, SlotWalks}
use Rattle.used.specs.Fresh.{unused, Fresh}
use Rattle.untyped.specs.Body.{Framed, start_of, row_read}
use Rattle.untyped.proofs.Carried.{row_leads}
use Rattle.untyped.proofs.Walk.{went_nowhere, went_then, spotted_nothing, spotted_then}
use Rattle.decoder.specs.Answer.{Answered}
use Rattle.std.specs.Prelude.{Err, None, Ok, Option, Some}

-- THE NEXT OPERAND

module _ (s : List ℕ) (g : Grammar) (types : List Entry) (d : Decoder) (x : Seen) where
  -- no operand is left
  end_read : (n : ℕ) (ss : List Slot) → ss ≡ [] → read_row g types n ss x (reader_of s d) ≡ got x (reader_of s d)
  unfolding read_row
  end_read zero ss e = rw e refl
  end_read (suc n) ss e = rw e refl

  module _ (k j : ℕ) (ss : List Slot) where
    -- no word is left
    spent_read : (n : ℕ) → reached d.limit ≡ true → read_row g types n (slot k j ∷ ss) x (reader_of s d) ≡ none_left (slot k j ∷ ss) x (reader_of s d)
    unfolding read_row reader_of reader_at
    spent_read zero e = refl
    spent_read (suc n) e = simp e

    -- an operand is read, then the others
    next_read : (n : ℕ) → 1 ≤ n → reached d.limit ≡ false
        → read_row g types n (slot k j ∷ ss) x (reader_of s d)
        ≡ after (read_slot g types x k (reader_of s d)) (λ z. read_row g types (n - 1) (slots_after k j ss) z)
    unfolding read_row reader_of reader_at
    next_read zero h e = absurd (omega arith)
    next_read (suc n) h e = let i : suc n - 1 ≡ n = omega arith in rw i (simp e)

-- a limit that is not reached has a word left
pub left_some : (l : Option ℕ) (n : ℕ) → l ≡ Some n → reached l ≡ false → 1 ≤ left_of l
unfolding left_of
left_some l n e h =
    let z : eqb n 0 ≡ false = rw e at h in
    let i = eqb-false n 0 z in
    rw e (omega (arith, i))

-- THE WALK

-- what the walk of a row has done: what was seen is stored, and the operands that are left are read from here
pub record Rowing (s : List ℕ) (g : Grammar) (types : List Entry) (x : Read Seen) (log₀ strs₀ log strs : List ℕ) (u₀ : Used) (d₀ d : Decoder) (u : Used) (ss : List Slot) : Type 0 where
  pub seen : Seen
  pub fuel : ℕ
  pub whole : x ≡ read_row g types fuel ss seen (reader_of s d)
  pub enough : left_of d.limit ≤ fuel
  pub walked : Walked log₀ strs₀ log strs u₀ u seen
  pub few : Few s d u
  pub went : Went d₀ d 0
  pub type_free : Bool
  pub id_free : Bool
  pub allowed : RowFrom type_free id_free ss
  pub free : Free type_free id_free seen
  pub spotted : Spotted s d₀ d u₀ u (as_operands seen)

-- what is in use where an instruction begins, as it is made
pub fresh_unused : (at a b c x : ℕ) (u : Used) → u ≡ unused a b c x → 4 * a ≤ 9 * at → c + b ≤ at → Fresh at u
unfolding unused
fresh_unused at a b c x u e p q = rw e (record { nothing = refl; few_log = p; few_strings = q })

-- nothing is seen where nothing is in use
walked_nothing : (log strs : List ℕ) (a b c x : ℕ) → Walked log strs log strs (unused a b c x) (unused a b c x) nothing_seen
unfolding unused literal_of selector_of notes_of notes no_notes operands_log operands_strings
walked_nothing log strs a b c x = record {
  rtype = refl;
  rid = refl;
  base = refl;
  nlog = omega arith;
  nstrings = omega arith;
  noted = refl;
  log_laid = laid_nil log a;
  strings_laid = laid_nil strs b;
}

-- no operand is in use where an instruction begins
none_used : (u : Used) → u ≡ unused u.log u.strings u.base u.breaks → u.operands ≡ 0
unfolding unused
none_used u e = ap (λ (v : Used). v.operands) e

-- little is in use where an instruction begins
few_nothing : (s g : List ℕ) (f : Frame) (u : Used) → Framed s g f → Fresh f.at u → Few s (start_of f) u
few_nothing s g f u h q = record {
  short = h.short;
  inside = h.inside;
  left = f.words - 1;
  limited = refl;
  operands = omega (arith, none_used u q.nothing);
  strings = omega (arith, q.few_strings);
  log = omega (arith, q.few_log);
  fits = record { first = λ k. absurd (omega (arith, none_used u q.nothing)); second = λ k. absurd (omega (arith, none_used u q.nothing)) };
}

-- nothing yet
pub row_starts : (s g : List ℕ) (types : List Entry) (log strs : List ℕ) (f : Frame) (u : Used) → Framed s g f → Fresh f.at u
    → Rowing s (grammar_of g) types (row_read g types s (start_of f) f.place) log strs log strs u (start_of f) (start_of f) u (slots_at g f.place)
unfolding row_read left_of
row_starts s g types log strs f u h q = record {
  seen = nothing_seen;
  fuel = f.words - 1;
  whole = refl;
  enough = omega arith;
  walked = subst (λ (v : Used). Walked log strs log strs v v nothing_seen) (sym q.nothing) (walked_nothing log strs u.log u.strings u.base u.breaks);
  few = few_nothing s g f u h q;
  went = went_nowhere (start_of f);
  type_free = true;
  id_free = true;
  allowed = row_leads f.opcode (slots_at g f.place) h.operands;
  free = (λ e. refl, λ e. (refl, refl));
  spotted = spotted_nothing s (start_of f) u;
}

-- an answer of an operand, taken apart
answer_told : (s : List ℕ) (d : Decoder) (k : ℕ) (f : Seen → Read Seen) (log₀ strs₀ log strs log₁ strs₁ : List ℕ) (u₀ u : Used) (x : Seen) (v z : Answered Used)
    → Walked log₀ strs₀ log strs u₀ u x → SlotWalks s d k f log strs log₁ strs₁ u v → v ≡ z → SlotWalk s d k x (f x) log₀ strs₀ log₁ strs₁ u₀ u z
unfolding SlotWalks
answer_told s d k f log₀ strs₀ log strs log₁ strs₁ u₀ u x v z w h q = rw q at (h log₀ strs₀ u₀ x w)

module _ {s : List ℕ} {g : Grammar} {types : List Entry} {x : Read Seen} {log₀ strs₀ log strs : List ℕ} {u₀ : Used} {d₀ d : Decoder} {u : Used} {ss : List Slot}
    (r : Rowing s g types x log₀ strs₀ log strs u₀ d₀ d u ss) where
  -- a walk that ends here
  row_good_lem : x ≡ got r.seen (reader_of s d) → Walks s d₀ 0 x log₀ strs₀ log strs u₀ (Ok (u, d))
  unfolding Walks
  row_good_lem e = record { seen = r.seen; read = e; walked = r.walked; few = r.few; went = r.went; spotted = r.spotted }

  -- no operand is left
  pub row_ends : ss ≡ [] → Walks s d₀ 0 x log₀ strs₀ log strs u₀ (Ok (u, d))
  row_ends e = row_good_lem (r.whole ∙ end_read s g types d r.seen r.fuel ss e)

  module _ (j q : ℕ) (more : List Slot) (e : ss ≡ slot j q ∷ more) where
    -- the whole, by the next operand
    row_is : (y : Read Seen) → read_row g types r.fuel (slot j q ∷ more) r.seen (reader_of s d) ≡ y → x ≡ y
    row_is y h = r.whole ∙ ap (λ (l : List Slot). read_row g types r.fuel l r.seen (reader_of s d)) e ∙ h

    -- the next operand and those after it meet the rules of their places
    row_next : RowFrom r.type_free r.id_free (slot j q ∷ more)
    row_next = subst (RowFrom r.type_free r.id_free) e r.allowed

    -- the next operand is of an operand's kind
    pub next_operand : may_be_operand j ≡ true
    next_operand = row_next.0

    -- a result is free where it comes next
    result_free : ResultFree j r.seen
    result_free = (λ h. r.free.0 (row_next.1 h).0, λ h. r.free.1 (row_next.2 h).0)

    module _ (t : Bool) (p : t ≡ limit_reached d) where
      -- the limit, as it was tested
      limit_is : (z : Bool) → t ≡ z → reached d.limit ≡ z
      unfolding limit_reached
      limit_is z h = sym p ∙ h

      -- with no word left, One is 6
      pub row_missing : t ≡ true → q ≡ 0 → (v : Answered Used) → v ≡ Err (refusal 6 d.offset 0, d)
          → Walks s d₀ 0 x log₀ strs₀ log strs u₀ v
      unfolding Walks reader_of reader_at
      row_missing h z v w =
          rw w (row_is _ (spent_read s g types d r.seen j q more r.fuel (limit_is true h) ∙ simp (eq-eqb q 0 z)))

      -- and the others end the walk
      pub row_spent : t ≡ true → (q ≡ 0 → ⊥) → Walks s d₀ 0 x log₀ strs₀ log strs u₀ (Ok (u, d))
      row_spent h z = row_good_lem (row_is _ (spent_read s g types d r.seen j q more r.fuel (limit_is true h) ∙ simp (ne_eqb q 0 z)))

      module _ (h : t ≡ false) where
        -- a word is left to count by
        fuel_some : 1 ≤ r.fuel
        fuel_some = omega (arith, left_some d.limit r.few.left r.few.limited (limit_is false h), r.enough)

        -- the whole, by the read of the next operand
        then_is : (y : Read Seen) → read_slot g types r.seen j (reader_of s d) ≡ y → x ≡ after y (λ z. read_row g types (r.fuel - 1) (slots_after j q more) z)
        then_is y i =
            row_is _ (next_read s g types d r.seen j q more r.fuel fuel_some (limit_is false h)
            ∙ ap (λ (z : Read Seen). after z (λ o. read_row g types (r.fuel - 1) (slots_after j q more) o)) i)

        module _ (log₁ strs₁ : List ℕ) (v : Answered Used) (i : SlotWalks s d j (λ y. read_slot g types y j (reader_of s d)) log strs log₁ strs₁ u v) where
          -- it is refused
          pub row_stops : (y : Refusal) (f : Decoder) → v ≡ Err (y, f) → Walks s d₀ 0 x log₀ strs₀ log₁ strs₁ u₀ v
          unfolding Walks SlotWalk
          row_stops y f z =
              rw z (then_is _ (answer_told s d j _ log₀ strs₀ log strs log₁ strs₁ u₀ u r.seen v (Err (y, f)) r.walked i z))

          module _ (f : Decoder) (n : Used) (z : v ≡ Ok (n, f)) where
            -- the next operand's read
            slot_is : SlotRead s d j r.seen (read_slot g types r.seen j (reader_of s d)) log₀ strs₀ log₁ strs₁ u₀ u f n
            unfolding SlotWalk
            slot_is = answer_told s d j _ log₀ strs₀ log strs log₁ strs₁ u₀ u r.seen v (Ok (n, f)) r.walked i z

            -- it took a word or more
            pub row_less : left_of f.limit < left_of d.limit
            row_less = omega (arith, slot_is.went.pace, slot_is.went.forth)

            -- what is free after it
            free_then : Free false (r.type_free && is_slot 46 0 (slot j q)) slot_is.seen
            free_then =
                cases (eqb j 46)
                (λ h. let nothing_yet = result_free.0 h in
                let same = slot_is.others h in (
                  λ k. absurd (true≢false (sym k)),
                  λ k. (same.0 ∙ ap (λ (x : Seen). x.result_id) nothing_yet, same.1 ∙ ap (λ (x : Seen). x.operands) nothing_yet),
                ))
                (λ h. free_none r.type_free j q slot_is.seen h)

            -- it is read
            pub row_turn : (rest : List Slot) → slots_after j q more ≡ rest → Rowing s g types x log₀ strs₀ log₁ strs₁ u₀ d₀ f n rest
            row_turn rest o = record {
              seen = slot_is.seen;
              fuel = r.fuel - 1;
              whole = then_is _ slot_is.read ∙ ap (λ (l : List Slot). read_row g types (r.fuel - 1) l slot_is.seen (reader_of s f)) o;
              enough = omega (arith, row_less, r.enough);
              walked = slot_is.walked;
              few = slot_is.few;
              went = went_then r.went slot_is.went;
              type_free = false;
              id_free = r.type_free && is_slot 46 0 (slot j q);
              allowed = subst (RowFrom false (r.type_free && is_slot 46 0 (slot j q))) o (row_after r.type_free r.id_free j q more row_next);
              free = free_then;
              spotted = subst (Spotted s d₀ f u₀ n) (sym (slot_is.adds result_free)) (spotted_then r.spotted slot_is.spotted);
            }

-- PLACES OF THE GRAMMAR

-- ZeroOrMore stays, the others go on
next_by : (g : List ℕ) (p j q : ℕ) → slots_at g p ≡ slot j q ∷ slots_at g (p + 3) → (t : Bool)
    → (if t then slot j q ∷ slots_at g (p + 3) else slots_at g (p + 3)) ≡ slots_at g (if t then p else p + 3)
next_by g p j q e true = sym e
next_by g p j q e false = refl

-- the operands from the next place on
pub slots_next : (g : List ℕ) (p j q n : ℕ) → slots_at g p ≡ slot j q ∷ slots_at g (p + 3) → n ≡ (if eqb q 2 then p else p + 3)
    → slots_after j q (slots_at g (p + 3)) ≡ slots_at g n
slots_next g p j q n e h = next_by g p j q e (eqb q 2) ∙ ap (slots_at g) (sym h)

module _ (g : List ℕ) (p : ℕ) (v : Option (ℕ × ℕ)) (h : slots_of (items (drop p g)) ≡ slots_then v (slots_of (items (drop (p + 3) g)))) where
  -- an operand stands there
  pub slot_told : (k q : ℕ) → v ≡ Some (k, q) → slots_at g p ≡ slot k q ∷ slots_at g (p + 3)
  unfolding slots_at slots_then
  slot_told k q e = rw e at h

  -- none does
  pub end_told : v ≡ None → slots_at g p ≡ []
  unfolding slots_at slots_then
  end_told e = rw e at h

-- it has three bytes
pub three_told : (n : ℕ) (v : Option (ℕ × ℕ)) (k q : ℕ) → slot_bytes v ≤ n → v ≡ Some (k, q) → 3 ≤ n
unfolding slot_bytes
three_told n v k q h e = rw e at h
