-- What a row is read from: its results first, then its operands.
use Prim.Native.Nat.{ℕ, zero, suc}
use mathlib.Core.Path.{◌≡◌, refl, ap, sym, ◌∙◌, subst}
use mathlib.Core.Bool.{Bool, true, false, ◌&&◌, true≢false, and-false}
use mathlib.Core.List.{List, [], ◌∷◌, ◌++◌, append_assoc, append-nil}
use Rattle.std.specs.Prelude.{None}
use native.Mathlib.Omega.{arith}
use lib.Dec.{eqb}
use Rattle.spec.specs.Grammar.{Slot, slot, is_slot, Grammar}
use Rattle.spec.specs.Records.{Operand, narrow, Entry}
use Rattle.spec.specs.Plain.{as_ids, in_order}
use Rattle.spec.specs.Match.{Seen, nothing_seen, with_type, with_id, with_operands, read_slot, none_left, slots_after, read_row}
use Rattle.demands.proofs.Choice.{left, right, fails, either}
use Rattle.demands.proofs.Reading.{Relation, Reads, give_reads, stop_reads, then_reads, into_reads, less_reads, spent_reads, if_reads}
use Rattle.demands.proofs.Words.{Word, word_reads}
use Rattle.demands.proofs.OperandKinds.{no_result}
use Rattle.demands.proofs.Formed.{RowFrom, GrammarGood}
use Rattle.demands.proofs.Told.{narrow_tells, Along, none_left_lem, along_one, along_append}
use Rattle.demands.proofs.Operands.{kind_reads}

-- WHAT IS SEEN, AS OPERANDS

-- what is seen is written as its results and its operands
abbrev pub as_operands : Seen → List Operand
as_operands s = in_order s.result_type s.result_id s.operands

-- what is seen is told by bytes, operand by operand
abbrev pub SeenTold : Relation Seen
SeenTold s x y = Along (as_operands s) x y

-- t goes on from s by operands that are told
abbrev GoesOn : Seen → Relation Seen
GoesOn s t x y = (os : List Operand) × (as_operands t ≡ as_operands s ++ os) × Along os x y

-- by none
goes_none : (s : Seen) → GoesOn s s [] []
goes_none s = ([], sym (append-nil (as_operands s)), none_left_lem)

-- by some, and by others after them
goes_then : (s t u : Seen) {x y z w : List ℕ} → GoesOn s t x y → GoesOn t u z w → GoesOn s u (x ++ z) (y ++ w)
goes_then s t u p q = (
  p.0 ++ q.0,
  q.1 ∙ ap (λ (os : List Operand). os ++ q.0) p.1 ∙ append_assoc (as_operands s) p.0 q.0,
  along_append p.2 q.2,
)

-- WHERE A RESULT IS FREE

-- where a result type is free nothing is seen, and where a result id is, no result id and no operand
abbrev pub Free : Bool → Bool → Seen → Type 0
Free t i s = (t ≡ true → s ≡ nothing_seen) × (i ≡ true → (s.result_id ≡ None) × (s.operands ≡ []))

-- after a kind that is not 46 nothing is
pub free_none : (t : Bool) (k q : ℕ) (s : Seen) → eqb k 46 ≡ false → Free false (t && is_slot 46 0 (slot k q)) s
free_none t k q s e = (
  λ h. absurd (true≢false (sym h)),
  λ h. absurd (true≢false (sym (left (eqb k 46) (eqb q 0) (right t (eqb k 46 && eqb q 0) h)) ∙ e)),
)

-- what is left of a row after an operand
pub row_after : (t i : Bool) (k q : ℕ) (ss : List Slot) → RowFrom t i (slot k q ∷ ss)
    → RowFrom false (t && is_slot 46 0 (slot k q)) (slots_after k q ss)
row_after t i k q ss row =
    either (RowFrom false (t && is_slot 46 0 (slot k q))) (eqb q 2) (slot k q ∷ ss) ss
    (λ e. let no : eqb k 46 ≡ false = fails (eqb k 46) (λ h. true≢false (sym e ∙ (row.1 h).1)) in
    let none_free : (t && is_slot 46 0 (slot k q)) ≡ false = rw no (and-false t) in
    rw none_free (
      row.0,
      λ h. absurd (true≢false (sym e ∙ (row.1 h).1)),
      λ h. absurd (true≢false (sym e ∙ (row.2 h).1)),
      rw none_free at row.3,
    ))
    (λ e. row.3)

module _ (s : Seen) (w : ℕ) (x y : List ℕ) (p : Word w x y) where
  -- its word is told as an id
  as_id : Along (narrow 33 w ∷ []) x y
  as_id = along_one (narrow_tells 33 w x y refl p)

  -- a result type more
  type_goes : s ≡ nothing_seen → GoesOn s (with_type s w) x y
  type_goes e = (narrow 33 w ∷ [], rw e, as_id)

  -- a result id more
  id_goes : s.result_id ≡ None → s.operands ≡ [] → GoesOn s (with_id s w) x y
  id_goes e f = (narrow 33 w ∷ [], simp (e, f, append-nil), as_id)

module _ (g : Grammar) (good : GrammarGood g) (types : List Entry) where
  -- an operand of a row
  slot_reads : (t i : Bool) (k q : ℕ) (ss : List Slot) (s : Seen) → RowFrom t i (slot k q ∷ ss) → Free t i s
      → Reads (λ u x y. GoesOn s u x y × Free false (t && is_slot 46 0 (slot k q)) u) (read_slot g types s k)
  unfolding read_slot
  slot_reads t i k q ss s row free =
      if_reads (eqb k 46) (λ e. into_reads (with_type s) word_reads (λ w x y p.
      let e46 = free.0 (row.1 e).0 in (
        type_goes s w x y p e46,
        (λ h. absurd (true≢false (sym h)), λ h. (ap (λ (u : Seen). u.result_id) e46, ap (λ (u : Seen). u.operands) e46)),
      )))
      (λ e. if_reads (eqb k 47) (λ d. into_reads (with_id s) word_reads (λ w x y p.
      let e47 = free.1 (row.2 d).0 in
      (id_goes s w x y p e47.0 e47.1, free_none t k q (with_id s w) e)))
      (λ d. into_reads (with_operands s) (kind_reads g good types s k row.0 (no_result k row.0 e d)) (λ os x y a. (
        (os, sym (append_assoc (as_ids s.result_type ++ as_ids s.result_id) s.operands os), a),
        free_none t k q (with_operands s os) e,
      ))))

  -- with no words left
  none_reads : (ss : List Slot) (s : Seen) → Reads (GoesOn s) (none_left ss s)
  none_reads [] s = give_reads (goes_none s)
  none_reads (slot k q ∷ ss) s = if_reads (eqb q 0) (λ e. stop_reads (omega arith)) (λ e. give_reads (goes_none s))

  -- a row from some operands on
  row_from : (n : ℕ) (t i : Bool) (ss : List Slot) (s : Seen) → RowFrom t i ss → Free t i s
      → Reads (GoesOn s) (read_row g types n ss s)
  unfolding read_row
  row_from zero t i ss s row free = none_reads ss s
  row_from (suc n) t i [] s row free = give_reads (goes_none s)
  row_from (suc n) t i (slot k q ∷ ss) s row free =
      spent_reads (none_reads (slot k q ∷ ss) s) (then_reads (slot_reads t i k q ss s row free) (λ u x y p.
      less_reads (row_from n false (t && is_slot 46 0 (slot k q)) (slots_after k q ss) u (row_after t i k q ss row) p.1)
      (λ v z w r.
      goes_then s u v p.0 r)))

  -- a row
  pub row_reads : (n : ℕ) (ss : List Slot) → RowFrom true true ss
      → Reads SeenTold (read_row g types n ss nothing_seen)
  row_reads n ss row =
      less_reads (row_from n true true ss nothing_seen row (λ h. refl, λ h. (refl, refl))) (λ s x y p.
      subst (λ (os : List Operand). Along os x y) (sym p.1) p.2)
