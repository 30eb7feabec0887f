-- Laws of stores that grow by an instruction: the records after the records, and the entries over the entries.
use Prim.Native.Nat.{ℕ, ◌+◌, ◌*◌, ◌≤◌}
use mathlib.Core.Path.{◌≡◌, ap, sym, ◌∙◌}
use mathlib.Core.List.{List, [], ◌∷◌, ◌++◌}
use native.Mathlib.Omega.{arith}
use native.Mathlib.Nat.{add-zero, zero-add}
use lib.ListN.{length, length-append}
use lib.Seq.{sets}
use Rattle.spec.specs.declared.Fields.{Fields}
use Rattle.spec.specs.declared.Numbers.{Numbers}
use Rattle.spec.specs.Records.{Placed, Instr, operands_log, operands_strings, log_from, fields_of, fields_from, record_words, numbered, instruction_store, entry_size}
use Rattle.spec.specs.Types.{track}
use Rattle.spec.proofs.Store.{sets_append}
use Rattle.demands.proofs.Stores.{operands_log_length}
use Rattle.numbers.specs.Counting.{step_of, begun}
use Rattle.numbers.proofs.Laws.{begun_more, numbered_more}
use Rattle.tracker.specs.Entries.{entries_of, stored}
use Rattle.tracker.proofs.Laws.{entries_stored, stored_over}
use Rattle.tracker.proofs.Instruction.{instruction_grows}

-- the fields of one instruction more
fields_more : (start m : ℕ) (ks : List Placed) (k : Placed)
    → fields_from start (ks ++ (k ∷ [])) ≡ fields_from start ks ++ (fields_of (start + length (log_from m ks)) k ∷ [])
unfolding fields_from log_from
fields_more start m [] k = ap (λ (n : ℕ). fields_of n k ∷ []) (sym (add-zero start))
fields_more start m (j ∷ ks) k =
    let a = length (operands_log 0 j.instr.operands) in
    let b = length (operands_strings j.instr.operands) in
    let e : start + a + length (log_from (m + b) ks) ≡ start + length (operands_log m j.instr.operands ++ log_from (m + b) ks) =
    omega (
      arith,
      length-append (operands_log m j.instr.operands) (log_from (m + b) ks),
      operands_log_length 0 m j.instr.operands,
    )
    in
    ap (λ (z : List Fields). fields_of start j ∷ z) (fields_more (start + a) (m + b) ks k)
    ∙ ap (λ (n : ℕ). fields_of start j ∷ (fields_from (start + a) ks ++ (fields_of n k ∷ []))) e

-- the functions and blocks that have begun with the instructions kept
unfoldable pub begun_with : List Placed → Numbers
begun_with ks = begun (fields_from 0 ks)

module _ (ks : List Placed) (k : Placed) (n : ℕ) (starts : 0 + length (log_from 0 ks) ≡ n) where
  one_more : fields_from 0 (ks ++ (k ∷ [])) ≡ fields_from 0 ks ++ (fields_of n k ∷ [])
  one_more = fields_more 0 0 ks k ∙ ap (λ (i : ℕ). fields_from 0 ks ++ (fields_of i k ∷ [])) starts

  -- those with one more
  pub begun_next : begun_with (ks ++ (k ∷ [])) ≡ (step_of k.tag (begun_with ks)).begun
  unfolding begun_with fields_of
  begun_next = ap begun one_more ∙ begun_more (fields_from 0 ks) (fields_of n k)

  -- the records of one more
  pub records_next : instruction_store (ks ++ (k ∷ [])) ≡ instruction_store ks ++ record_words (fields_of n k) (step_of k.tag (begun_with ks)).own
  unfolding begun_with instruction_store fields_of
  records_next = ap numbered one_more ∙ numbered_more (fields_from 0 ks) (fields_of n k)

-- a store that holds a run from its start on holds another after it, which was stored behind it
pub grow : (l₀ l l₁ a b c : List ℕ) (n : ℕ) → l ≡ sets l₀ 0 a → length a ≡ n → l₁ ≡ sets l n b → c ≡ a ++ b → l₁ ≡ sets l₀ 0 c
grow l₀ l l₁ a b c n e h f g =
    f
    ∙ ap (λ (z : List ℕ). sets z n b) e
    ∙ ap (λ (k : ℕ). sets (sets l₀ 0 a) k b) (sym h ∙ sym (zero-add (length a)))
    ∙ sets_append a b l₀ 0
    ∙ ap (λ (z : List ℕ). sets l₀ 0 z) (sym g)

module _ (t₀ t t₁ : List ℕ) (n m : ℕ) (i : Instr) (size : length t ≡ length t₀) (now : t ≡ stored t₀ (entries_of n t))
    (next : t₁ ≡ stored t (track i (entries_of n t))) (count : length (track i (entries_of n t)) ≡ m) (room : entry_size * m ≤ length t₀) where
  -- the entries after an instruction are those of the store
  pub entries_next : track i (entries_of n t) ≡ entries_of m t₁
  entries_next =
      let fs = track i (entries_of n t) in
      sym (entries_stored fs t (omega arith))
      ∙ ap (λ (k : ℕ). entries_of k (stored t fs)) count
      ∙ ap (entries_of m) (sym next)

  -- which holds them alone
  pub types_next : t₁ ≡ stored t₀ (entries_of m t₁)
  types_next =
      let es = entries_of n t in
      let fs = track i es in
      next
      ∙ ap (λ (z : List ℕ). stored z fs) now
      ∙ stored_over es fs t₀ (omega arith) (instruction_grows i es).least
      ∙ ap (stored t₀) entries_next
