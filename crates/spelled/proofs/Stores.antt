-- What good stores say at an index: a record that can be written, and its instruction.
use Prim.Native.Nat.{ℕ, ◌+◌, ◌*◌, ◌<◌, ◌≤◌}
use mathlib.Core.Path.{◌≡◌, refl, ap, sym, subst, ◌∙◌}
use mathlib.Core.List.{List, [], ◌∷◌}
use native.Mathlib.Numerals.{add-one}
use lib.ListN.{length, take, drop}
use lib.Seq.{take-length}
use Rattle.spec.specs.declared.Fields.{Fields}
use Rattle.spec.specs.Records.{Operand, operands_size, record_size, fields_at}
use Rattle.spec.specs.Check.{Left, take_operands}
use Rattle.spec.proofs.Choice.{IfSome}
use Rattle.records.specs.Steps.{result_words}
use Rattle.records.proofs.Operands.{Inside, operands_taken, words_told}
use Rattle.records.proofs.Good.{SaidAt, GoodAt, good_at, good_length}
use Rattle.spelled.specs.Spelled.{operand_after, operands_from, AllReadable, said_by, Sound}
use Rattle.spelled.specs.Placing.{full_stores, GoodStores, instrs_of, one_at}

-- operands are those from a place on, and each can be read
abbrev From : List ℕ → List ℕ → ℕ → ℕ → List Operand × Left → Type 0
From log strings n a x = (x.0 ≡ operands_from n log strings a) × AllReadable n log strings a

-- so are those that were taken
taken_from : (log strings : List ℕ) (n : ℕ) (l : Left) → Inside log strings l → IfSome (From log strings n l.log_at) (take_operands n l)
unfolding operands_from AllReadable operand_after
taken_from log strings =
    operands_taken log strings (λ n l. From log strings n l.log_at) (λ l i. (refl, tt))
    (λ n l x xs t q. rw (t.is, q.0, t.next) (refl, (record { whole = t.whole; string = t.string }, rw t.next at q.1)))

-- what good stores say at an index
pub record At (ws log strings : List ℕ) (count i : ℕ) (f : Fields) : Type 0 where
  pub in_store : record_size * i + record_size ≤ length ws
  pub sound : Sound log strings f
  pub next : drop i (instrs_of ws log strings count) ≡ said_by log strings f ∷ drop (i + 1) (instrs_of ws log strings count)

-- by the record that is said there
at_by : (ws log strings : List ℕ) (count i : ℕ) (f : Fields) → record_size * i + record_size ≤ length ws → f.words ≤ 65535
    → SaidAt log strings f (instrs_of ws log strings count) i → At ws log strings count i f
unfolding said_by
at_by ws log strings count i f h g s =
    let os = s.said.operands in
    let taken = taken_from log strings f.count s.before s.inside in
    let from : From log strings f.count f.start (os, s.next.1) =
    rw s.said.start (subst (IfSome (From log strings f.count s.before.log_at)) s.said.taken taken) in
    record {
      in_store = h;
      sound = record {
        operands = from.1;
        few = g;
        words = words_told f os s.said.words ∙ ap (λ (l : List Operand). 1 + result_words f + operands_size l) from.0;
      };
      next = rw (s.here, s.said.is, from.0, add-one i);
    }

-- each index
pub stores_at : (ws log strings : List ℕ) (count : ℕ) → GoodStores ws log strings count → (i : ℕ) → i < count → (f : Fields)
    → f ≡ fields_at (drop (record_size * i) ws) → At ws log strings count i f
unfolding GoodStores instrs_of
stores_at ws log strings count g i h f e =
    let x : GoodAt (full_stores ws log strings count) i = good_at (full_stores ws log strings count) g i h in
    subst (At ws log strings count i) (sym e)
    (at_by ws log strings count i (fields_at (drop (record_size * i) ws)) x.in_store x.few
    (subst (λ (l : List ℕ). SaidAt l strings (fields_at (drop (record_size * i) ws)) (instrs_of ws log strings count) i) (take-length log)
    (subst (λ (l : List ℕ). SaidAt (take (length log) log) l (fields_at (drop (record_size * i) ws)) (instrs_of ws log strings count) i) (take-length strings) x.said)))

-- the records lie in the store
pub stores_in : (ws log strings : List ℕ) (count : ℕ) → GoodStores ws log strings count → (i : ℕ) → i < count → record_size * i + record_size ≤ length ws
stores_in ws log strings count g i h = (stores_at ws log strings count g i h (fields_at (drop (record_size * i) ws)) refl).in_store

-- as many instructions as records
pub stores_length : (ws log strings : List ℕ) (count : ℕ) → GoodStores ws log strings count → length (instrs_of ws log strings count) ≡ count
unfolding GoodStores instrs_of
stores_length ws log strings count g = good_length (full_stores ws log strings count) g

-- the instruction at an index
pub one_is : {ws log strings : List ℕ} {count i : ℕ} {f : Fields} → At ws log strings count i f
    → one_at (instrs_of ws log strings count) i ≡ said_by log strings f ∷ []
unfolding one_at
one_is a = ap (take 1) a.next
