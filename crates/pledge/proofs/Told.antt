-- What follows from what the contracts of loading and writing tell.
use Prim.Native.Nat.{ℕ, ◌+◌, ◌*◌, ◌/◌, ◌%◌}
use mathlib.Core.Path.{◌≡◌, refl, ap, ◌∙◌, ap₂}
use mathlib.Core.List.{List, [], ◌∷◌}
use native.Mathlib.Omega.{arith}
use mathlib.Core.Bool.{Bool, true, false}
use lib.Dec.{ltb, eqb}
use lib.ListN.{length, get_or}
use lib.Seq.{take_at}
use Rattle.spec.specs.declared.Loaded.{Loaded}
use Rattle.spec.specs.declared.Written.{Written}
use Rattle.std.specs.Prelude.{if◌then◌else◌}
use Rattle.spec.specs.Base.{joined}
use Rattle.spec.specs.Records.{Placed, record_size, instruction_store, log_from, string_store, entry_size, entry_words}
use Rattle.spec.specs.Load.{Outcome, load, Stores, stores_of, room_in}
use Rattle.spec.specs.Check.{Checked, bad, good}
use Rattle.spec.specs.Write.{write_by}
use Rattle.demands.proofs.Choice.{cases}
use Rattle.demands.proofs.Starts.{header_five, load_is}
use Rattle.demands.proofs.Stores.{instructions_length, entries_length}
use Rattle.demands.proofs.KeptSays.{taken_by, load_says}
use Rattle.demands.proofs.Leaves.{Leaves, load_leaves}
use Rattle.loader.specs.Loading.{loading, Loads as LoadsSo}
use Rattle.kollafrin.specs.Answers.{load_answer, LoadAnswers, write_answer}
use Rattle.pledge.proofs.Calls.{Load, outcome, records, Loads, loaded_by, written_by}

-- THE ANSWERS AT THE DOOR

-- five words are what stands at their places
five_words : (h : List ℕ) → length h ≡ 5 → get_or h 0 0 ∷ get_or h 1 0 ∷ get_or h 2 0 ∷ get_or h 3 0 ∷ get_or h 4 0 ∷ [] ≡ h
five_words (a ∷ b ∷ c ∷ d ∷ e ∷ []) n = refl
five_words [] n = absurd (omega arith)
five_words (a ∷ []) n = absurd (omega arith)
five_words (a ∷ b ∷ []) n = absurd (omega arith)
five_words (a ∷ b ∷ c ∷ []) n = absurd (omega arith)
five_words (a ∷ b ∷ c ∷ d ∷ []) n = absurd (omega arith)
five_words (a ∷ b ∷ c ∷ d ∷ e ∷ f ∷ h) n = absurd (omega arith)

-- yes as 1 is yes
yes_is : (b : Bool) → eqb (if b then 1 else 0) 1 ≡ b
yes_is true = refl
yes_is false = refl

-- a load at the door is one whose answer its words say
pub loaded_by_lem : {m g : List ℕ} {before after : Stores} {ws : List ℕ} {r : ℕ} → LoadAnswers m g before after ws r
    → LoadsSo m g before after (loaded_by ws)
unfolding loading load_answer
loaded_by_lem {m} {g} {before} a =
    let x : Loaded = (load g (room_in before) m).said in
    let said =
    ap loaded_by a.words
    ∙ ap₂ (λ (h : List ℕ) (p : Bool). record {
      number = x.number;
      offset = x.offset;
      index = x.index;
      value = x.value;
      header = h;
      counts = x.counts;
      plain = p;
      breaks = x.breaks;
    }) (five_words x.header (header_five (load_is g (room_in before) m))) (yes_is x.plain) in
    record { leaves = record { said = said; stores = a.stores }; bytes = a.bytes }

-- the words of a writer's answer say it
pub written_by_lem : (x : Written) (ws : List ℕ) → ws ≡ write_answer x → written_by ws ≡ x
unfolding write_answer
written_by_lem x ws e =
    let whole : x.bytes % 4294967296 + 4294967296 * (x.bytes / 4294967296) ≡ x.bytes = omega arith in
    ap written_by e ∙ ap (λ (n : ℕ). record { number = x.number; index = x.index; bytes = n }) whole

-- WHAT FOLLOWS

-- a write that is refused leaves the output as it was
pub refused_by : (c : Checked) (f : List Placed → List ℕ) (out : List ℕ) → ((write_by c f out).said.number ≡ 0 → ⊥)
    → (write_by c f out).output ≡ out
refused_by (bad i) f out not-0 = refl
refused_by (good is) f out not-0 =
    cases (ltb (length out) (length (f is))) (λ e. rw e) (λ e. absurd (not-0 (rw e)))

module _ (v : Load) (l : Loads v) where
  -- what a load leaves in the stores
  pub leaves_so : Leaves v.before (outcome v) v.after
  unfolding loading
  leaves_so = rw l.leaves.stores (load_leaves v.grammar v.bytes v.before)

  -- the records that it leaves are those of what it keeps
  pub records_are : records v ≡ stores_of (outcome v)
  unfolding loading stores_of taken_by
  records_are =
      let x : Outcome = outcome v in
      let says = load_says v.grammar (room_in v.before) v.bytes in
      let n : v.answer.counts ≡ taken_by x.kept x.types =
      ap (λ (a : Loaded). a.counts) l.leaves.said ∙ says.counts in
      rw (
        n,
        says.left,
        leaves_so.instructions,
        leaves_so.log,
        leaves_so.strings,
        leaves_so.types,
        take_at (instruction_store x.kept) _ (record_size * length x.kept) (instructions_length x.kept),
        take_at (log_from 0 x.kept) _ (length (log_from 0 x.kept)) refl,
        take_at (string_store x.kept) _ (length (string_store x.kept)) refl,
        take_at (joined entry_words x.types) _ (entry_size * length x.types) (entries_length x.types),
      )
