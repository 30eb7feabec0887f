-- The instructions kept say the rest of a load's records: the type entries, the counts, and the index of the instruction after
-- them.
use Prim.Native.Nat.{ℕ, ◌+◌, ◌≤◌}
use native.Mathlib.Omega.{arith}
use mathlib.Core.Path.{◌≡◌, refl, ap, sym, ◌∙◌}
use mathlib.Core.List.{List, [], ◌∷◌, ◌++◌}
use lib.ListN.{length, length-append}
use Rattle.spec.specs.declared.Counts.{Counts}
use Rattle.spec.specs.Records.{Placed, Entry, log_from, string_store}
use Rattle.spec.specs.Grammar.{Grammar}
use Rattle.spec.specs.Types.{track}
use Rattle.spec.specs.Load.{counts, Book, Outcome, nothing, with_plain, load}
use Rattle.demands.proofs.Stores.{operands_log_length, log_more, strings_more}
use Rattle.demands.proofs.Runs.{Enters, placed_of, with, Run, stops, keeps}
use Rattle.demands.proofs.Starts.{Loads, unformed, overlong, headless, opens, load_is}

-- the type entries after some instructions, from those before them
unfoldable pub types_after : List Entry → List Placed → List Entry
types_after es [] = es
types_after es (p ∷ ps) = types_after (track p.instr es) ps

-- what some instructions and type entries take in the stores
unfoldable pub taken_by : List Placed → List Entry → Counts
taken_by is es = counts (length is) (length (log_from 0 is)) (length (string_store is)) (length es)

-- the type entries after one instruction more
types_more : (es : List Entry) (ps : List Placed) (p : Placed)
    → types_after es (ps ++ (p ∷ [])) ≡ track p.instr (types_after es ps)
unfolding types_after
types_more es [] p = refl
types_more es (q ∷ ps) p = types_more (track q.instr es) ps p

-- a book whose entries and counts are those of what it keeps
record Tidy (b : Book) : Type 0 where
  types : b.types ≡ types_after [] b.kept
  used : b.used ≡ taken_by b.kept b.types

-- an instruction more is kept
tidy_more : {g : Grammar} {b : Book} {at : ℕ} {rest : List ℕ} (z : Enters g b at rest) → Tidy b → Tidy (with z)
unfolding taken_by
tidy_more {b = b} z t =
    let p : Placed = placed_of z in
    let n : ℕ = length (string_store b.kept) in
    record {
      types = ap (track z.instr) t.types ∙ sym (types_more [] b.kept p);
      used =
          rw (
            t.used,
            length-append b.kept (p ∷ []),
            log_more 0 b.kept p,
            strings_more b.kept p,
            length-append (log_from 0 b.kept),
            length-append (string_store b.kept),
            operands_log_length (0 + n) 0,
          );
    }

-- what the instructions kept say of a load: they are what is left of instructions; its index is 0 where it came to no instruction
pub record KeptSays (o : Outcome) : Type 0 where
  pub left : o.left ≡ o.kept
  pub types : o.types ≡ types_after [] o.kept
  pub counts : o.said.counts ≡ taken_by o.kept o.types
  pub index : 1 ≤ o.said.index → o.said.index ≡ length o.kept + 1

-- of a run
run_says : {g : Grammar} {room : Counts} {h : List ℕ} {b : Book} {at : ℕ} {rest : List ℕ} {o : Outcome} → Run g room h b at rest o
    → Tidy b
    → KeptSays o
unfolding taken_by
run_says (stops n place v x) t =
    record { left = refl; types = t.types; counts = t.used; index = λ e. ap (λ (c : Counts). c.instructions + 1) t.used }
run_says (keeps z e run) t = run_says run (tidy_more z t)

-- whatever is said of plain
plain_says : (s : List ℕ) {o : Outcome} → KeptSays o → KeptSays (with_plain s o)
plain_says s k = record { left = k.left; types = k.types; counts = k.counts; index = k.index }

-- before an instruction
nothing_says : (n at : ℕ) → KeptSays (nothing n at)
unfolding types_after taken_by log_from string_store
nothing_says n at = record { left = refl; types = refl; counts = refl; index = λ e. absurd (omega arith) }

-- of a load
of_load : {grammar : List ℕ} {room : Counts} {s : List ℕ} {o : Outcome} → Loads grammar room s o → KeptSays o
unfolding types_after taken_by log_from string_store
of_load (unformed e) = nothing_says 24 0
of_load (overlong e) = nothing_says 31 0
of_load (headless n at e f) = nothing_says n at
of_load {s = s} (opens b run) = plain_says s (run_says run (record { types = refl; used = refl }))

-- the instructions kept say the rest
pub load_says : (grammar : List ℕ) (room : Counts) (s : List ℕ) → KeptSays (load grammar room s)
load_says grammar room s = of_load (load_is grammar room s)
