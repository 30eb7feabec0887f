-- Laws of a load's beginning: its first refusals, and the instructions after the header.
use Prim.Native.Nat.{ℕ, zero, suc, ◌<◌, ◌≤◌}
use mathlib.Core.Path.{◌≡◌, refl, ap, sym, subst, ◌∙◌}
use mathlib.Core.Bool.{true, false}
use mathlib.Core.List.{List}
use borrow.Author.Tests.{lt-ltb, le-ltb, ne_eqb}
use lib.ListN.{length, replicate}
use Rattle.spec.specs.declared.HeaderRead.{HeaderRead}
use Rattle.spec.specs.declared.Counts.{Counts}
use Rattle.spec.specs.declared.Loaded.{Loaded}
use Rattle.spec.specs.Records.{fields_from, records_with, numbered, instruction_store, log_from, string_store}
use Rattle.spec.specs.Reader.{reader_at}
use Rattle.spec.specs.Header.{header_from}
use Rattle.spec.specs.Grammar.{grammar_of, well_formed}
use Rattle.spec.specs.Builtin.{builtin, builtin_well_formed}
use Rattle.spec.specs.Load.{Outcome, nothing, after_header, load_with, load, Stores, stores_of, laid_over, laid_on}
use Rattle.demands.proofs.Bytes.{SliceOfBytes, slice_bytes}
use Rattle.demands.proofs.Starts.{header_is}
use Rattle.grammar.specs.Index.{Indexed}
use Rattle.tracker.specs.Hints.{Blank}
use Rattle.steps.specs.declared.parts.Ended.{Ended}
use Rattle.steps.specs.Steps.{said_at}
use Rattle.loader.specs.Loading.{loading, Leaves, Loads, LoadsWith, LoadsFrom}

-- a load that comes to no instruction leaves the stores alone
leaves_nothing : (x : Outcome) (t : Stores) (a : Loaded) (n at : ℕ) → x ≡ nothing n at → a ≡ (nothing n at).said → Leaves x t t a
unfolding stores_of laid_on laid_over fields_from records_with numbered instruction_store log_from string_store
leaves_nothing x t a n at e q = rw e (record { said = q; stores = refl })

-- hints that are all 0 are blank
pub blank_hints : (n : ℕ) → Blank (replicate n 0)
unfolding Blank
blank_hints zero k = refl
blank_hints (suc n) zero = refl
blank_hints (suc n) (suc k) = blank_hints n k

-- THE LENGTH AND THE HEADER

-- a header that is there has twenty bytes
pub with_room : (s : List ℕ) (h : HeaderRead) → h ≡ header_from s → h.refusal.number ≡ 0 → 20 ≤ length s
with_room s h e z = ((header_is s).there (ap (λ (k : HeaderRead). k.refusal.number) (sym e) ∙ z)).0

module _ (g s : List ℕ) where
  -- a module that is too long
  pub with_long : 67108864 < length s → (t : Stores) (a : Loaded) → a ≡ (nothing 31 0).said → LoadsWith g s t t a
  unfolding LoadsWith load_with
  with_long h t a q = leaves_nothing _ t a 31 0 (simp (lt-ltb 67108864 (length s) h)) q

  module _ (short : length s ≤ 67108864) (h : HeaderRead) (e : h ≡ header_from s) where
    -- by the header
    by_header : (room : Counts) → load_with (grammar_of g) room s ≡ after_header (grammar_of g) room s h
    unfolding load_with
    by_header room = simp (le-ltb 67108864 (length s) short) (ap (after_header (grammar_of g) room s) (sym e))

    -- a header that is refused
    pub with_headless : (h.refusal.number ≡ 0 → ⊥) → (t : Stores) (a : Loaded)
        → a ≡ (nothing h.refusal.number h.refusal.place).said → LoadsWith g s t t a
    unfolding LoadsWith
    with_headless z t a q =
        leaves_nothing _ t a h.refusal.number h.refusal.place (by_header _ ∙ simp (ne_eqb h.refusal.number 0 z)) q

    -- the instructions after one that is there
    pub with_header : h.refusal.number ≡ 0 → (t u : Stores) (x : Ended) → LoadsFrom g s t u x → (a : Loaded) → a ≡ said_at h.words (length s) x
        → LoadsWith g s t u a
    unfolding LoadsWith LoadsFrom reader_at
    with_header z t u x k a q = rw q (subst (λ (o : Outcome). Leaves o t u (said_at h.words (length s) x)) (sym (by_header _ ∙ simp z)) (k h.words))

-- THE GRAMMAR

module _ (g s : List ℕ) (t : Stores) (by : SliceOfBytes s) where
  -- a grammar that is not well-formed
  pub load_unformed : well_formed g ≡ false → (a : Loaded) → a ≡ (nothing 24 0).said → Loads s g t t a
  unfolding loading load
  load_unformed e a q = record { leaves = leaves_nothing _ t a 24 0 (rw e) q; bytes = slice_bytes s by }

  -- one that is
  pub load_formed : well_formed g ≡ true → (u : Stores) (a : Loaded) → LoadsWith g s t u a → Loads s g t u a
  unfolding loading load LoadsWith
  load_formed e u a k = record { leaves = rw e k; bytes = slice_bytes s by }

-- THE BUILT-IN GRAMMAR

-- bytes that are the built-in grammar's have the index that is prepared
pub builtin_indexed : (g index : List ℕ) → g ≡ builtin → Indexed builtin index → Indexed g index
builtin_indexed g index e h = rw e h

-- it is well-formed, so nothing is checked
pub load_prepared : (g s : List ℕ) (t : Stores) → SliceOfBytes s → g ≡ builtin → (u : Stores) (a : Loaded)
    → LoadsWith g s t u a → Loads s builtin t u a
load_prepared g s t by e u a k =
    load_formed builtin s t by builtin_well_formed u a (subst (λ (x : List ℕ). LoadsWith x s t u a) e k)
