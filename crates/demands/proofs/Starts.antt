-- A load from its start: what can become of it, one case each.
use Prim.Native.Nat.{ℕ, ◌+◌, ◌/◌, ◌≤◌, ◌<◌}
use mathlib.Core.Path.{◌≡◌, refl, ap, ◌∙◌}
use mathlib.Core.Bool.{true, false}
use mathlib.Core.List.{List, [], ◌∷◌, ◌++◌}
use native.Mathlib.Omega.{arith}
use borrow.Author.Tests.{ltb-true, ltb-false, eqb-true, eqb-false, le-ltb}
use lib.Dec.{ltb, eqb}
use lib.ListN.{length, take, drop, length-append, length-drop}
use lib.Seq.{take_at, drop_at, length-take-le}
use Rattle.spec.specs.declared.HeaderRead.{HeaderRead}
use Rattle.spec.specs.declared.Counts.{Counts}
use Rattle.spec.specs.Words.{words_of}
use Rattle.spec.specs.Header.{magic_fault, no_header, header_from}
use Rattle.spec.specs.Grammar.{Grammar, grammar_of, well_formed}
use Rattle.spec.specs.Reader.{refusal}
use Rattle.spec.specs.Load.{Book, empty_book, Outcome, nothing, with_plain, after_header, load_with, load}
use Rattle.demands.proofs.Choice.{either}
use Rattle.demands.proofs.Formed.{GrammarGood, well_formed_good}
use Rattle.demands.proofs.Runs.{Run, stops, keeps, runs, loads}

-- THE HEADER

-- what a header's number says: 0 where its twenty bytes are there, and its words are theirs; else 1 to 3
pub record HeaderIs (s : List ℕ) (h : HeaderRead) : Type 0 where
  pub small : h.refusal.number ≤ 3
  pub there : h.refusal.number ≡ 0 → (20 ≤ length s) × (h.words ≡ words_of (take 20 s))

-- a magic number's fault is 0, 2 or 3
magic_number : (ws : List ℕ) → magic_fault ws ≤ 3
magic_number [] = omega arith
magic_number (w ∷ ws) =
    either (λ (n : ℕ). n ≤ 3) (eqb w 0x07230203) _ _ (λ e. omega arith)
    (λ e. either (λ (n : ℕ). n ≤ 3) (eqb w 0x03022307) 3 2 (λ e. omega arith) (λ e. omega arith))

-- a header is so
pub header_is : (s : List ℕ) → HeaderIs s (header_from s)
unfolding header_from
header_is s =
    let ws : List ℕ = words_of (take 20 s) in
    either (HeaderIs s) (ltb (length s) 20) _ _ (λ e. record { small = omega arith; there = λ f. absurd (omega arith) })
    (λ e. either (HeaderIs s) (eqb (magic_fault ws) 0) (record { refusal = refusal 0 0 0; words = ws }) (no_header (magic_fault ws) 0)
    (λ f. record { small = omega arith; there = λ g. (ltb-false (length s) 20 e, refl) })
    (λ f. record { small = magic_number ws; there = λ g. absurd (eqb-false (magic_fault ws) 0 f g) }))

-- a header is read from its twenty bytes
pub header_same : (s z : List ℕ) → 20 ≤ length s → header_from (take 20 s ++ z) ≡ header_from s
unfolding header_from
header_same s z h =
    let head = length-take-le 20 s h in
    let all = length-append (take 20 s) z in
    rw (le-ltb (length (take 20 s ++ z)) 20 (omega arith), le-ltb (length s) 20 h, take_at (take 20 s) z 20 head)

-- FROM THE START

-- a load comes to the instructions: the grammar is well-formed, the module no longer than may be, the header good
pub record Opens (grammar s : List ℕ) : Type 0 where
  pub formed : well_formed grammar ≡ true
  pub short : length s ≤ 67108864
  pub header : (header_from s).refusal.number ≡ 0

-- such a grammar
pub opens_good : {grammar s : List ℕ} → Opens grammar s → GrammarGood (grammar_of grammar)
opens_good {grammar} b = well_formed_good grammar b.formed

-- the run of a module's instructions
abbrev pub ModuleRun : List ℕ → Counts → List ℕ → Outcome → Type 0
ModuleRun grammar room s o = Run (grammar_of grammar) room (header_from s).words empty_book 20 (drop 20 s) o

-- "24, 31 and the header come first, in that order", then the instructions
pub data Loads (grammar : List ℕ) (room : Counts) (s : List ℕ) : Outcome → Type 0 where
  unformed : well_formed grammar ≡ false → Loads grammar room s (nothing 24 0)
  overlong : 67108864 < length s → Loads grammar room s (nothing 31 0)
  headless : (n at : ℕ) → 1 ≤ n → n ≤ 3 → Loads grammar room s (nothing n at)
  opens : {o : Outcome} → Opens grammar s → ModuleRun grammar room s o → Loads grammar room s (with_plain s o)

-- THE HEADER WORDS OF AN ANSWER

-- a run answers with the header words that it was given
run_header : {grammar : Grammar} {room : Counts} {h : List ℕ} {b : Book} {at : ℕ} {rest : List ℕ} {o : Outcome}
    → Run grammar room h b at rest o → o.said.header ≡ h
run_header (stops n place v x) = refl
run_header (keeps z e run) = run_header run

-- bytes have a word for every four
words_count : (l : List ℕ) → length (words_of l) ≡ length l / 4
unfolding words_of
words_count [] = refl
words_count (a ∷ []) = refl
words_count (a ∷ b ∷ []) = refl
words_count (a ∷ b ∷ c ∷ []) = refl
words_count (a ∷ b ∷ c ∷ d ∷ r) = omega (arith, words_count r)

-- a load answers with five header words
pub header_five : {grammar : List ℕ} {room : Counts} {s : List ℕ} {o : Outcome} → Loads grammar room s o → length o.said.header ≡ 5
header_five (unformed e) = refl
header_five (overlong e) = refl
header_five (headless n at e f) = refl
header_five {s = s} (opens b run) =
    let head = (header_is s).there b.header in
    ap length (run_header run ∙ head.1) ∙ omega (arith, words_count (take 20 s), length-take-le 20 s head.0)

-- THE INSTRUCTIONS

-- the words of a module are fuel enough for its instructions
module_fuel : (s : List ℕ) → length (drop 20 s) / 4 ≤ length s / 4
module_fuel s = let e = length-drop 20 s in omega arith

module _ (grammar : List ℕ) (room : Counts) (s : List ℕ) where
  -- by the header
  header_loads : well_formed grammar ≡ true → length s ≤ 67108864
      → Loads grammar room s (after_header (grammar_of grammar) room s (header_from s))
  header_loads f h =
      either (Loads grammar room s) (eqb (header_from s).refusal.number 0) _ _
      (λ e. opens (record { formed = f; short = h; header = eqb-true (header_from s).refusal.number 0 e })
      (runs (grammar_of grammar) (well_formed_good grammar f) room (header_from s).words (length s / 4) empty_book 20 (drop 20 s)
      (module_fuel s)))
      (λ e. let n = eqb-false (header_from s).refusal.number 0 e in
      headless (header_from s).refusal.number (header_from s).refusal.place (omega arith) (header_is s).small)

  -- what becomes of a load
  pub load_is : Loads grammar room s (load grammar room s)
  unfolding load load_with
  load_is =
      either (Loads grammar room s) (well_formed grammar) _ _
      (λ f. either (Loads grammar room s) (ltb 67108864 (length s)) _ _ (λ e. overlong (ltb-true 67108864 (length s) e))
      (λ e. header_loads f (ltb-false 67108864 (length s) e)))
      (λ f. unformed f)

  -- bytes after the header of a module that comes to its instructions load to what their run comes to
  pub load_after : Opens grammar s → (z : List ℕ) → length z + 20 ≤ length s → {o : Outcome}
      → Run (grammar_of grammar) room (header_from s).words empty_book 20 z o
      → load grammar room (take 20 s ++ z) ≡ with_plain (take 20 s ++ z) o
  unfolding load load_with
  load_after b z few run =
      let head = length-take-le 20 s ((header_is s).there b.header).0 in
      let all = length-append (take 20 s) z in
      rw (
        b.formed,
        le-ltb 67108864 (length (take 20 s ++ z)) (omega arith),
        header_same s z (omega arith),
        b.header,
        drop_at (take 20 s) z 20 head,
      )
      (ap (with_plain (take 20 s ++ z))
      (loads (grammar_of grammar) (opens_good b) room (header_from s).words run (length (take 20 s ++ z) / 4) (omega arith)))
