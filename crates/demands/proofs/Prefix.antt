-- Nothing changes before a cut: whatever bytes follow a module, what is kept of it alone is kept first.
use Prim.Native.Nat.{ℕ, ◌≤◌}
use native.Mathlib.Omega.{arith}
use mathlib.Core.Path.{◌≡◌, refl, ap, sym, ◌∙◌, subst, subst₂}
use mathlib.Core.List.{List, ◌++◌, append_assoc}
use lib.ListN.{take, drop, take-append-drop}
use lib.Seq.{drop-append-le}
use Rattle.spec.specs.declared.HeaderRead.{HeaderRead}
use Rattle.spec.specs.declared.Counts.{Counts}
use Rattle.spec.specs.Reader.{Reader}
use Rattle.spec.specs.Header.{header_from}
use Rattle.spec.specs.Grammar.{Grammar, grammar_of}
use Rattle.spec.specs.Load.{Book, empty_book, Outcome, load}
use Rattle.demands.proofs.Lists.{Begins}
use Rattle.demands.proofs.Formed.{GrammarGood}
use Rattle.demands.proofs.Runs.{Run, stops, keeps, entered_read, run_on}
use Rattle.demands.proofs.Starts.{header_is, header_same, opens_good, Loads, unformed, overlong, headless, opens, load_is}
use Rattle.demands.proofs.Kept.{run_read, enters_from}

module _ (g : Grammar) (good : GrammarGood g) (room : Counts) (h : List ℕ) where
  -- what is kept of fewer bytes is the first of what is kept of more
  longer_begins : {b : Book} {at : ℕ} {rest : List ℕ} {o u : Outcome} (y : List ℕ) → Run g room h b at rest o
      → Run g room h b at (rest ++ y) u
      → Begins u.kept o.kept
  longer_begins {b} y (stops n place v x) run =
      let r = run_read g good room h run in
      (r.new, ap (λ (c : Outcome). c.kept) r.stopped ∙ r.kept)
  longer_begins {u = u} y (keeps {b = b} {at = at} z e c) run =
      let x = entered_read g good z in
      let behind : x.behind ≡ z.behind = ap (λ (t : Reader). t.rest) (sym x.to) in
      let whole =
      ap (λ (l : List ℕ). l ++ y) (x.takes ∙ ap (λ (l : List ℕ). x.from ++ l) behind) ∙ append_assoc x.from z.behind y in
      longer_begins y c
      (run_on g good room h (enters_from z x.from (z.behind ++ y) x.again (omega (arith, x.whole, x.some_word))) e
      (subst (λ (l : List ℕ). Run g room h b at l u) whole run))

module _ (grammar : List ℕ) (room : Counts) (s y : List ℕ) where
  -- by what became of both loads
  begins_of : {o u : Outcome} → Loads grammar room s o → Loads grammar room (s ++ y) u → 1 ≤ u.said.index
      → Begins u.kept o.kept
  begins_of {u = u} (unformed e) m h = (u.kept, refl)
  begins_of {u = u} (overlong e) m h = (u.kept, refl)
  begins_of {u = u} (headless n at e f) m h = (u.kept, refl)
  begins_of (opens b c) (unformed e) h = absurd (omega arith)
  begins_of (opens b c) (overlong e) h = absurd (omega arith)
  begins_of (opens b c) (headless n at e f) h = absurd (omega arith)
  begins_of (opens b c) (opens {o = u} d run) h =
      let there = ((header_is s).there b.header).0 in
      let whole : s ++ y ≡ take 20 s ++ (drop 20 s ++ y) =
      ap (λ (l : List ℕ). l ++ y) (sym (take-append-drop 20 s)) ∙ append_assoc (take 20 s) (drop 20 s) y in
      let header : header_from (s ++ y) ≡ header_from s = ap header_from whole ∙ header_same s (drop 20 s ++ y) there in
      longer_begins (grammar_of grammar) (opens_good b) room (header_from s).words y c
      (subst₂ (λ (x : HeaderRead) (l : List ℕ). Run (grammar_of grammar) room x.words empty_book 20 l u) header
      (drop-append-le 20 s y there) run)

  -- whatever bytes follow a module, what is kept of it is kept first, unless they make it too long
  pub load_longer : 1 ≤ (load grammar room (s ++ y)).said.index
      → Begins (load grammar room (s ++ y)).kept (load grammar room s).kept
  load_longer h = begins_of (load_is grammar room s) (load_is grammar room (s ++ y)) h
