-- Laws of the listing's lines: each is written piece by piece, and how long it is at most.
use Prim.Native.Nat.{ℕ, zero, suc, ◌+◌, ◌-◌, ◌*◌, ◌%◌, ◌≤◌, ◌<◌}
use mathlib.Core.Path.{◌≡◌, ap, sym, ◌∙◌}
use mathlib.Core.Bool.{Bool, true, false, ◌&&◌, and_assoc, and-true}
use mathlib.Core.List.{List, [], ◌∷◌, ◌++◌, append_assoc, append-nil}
use native.Mathlib.Omega.{arith}
use native.Mathlib.Nat.{sub-zero}
use native.Mathlib.Numerals.{add-one}
use borrow.Author.Tests.{eq-eqb, ne_eqb}
use lib.Dec.{eqb}
use lib.ListN.{length, get_or, drop, length-append}
use lib.Seq.{drop-drop}
use Rattle.spec.specs.declared.Fields.{Fields}
use Rattle.spec.specs.declared.Loaded.{Loaded}
use Rattle.std.specs.Prelude.{if◌then◌else◌}
use Rattle.spec.specs.Base.{every}
use Rattle.spec.specs.Words.{major, minor}
use Rattle.spec.specs.Records.{Placed, record_size, fields_at}
use Rattle.spec.specs.Listing.{numbers_line, version_line, module_line, record_lines, accepted_line, refused_line, last_line}
use Rattle.texts.specs.Wrote.{Wrote}
use Rattle.listed.specs.Lines.{record_line, lines_of}
use Rattle.texts.proofs.Laws.{Reach, reach, wrote_none, wrote_then, decimal_few}

-- THE MODULE LINE

-- five header words are all 0
pub zero_all : (h : List ℕ) → length h ≡ 5
    → (eqb (get_or h 0 0) 0 && eqb (get_or h 1 0) 0 && eqb (get_or h 2 0) 0 && eqb (get_or h 3 0) 0 && eqb (get_or h 4 0) 0) ≡ every (λ w. eqb w 0) h
zero_all (a ∷ b ∷ c ∷ d ∷ e ∷ []) n = simp (and_assoc, and-true)
zero_all [] n = absurd (omega arith)
zero_all (a ∷ []) n = absurd (omega arith)
zero_all (a ∷ b ∷ []) n = absurd (omega arith)
zero_all (a ∷ b ∷ c ∷ []) n = absurd (omega arith)
zero_all (a ∷ b ∷ c ∷ d ∷ []) n = absurd (omega arith)
zero_all (a ∷ b ∷ c ∷ d ∷ e ∷ f ∷ h) n = absurd (omega arith)

-- no line where the header words are 0
pub module_none : (l h : List ℕ) (at : ℕ) → every (λ w. eqb w 0) h ≡ true → Wrote l l at at (module_line h)
unfolding module_line
module_none l h at e = rw e (wrote_none l at)

-- a line where they are not
pub module_some : {a b : List ℕ} {i j : ℕ} (h : List ℕ) → every (λ w. eqb w 0) h ≡ false
    → Wrote a b i j (version_line (get_or h 1 0) (get_or h 3 0))
    → Wrote a b i j (module_line h)
unfolding module_line
module_some h e w = rw e w

-- at most 76 bytes
version_few : (version bound : ℕ) → length (version_line version bound) ≤ 76
unfolding version_line numbers_line
version_few version bound =
    simp length-append (omega (arith, decimal_few (major version), decimal_few (minor version), decimal_few bound))

-- a few bytes either way
pub few_both : (t : Bool) (n : ℕ) (r s : List ℕ) → length r ≤ n → length s ≤ n → length (if t then r else s) ≤ n
few_both true n r s g h = g
few_both false n r s g h = h

-- the module line too
pub module_few : (h : List ℕ) → length (module_line h) ≤ 76
unfolding module_line
module_few h = few_both (every (λ w. eqb w 0) h) 76 [] _ (omega arith) (version_few (get_or h 1 0) (get_or h 3 0))

-- so it reaches at most 76 bytes on
pub module_reach : {a b : List ℕ} {i j : ℕ} (h : List ℕ) → Wrote a b i j (module_line h) → Reach a b i j 76
module_reach h w = reach 76 w (module_few h)

-- THE RECORD LINES

-- a record's line has at most 105 bytes
record_few : (index : ℕ) (f : Fields) → length (record_line index f) ≤ 105
unfolding record_line numbers_line
record_few index f =
    simp length-append
    (omega (arith, decimal_few index, decimal_few f.offset, decimal_few f.tag, decimal_few (f.head % 65536), decimal_few f.words))

-- and so has each of some
lines_few : (index n : ℕ) (ws : List ℕ) → length (lines_of index n ws) ≤ 105 * n
unfolding lines_of
lines_few index zero ws = omega arith
lines_few index (suc n) ws =
    omega (
      arith,
      length-append (record_line index (fields_at ws)) (lines_of (suc index) n (drop record_size ws)),
      record_few index (fields_at ws),
      lines_few (suc index) n (drop record_size ws),
    )

-- record lines reach at most 105 bytes on for each record
pub lines_reach : {a b : List ℕ} {i j : ℕ} (index n : ℕ) (ws : List ℕ) → Wrote a b i j (lines_of index n ws) → Reach a b i j (105 * n)
lines_reach index n ws w = reach (105 * n) w (lines_few index n ws)

-- the first record's line, and those of the rest
lines_first : (index n m : ℕ) (ws : List ℕ) → n ≡ suc m
    → lines_of index n ws ≡ record_line index (fields_at ws) ++ lines_of (index + 1) m (drop record_size ws)
unfolding lines_of
lines_first index n m ws e = rw (e, add-one)

-- the lines of the first i of some records are written
pub record Lined (a b ws : List ℕ) (at end count i : ℕ) : Type 0 where
  pub done : List ℕ
  pub wrote : Wrote a b at end done
  pub whole : lines_of 1 count ws ≡ done ++ lines_of (i + 1) (count - i) (drop (record_size * i) ws)
  pub few : length done ≤ 105 * i
  pub within : i ≤ count

-- none is written
pub lined_start : (a ws : List ℕ) (at count : ℕ) → Lined a a ws at at count 0
lined_start a ws at count =
    record {
      done = [];
      wrote = wrote_none a at;
      whole = ap (λ (n : ℕ). lines_of 1 n ws) (sym (sub-zero count));
      few = omega arith;
      within = omega arith;
    }

module _ {a b ws : List ℕ} {at end count i : ℕ} (r : Lined a b ws at end count i) where
  -- there is room for one more
  pub lined_room : i < count → at + 105 * count ≤ length a → end + 105 ≤ length b
  lined_room h g = omega (arith, r.few, reach (length r.done) r.wrote (omega arith))

  -- the buffer keeps its length
  pub lined_same : length b ≡ length a
  lined_same = (reach (length r.done) r.wrote (omega arith)).same

  -- one more is written
  pub lined_more : {c : List ℕ} {next : ℕ} (f : Fields) → i < count → f ≡ fields_at (drop (record_size * i) ws)
      → Wrote b c end next (record_line (i + 1) f)
      → Lined a c ws at next count (i + 1)
  lined_more f h e w =
      let line : List ℕ = record_line (i + 1) (fields_at (drop (record_size * i) ws)) in
      let left : List ℕ = lines_of (i + 1 + 1) (count - (i + 1)) (drop (record_size * (i + 1)) ws) in
      let step : record_size * i + record_size ≡ record_size * (i + 1) = omega arith in
      let first : lines_of (i + 1) (count - i) (drop (record_size * i) ws) ≡ line ++ left =
      lines_first (i + 1) (count - i) (count - (i + 1)) (drop (record_size * i) ws) (omega arith)
      ∙ ap (λ (l : List ℕ). line ++ lines_of (i + 1 + 1) (count - (i + 1)) l)
      (drop-drop record_size (record_size * i) ws ∙ ap (λ (n : ℕ). drop n ws) step) in
      record {
        done = r.done ++ line;
        wrote = wrote_then r.wrote (rw e at w);
        whole = r.whole ∙ ap (λ (l : List ℕ). r.done ++ l) first ∙ sym (append_assoc r.done line left);
        few = omega (arith, r.few, length-append r.done line, record_few (i + 1) (fields_at (drop (record_size * i) ws)));
        within = omega arith;
      }

  -- all are written
  pub lined_all : count ≤ i → Wrote a b at end (lines_of 1 count ws)
  unfolding lines_of
  lined_all h =
      let None : count - i ≡ 0 = omega arith in
      rw (r.whole, None, append-nil) r.wrote

-- the lines of instructions have at most 105 bytes each
pub record_lines_few : (index : ℕ) (ps : List Placed) → length (record_lines index ps) ≤ 105 * length ps
unfolding record_lines numbers_line
record_lines_few index [] = omega arith
record_lines_few index (p ∷ ps) =
    simp length-append
    (omega (
      arith,
      decimal_few index,
      decimal_few p.instr.offset,
      decimal_few p.tag,
      decimal_few p.instr.opcode,
      decimal_few p.instr.words,
      record_lines_few (suc index) ps,
    ))

-- THE LAST LINE

-- at most 71 bytes
pub last_few : (x : Loaded) → length (last_line x) ≤ 71
unfolding last_line accepted_line refused_line numbers_line
last_few x =
    few_both (eqb x.number 0) 71 _ _ (simp length-append (omega (arith, decimal_few x.counts.instructions)))
    (simp length-append (omega (arith, decimal_few x.number, decimal_few x.offset, decimal_few x.index)))

-- a load that is accepted
pub last_accepted : {a b : List ℕ} {i j : ℕ} (x : Loaded) → x.number ≡ 0 → Wrote a b i j (accepted_line x.counts.instructions)
    → Wrote a b i j (last_line x)
unfolding last_line
last_accepted x e w = rw (eq-eqb x.number 0 e) w

-- a load that is refused
pub last_refused : {a b : List ℕ} {i j : ℕ} (x : Loaded) → (x.number ≡ 0 → ⊥)
    → Wrote a b i j (refused_line x.number x.offset x.index)
    → Wrote a b i j (last_line x)
unfolding last_line
last_refused x e w = rw (ne_eqb x.number 0 e) w
