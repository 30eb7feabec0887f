-- Laws of keeping an instruction that goes in.
use Prim.Native.Nat.{ℕ, suc, ◌+◌, ◌-◌, ◌*◌, ◌<◌, ◌≤◌}
use mathlib.Core.Path.{◌≡◌, refl, ap, sym, subst, ◌∙◌}
use mathlib.Core.List.{List}
use native.Mathlib.Nat.{add-zero, zero-add}
use native.Mathlib.Omega.{arith}
use lib.ListN.{length, get_or, set, take, drop, take-append-drop}
use borrow.Rule.Slice.PartMut.{mid_of}
use lib.Seq.{sets, sets-eq, take-append_seam, length-take-le}
use Rattle.spec.specs.declared.Fields.{Fields}
use Rattle.spec.specs.Records.{Instr, Entry, operands_log, operands_strings, record_size, record_words}
use Rattle.spec.specs.Words.{four_at, bytes_of}
use Rattle.spec.specs.Reader.{Reader, Read, got, refused, reader_at}
use Rattle.spec.specs.Grammar.{grammar_of}
use Rattle.spec.specs.Match.{read_instr}
use Rattle.spec.specs.Load.{counts}
use Rattle.spec.proofs.Store.{sets_append, rest_is}
use Rattle.words.proofs.Copying.{Copied, copy_turn}
use Rattle.demands.proofs.Bytes.{SliceOfBytes, four_word}
use Rattle.demands.proofs.Room.{log_some}
use Rattle.demands.proofs.Formed.{well_formed_good}
use Rattle.demands.proofs.Instructions.{Frames, instr_read}
use Rattle.grammar.specs.Index.{Indexed}
use Rattle.operand.specs.Log.{Laid}
use Rattle.numbers.specs.declared.Step.{Step}
use Rattle.numbers.specs.Counting.{step_of}
use Rattle.tracker.specs.Entries.{entries_of, stored}
use Rattle.tracker.specs.declared.TypeTracker.{TypeTracker}
use Rattle.tracker.specs.Hints.{Hinted}
use Rattle.parser.specs.declared.inst.Decoded.{Decoded}
use Rattle.used.specs.declared.used.Used.{Used}
use Rattle.untyped.specs.Body.{body_read}
use Rattle.parser.specs.Inst.{Decodes, frame_of}
use Rattle.used.specs.Fresh.{unused}
use Rattle.steps.specs.declared.parts.Progress.{Progress}
use Rattle.steps.specs.declared.parts.Taken.{Taken}
use Rattle.steps.specs.Steps.{read_at, tracked, need_of, fields_by, Shown, Stored, Recorded}
use Rattle.steps.proofs.Judging.{log_size, strings_size}
use Rattle.spec.specs.declared.Refusal.{Refusal}
use Rattle.std.specs.Prelude.{Err, None, Ok, Result}

-- what is read once is the same
same_read : (x : Read Instr) (i j : Instr) (r q : Reader) → x ≡ got i r → x ≡ got j q → j ≡ i
same_read x i j r q e f = cc

-- THE COPY OF RECORDS

module _ {l₀ l s : List ℕ} {at i : ℕ} (r : Copied l₀ l s at i) where
  -- five bytes further: one, and the four of a word
  pub copy_five : SliceOfBytes s → i + 5 ≤ length s → (w : ℕ) → w ≡ four_at (i + 1) s → (l₁ : List ℕ)
      → l₁ ≡ sets (set l (at + i) (get_or s i 0)) (at + i + 1) (bytes_of w) → Copied l₀ l₁ s at (i + 5)
  copy_five bs h w e l₁ q =
      let b : (k : ℕ) → get_or s k 0 < 256 = λ k. (bs k).fits in
      let are = (four_word _ _ _ _ (b (i + 1), (b (i + 1 + 1), (b (i + 1 + 2), (b (i + 1 + 3), tt))))).1 in
      let one = copy_turn r (omega arith) in
      let two = copy_turn one (omega arith) in
      let three = copy_turn two (omega arith) in
      let four = copy_turn three (omega arith) in
      let five = copy_turn four (omega arith) in
      let at4 : suc (suc (suc (at + i + 1))) ≡ at + (i + 1 + 1 + 1 + 1) = omega arith in
      let at3 : suc (suc (at + i + 1)) ≡ at + (i + 1 + 1 + 1) = omega arith in
      let at2 : suc (at + i + 1) ≡ at + (i + 1 + 1) = omega arith in
      let at1 : at + i + 1 ≡ at + (i + 1) = omega arith in
      let i3 : i + 1 + 2 ≡ i + 1 + 1 + 1 = omega arith in
      let i4 : i + 1 + 3 ≡ i + 1 + 1 + 1 + 1 = omega arith in
      let i5 : i + 5 ≡ i + 1 + 1 + 1 + 1 + 1 = omega arith in
      rw (q, e, are, at4, at3, at2, at1, i3, i4, i5) five

  -- all of them, where the rest is stored too
  pub copy_rest : (l₁ : List ℕ) → l₁ ≡ sets l (at + i) (mid_of i (length s - i) s) → l₁ ≡ sets l₀ at s
  copy_rest l₁ q =
      let size : length (take i s) ≡ i = length-take-le i s r.within in
      q
      ∙ ap (λ (x : List ℕ). sets x (at + i) (mid_of i (length s - i) s)) r.stored
      ∙ ap (λ (bs : List ℕ). sets (sets l₀ at (take i s)) (at + i) bs) (rest_is s i)
      ∙ ap (λ (k : ℕ). sets (sets l₀ at (take i s)) (at + k) (drop i s)) (sym size)
      ∙ sets_append (take i s) (drop i s) l₀ at
      ∙ ap (λ (bs : List ℕ). sets l₀ at bs) (take-append-drop i s)

-- FROM SCRATCH AND SPARE

-- bytes that are all there are at the start
front_is : (l₀ l bs : List ℕ) (n : ℕ) → Laid l₀ 0 bs l → n ≡ length bs → n ≤ length l → take n l ≡ bs
front_is l₀ l bs n h q k =
    let e = h.there (omega (arith, k, h.same)) in
    ap (λ (m : ℕ). take m l) q
    ∙ ap (take (length bs)) (e ∙ sets-eq bs l₀ 0 (omega (arith, k, h.same)))
    ∙ take-append_seam bs (drop (0 + length bs) l₀)

-- the records of an instruction have nine bytes at most for each of its words
pub log_short : (g index : List ℕ) → Indexed g index → (es : List Entry) (s : List ℕ) (at : ℕ) (i : Instr) (r : Reader) (b : ℕ)
    → read_instr (grammar_of g) es (reader_at s at None) ≡ got i r → length (operands_log b i.operands) ≤ 9 * i.words
unfolding reader_at
log_short g index ix es s at i r b e =
    let z : Frames (grammar_of g) es at (drop at s) (got i r) =
    subst (Frames (grammar_of g) es at (drop at s)) e (instr_read (grammar_of g) (well_formed_good g ix.well) es at (drop at s))
    in
    omega (arith, log_some b i.operands, z.count)

module _ {s g types scratch spare : List ℕ} {p : Progress} {d : Decoded} (h : Shown s g types scratch spare p d) where
  -- where records and strings are short, they are in scratch and spare
  pub from_scratch : d.log ≤ length scratch → d.strings ≤ length spare → (l₀ s₀ l₁ s₁ : List ℕ)
      → l₁ ≡ sets l₀ p.log (take d.log scratch) → s₁ ≡ sets s₀ p.strings (take d.strings spare) → Stored s g types l₀ s₀ l₁ s₁ p
  unfolding Stored unused
  from_scratch kl ks l₀ s₀ l₁ s₁ ql qs i r f =
      let j = same_read (read_at s g types p) h.handed.instr i _ r h.handed.read f in
      let os = h.handed.instr.operands in
      let laid = subst (λ (n : ℕ). Laid h.scratch₀ 0 (operands_log n os) scratch) (add-zero p.strings) h.handed.log_laid in
      let a : take d.log scratch ≡ operands_log p.strings os = front_is h.scratch₀ scratch _ d.log laid (log_size h) kl in
      let b : take d.strings spare ≡ operands_strings os =
      front_is h.spare₀ spare _ d.strings h.handed.strings_laid (strings_size h) ks
      in (
        ql ∙ ap (sets l₀ p.log) a ∙ ap (λ (o : Instr). sets l₀ p.log (operands_log p.strings o.operands)) (sym j),
        qs ∙ ap (sets s₀ p.strings) b ∙ ap (λ (o : Instr). sets s₀ p.strings (operands_strings o.operands)) (sym j),
      )

  -- else they are read again
  pub from_module : (l₀ s₀ l₁ s₁ : List ℕ) → p.log + d.log ≤ length l₀ → p.strings + d.strings ≤ length s₀ → (v : Result Decoded Refusal)
      → (u : Used) → u ≡ unused p.log p.strings 0 0
      → Decodes s p.at (body_read g (entries_of p.tracker.count types) s (frame_of p.at d)) l₀ s₀ l₁ s₁ u v → Stored s g types l₀ s₀ l₁ s₁ p
  unfolding Stored Decodes unused
  from_module l₀ s₀ l₁ s₁ fl fs (Ok c) u e told i r f =
      let k = rw e at told in
      let j = same_read (read_at s g types p) h.handed.instr i _ r h.handed.read f in
      let o = same_read (read_at s g types p) i k.instr r _ f (h.row.body ∙ k.read) in
      let laid = subst (λ (n : ℕ). Laid l₀ p.log (operands_log n k.instr.operands) l₁) (zero-add p.strings) k.log_laid in (
        laid.there (omega (arith, fl, log_size h, ap (λ (y : Instr). length (operands_log p.strings y.operands)) (o ∙ j)))
            ∙ ap (λ (y : Instr). sets l₀ p.log (operands_log p.strings y.operands)) o,
        k.strings_laid.there (omega (arith, fs, strings_size h, ap (λ (y : Instr). length (operands_strings y.operands)) (o ∙ j)))
            ∙ ap (λ (y : Instr). sets s₀ p.strings (operands_strings y.operands)) o,
      )
  from_module l₀ s₀ l₁ s₁ fl fs (Err y) u e k i r f =
      let w : read_at s g types p ≡ refused y k.rest = h.row.body ∙ k.read in
      let z : ◌≡◌ {A = ℕ} 0 1 = cc in
      absurd (omega arith)

-- THE RECORD AND THE ENTRY

-- a load that stands behind an instruction whose record and entry are stored
pub recorded : (i₀ t₀ i₁ t₁ h₁ : List ℕ) (t : Taken) (f : Fields) (c : Step) (r : TypeTracker) → f ≡ fields_by t.from t.read t.tag
    → c ≡ step_of t.tag t.from.numbers → i₁ ≡ sets i₀ (record_size * t.from.instructions) (record_words f c.own) → r.count ≡ length (tracked t.read (entries_of t.from.tracker.count t₀))
    → t₁ ≡ stored t₀ (tracked t.read (entries_of t.from.tracker.count t₀)) → Hinted r t₁ h₁
    → Recorded i₀ t₀ i₁ t₁ h₁ t
    (record {
      at = t.from.at + 4 * t.read.words;
      instructions = t.from.instructions + 1;
      log = t.from.log + t.read.log;
      strings = t.from.strings + t.read.strings;
      tracker = r;
      numbers = c.begun;
      state = t.state;
      breaks = t.read.breaks;
    })
unfolding need_of
recorded i₀ t₀ i₁ t₁ h₁ t f c r ef ec ei en et hint =
    record {
      at = refl;
      used = ap (counts (t.from.instructions + 1) (t.from.log + t.read.log) (t.from.strings + t.read.strings)) en;
      numbers = ap (λ (x : Step). x.begun) ec;
      state = refl;
      breaks = refl;
      instructions_are =
          ei
          ∙ ap (λ (z : Fields). sets i₀ (record_size * t.from.instructions) (record_words z c.own)) ef
          ∙ ap (λ (x : Step). sets i₀ (record_size * t.from.instructions) (record_words (fields_by t.from t.read t.tag) x.own)) ec;
      types_are = et;
      hinted = hint;
    }
