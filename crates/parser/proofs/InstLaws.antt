-- Laws of one instruction: its first word, its row, and its end.
use Prim.Native.Nat.{ℕ, zero, suc, ◌+◌, ◌*◌, ◌/◌, ◌%◌, ◌≤◌}
use mathlib.Core.Path.{◌≡◌, refl, ap, sym, ◌∙◌, subst}
use mathlib.Core.Bool.{Bool, true, false}
use mathlib.Core.List.{List, [], ◌∷◌}
use Rattle.std.specs.Prelude.{Option, None, Some}
use native.Mathlib.Omega.{arith}
use borrow.Author.Tests.{eq-eqb, ne_eqb, eqb-true}
use lib.Dec.{eqb}
use lib.ListN.{length}
use Rattle.spec.specs.declared.Refusal.{Refusal}
use Rattle.std.specs.Prelude.{if◌then◌else◌}
use Rattle.spec.specs.Grammar.{Slot, row_of, grammar_of}
use Rattle.spec.specs.Records.{Operand, Instr, Entry}
use Rattle.spec.specs.Reader.{Reader, Read, got, refused, after, refuse, refusal, reached, read_word, reader_at}
use Rattle.spec.specs.Plain.{instr_break}
use Rattle.spec.specs.Match.{Seen, instr_of, all_read, read_body, read_instr}
use Rattle.decoder.specs.declared.Decoder.{Decoder}
use Rattle.decoder.specs.Answer.{decoder, reader_of, limit_reached, word_from}
use Rattle.decoder.proofs.Laws.{word_got, word_refused}
use Rattle.grammar.specs.Index.{Indexed}
use Rattle.grammar.specs.Find.{Sure, place_found, row_found, row_good}
use Rattle.tracker.specs.Track.{literal_of, Literals}
use Rattle.used.specs.declared.used.Used.{Used}
use Rattle.used.specs.declared.used.Frame.{Frame}
use Rattle.used.specs.Parse.{Notes, first_of, second_of, notes_of, note_as, note, notes, no_notes, left_of, slots_at, RowRead, Walks}
use Rattle.parser.specs.Inst.{Ended, Decodes, DecodesOver, ShapeIs, RowIs}
use Rattle.untyped.specs.Body.{Framed, start_of, row_read, body_read}
use Rattle.untyped.proofs.Carried.{row_good_lem}
use Rattle.decoder.specs.Answer.{Answered}
use Rattle.parser.specs.declared.inst.Decoded.{Decoded}
use Rattle.std.specs.Prelude.{Err, Ok, Result}

-- WHAT IS NOTED OF ALL OPERANDS

-- they are counted
count_notes : (os : List Operand) (n : Notes) → (notes os n).count ≡ n.count + length os
unfolding notes note note_as
count_notes [] n = omega arith
count_notes (o ∷ os) n = count_notes os (note o n) ∙ omega arith

-- the first stays noted
first_stays : (os : List Operand) (n : Notes) → 1 ≤ n.count → (notes os n).first ≡ n.first
unfolding notes note note_as
first_stays [] n h = refl
first_stays (o ∷ os) n h = first_stays os (note o n) (omega arith) ∙ simp (ne_eqb n.count 0 (λ e. omega arith))

-- the second stays noted
second_stays : (os : List Operand) (n : Notes) → 2 ≤ n.count → (notes os n).second ≡ n.second
unfolding notes note note_as
second_stays [] n h = refl
second_stays (o ∷ os) n h = second_stays os (note o n) (omega arith) ∙ simp (ne_eqb n.count 1 (λ e. omega arith))

-- the literal numbers of the first two are noted
noted_literals : (os : List Operand) → Literals os (notes os no_notes).first (notes os no_notes).second
unfolding notes note note_as no_notes Literals
noted_literals [] = tt
noted_literals (x ∷ []) = refl
noted_literals (x ∷ y ∷ os) = (sym (first_stays os _ (omega arith)), sym (second_stays os _ (omega arith)))

module _ (n : Used) (os : List Operand) (e : notes_of n ≡ notes os no_notes) where
  -- how many operands are in use
  used_count : length os ≡ n.operands
  unfolding notes_of no_notes
  used_count = omega (arith, ap (λ (m : Notes). m.count) e, count_notes os no_notes)

  -- what the first two in use are
  used_literals : Literals os (literal_of (first_of n)) (literal_of (second_of n))
  unfolding notes_of
  used_literals = subst (λ (m : Notes). Literals os m.first m.second) (sym e) (noted_literals os)

-- THE END OF AN INSTRUCTION

-- no word is left over
all_spent : (s : List ℕ) (e : Decoder) (i : Instr) → limit_reached e ≡ true → all_read i (reader_of s e) ≡ got i (reader_at s e.offset None)
unfolding all_read limit_reached reader_of reader_at
all_spent s e i h = simp h

-- words are left over
all_left : (s : List ℕ) (e : Decoder) (i : Instr) → limit_reached e ≡ false → all_read i (reader_of s e) ≡ refused (refusal 7 e.offset 0) (reader_of s e)
unfolding all_read limit_reached reader_of reader_at
all_left s e i h = simp h

-- a spent limit has no words left
spent_left : (l : Option ℕ) → reached l ≡ true → left_of l ≡ 0
unfolding left_of
spent_left None h = refl
spent_left (Some n) h = eqb-true n 0 h

-- words are left over at the end
pub ended_left : (f : Frame) (e : Decoder) (n : Used) (t : Bool) (r : Result Decoded Refusal) → t ≡ limit_reached e → t ≡ false → r ≡ Err (refusal 7 e.offset 0)
    → Ended f e n r
unfolding Ended
ended_left f e n t r p z u = rw u (sym p ∙ z, refl)

module _ (g : List ℕ) (types : List Entry) (s : List ℕ) (f : Frame) where
  -- the operands, then the end
  body_by : (y : Read Seen) → row_read g types s (start_of f) f.place ≡ y → body_read g types s f ≡ after y (λ x. all_read (instr_of f.at f.words f.opcode x))
  unfolding body_read row_read left_of reader_of reader_at
  body_by y e = ap (λ (m : Read Seen). after m (λ x. all_read (instr_of f.at f.words f.opcode x))) e

  module _ (log₀ strs₀ log strs : List ℕ) (u : Used) where
    -- an operand was refused
    pub body_bad : (v : Answered Used) → Walks s (start_of f) 0 (row_read g types s (start_of f) f.place) log₀ strs₀ log strs u v → (y : Refusal) (e : Decoder) → v ≡ Err (y, e)
        → Decodes s f.at (body_read g types s f) log₀ strs₀ log strs u (Err y) × ShapeIs f (Err y)
    unfolding Walks Decodes ShapeIs
    body_bad v w y e q =
        let d : row_read g types s (start_of f) f.place ≡ refused y (reader_of s e) = (rw q at w) in
        (record { rest = reader_of s e; read = body_by _ d }, tt)

    -- the operands were read, and no word is left over, or some are
    body_end : (e : Decoder) (n : Used) → RowRead s (start_of f) 0 (row_read g types s (start_of f) f.place) log₀ strs₀ log strs u e n → (r : Result Decoded Refusal) → 1 ≤ f.words
        → Ended f e n r → Decodes s f.at (body_read g types s f) log₀ strs₀ log strs u r × ShapeIs f r
    unfolding Decodes ShapeIs Ended left_of limit_reached instr_break
    body_end e n d (Err y) h v = (
      record {
        rest = reader_of s e;
        read = body_by _ d.read ∙ all_left s e _ v.0 ∙ ap (λ (z : Refusal). refused z (reader_of s e)) (sym v.1);
      },
      tt,
    )
    body_end e n d (Ok r) h v =
        let k = v.1 in
        let m : Instr = instr_of f.at f.words f.opcode d.seen in
        let l : left_of e.limit ≡ 0 = spent_left e.limit v.0 in
        let to : e.offset ≡ f.at + 4 * r.words = omega (arith, d.went.pace, l, h, k.words) in (
          record {
            instr = m;
            read = body_by _ d.read ∙ all_spent s e m v.0 ∙ ap (λ (p : ℕ). got m (reader_at s p None)) to;
            inside = omega (arith, to, d.few.inside);
            offset = refl;
            words = sym k.words;
            moves = omega (arith, h, k.words);
            opcode = sym k.opcode;
            rtype = sym (k.rtype ∙ d.walked.rtype);
            rid = sym (k.rid ∙ d.walked.rid);
            operands = used_count n _ d.walked.noted ∙ sym k.operands;
            few = omega (arith, to, d.few.operands, k.operands);
            literals = rw (k.first, k.second) (used_literals n _ d.walked.noted);
            fits = rw (k.operands, k.first, k.second) d.few.fits;
            nlog = k.log ∙ d.walked.nlog;
            nstrings = k.strings ∙ d.walked.nstrings;
            few_log = omega (arith, to, d.few.log, k.log);
            few_strings = omega (arith, to, d.few.strings, k.strings, d.walked.base);
            log_laid = d.walked.log_laid;
            strings_laid = d.walked.strings_laid;
            breaks = k.breaks ∙ d.spotted.breaks;
          },
          rw (k.words, k.opcode, k.place_is) refl,
        )

    -- the same by the answer of the walk
    pub body_good : (v : Answered Used) → Walks s (start_of f) 0 (row_read g types s (start_of f) f.place) log₀ strs₀ log strs u v → (e : Decoder) (n : Used) → v ≡ Ok (n, e)
        → (r : Result Decoded Refusal) → 1 ≤ f.words → Ended f e n r → Decodes s f.at (body_read g types s f) log₀ strs₀ log strs u r × ShapeIs f r
    unfolding Walks
    body_good v w e n q r h k = body_end e n (rw q at w) r h k

-- THE FIRST WORD

-- the operands of the row that was found
found_at : (g : List ℕ) (r : Option ℕ) (o : Option (List Slot)) (p : ℕ) → row_found g r ≡ o → r ≡ Some p → o ≡ Some (slots_at g p)
unfolding row_found slots_at
found_at g r o p e q = sym e ∙ ap (row_found g) q

-- no row was found
found_none : (g : List ℕ) (r : Option ℕ) (o : Option (List Slot)) → row_found g r ≡ o → r ≡ None → o ≡ None
unfolding row_found
found_none g r o e q = sym e ∙ ap (row_found g) q

-- a row that was guessed is the row
pub row_guessed : (g : List ℕ) (r : Option ℕ) (o : Option (List Slot)) (p : ℕ) → (Sure r → row_found g r ≡ o) → place_found r ≤ length g → r ≡ Some p
    → (row_found g (Some p) ≡ o) × (place_found (Some p) ≤ length g)
unfolding Sure
row_guessed g r o p e h q = (sym (ap (row_found g) q) ∙ e (rw q tt), (rw q at h))

-- the place is within the grammar, and a row's operands stand there, which meet the rules
pub place_told : (g index : List ℕ) → Indexed g index → (op : ℕ) (r : Option ℕ) (p : ℕ) → row_found g r ≡ row_of op (grammar_of g).rows
    → place_found r ≤ length g → r ≡ Some p → (p ≤ length g) × (row_good op (slots_at g p) ≡ true)
unfolding place_found
place_told g index i op r p e h q = ((rw q at h), row_good_lem g index i op (slots_at g p) (found_at g r _ p e q))

-- a word that was read is there
word_inside : (s : List ℕ) (at w : ℕ) (e : Decoder) → Ok (w, e) ≡ word_from s (decoder at None) → at + 4 ≤ length s
word_inside s at w e h = (word_got s (decoder at None) e w h).inside

-- a count that is not zero
pub some_words : (n : ℕ) → (n ≡ 0 → ⊥) → 1 ≤ n
some_words zero h = absurd (h refl)
some_words (suc n) h = omega arith

-- the frame of an instruction whose first word was read and whose row was found
pub inst_framed : (s g index : List ℕ) (at w p : ℕ) (e : Decoder) (f : Option ℕ) → Indexed g index → length s ≤ 67108864
    → Ok (w, e) ≡ word_from s (decoder at None) → (w / 65536 ≡ 0 → ⊥) → row_found g f ≡ row_of (w % 65536) (grammar_of g).rows
    → place_found f ≤ length g → f ≡ Some p → Framed s g (record { at = at; words = w / 65536; opcode = w % 65536; place = p })
inst_framed s g index at w p e f i b h z o l q =
    let k = place_told g index i (w % 65536) f p o l q in
    record { short = b; inside = word_inside s at w e h; moves = some_words (w / 65536) z; place_in = k.0; operands = k.1 }

module _ (g : List ℕ) (types : List Entry) (s : List ℕ) (at : ℕ) where
  -- the first word, then the count, the row and the rest
  first_by : (y : Read ℕ) → read_word (reader_of s (decoder at None)) ≡ y
      → read_instr (grammar_of g) types (reader_at s at None)
      ≡ after y (λ w. if eqb (w / 65536) 0 then refuse 4 at else read_body (grammar_of g) types at (w / 65536) (w % 65536) (row_of (w % 65536) (grammar_of g).rows))
  unfolding read_instr reader_of reader_at
  first_by y e =
      ap (λ (m : Read ℕ). after m (λ w. if eqb (w / 65536) 0 then refuse 4 at else read_body (grammar_of g) types at (w / 65536) (w % 65536) (row_of (w % 65536) (grammar_of g).rows))) e

  -- a refusal before the operands
  decline : (x : Read Instr) (l t : List ℕ) (u : Used) (r : Result Decoded Refusal) (y : Refusal) (q : Reader) → r ≡ Err y → x ≡ refused y q
      → DecodesOver s at x l t u r × RowIs g types s at x r
  unfolding Decodes RowIs
  decline x l t u r y q v e = rw v (record { log₀ = l; strs₀ = t; decodes = record { rest = q; read = e } }, tt)

  -- the row of an instruction by its frame
  row_is : (n op p : ℕ) (x : Read Instr) (r : Result Decoded Refusal) → ShapeIs (record { at = at; words = n; opcode = op; place = p }) r
      → (p ≤ length g) × (row_good op (slots_at g p) ≡ true) → x ≡ body_read g types s (record { at = at; words = n; opcode = op; place = p })
      → RowIs g types s at x r
  unfolding ShapeIs RowIs
  row_is n op p x (Ok r) h q e =
      let z = subst (λ (f : Frame). (f.place ≤ length g) × (row_good f.opcode (slots_at g f.place) ≡ true) × (x ≡ body_read g types s f)) (sym h) (q.0, q.1, e) in
      record { inside = z.0; operands = z.1; body = z.2 }
  row_is n op p x (Err y) h q e = tt

  module _ (l t : List ℕ) (u : Used) where
    -- there is no word
    pub inst_no_word : (y : Refusal) (e : Decoder) → Err (y, e) ≡ word_from s (decoder at None)
        → DecodesOver s at (read_instr (grammar_of g) types (reader_at s at None)) l t u (Err y)
        × RowIs g types s at (read_instr (grammar_of g) types (reader_at s at None)) (Err y)
    inst_no_word y e h = decline _ l t u _ y _ refl (first_by _ (word_refused s (decoder at None) e y h))

    -- its count is zero
    pub inst_zero : (w : ℕ) (e : Decoder) → Ok (w, e) ≡ word_from s (decoder at None) → (r : Result Decoded Refusal) → w / 65536 ≡ 0 → r ≡ Err (refusal 4 at 0)
        → DecodesOver s at (read_instr (grammar_of g) types (reader_at s at None)) l t u r
        × RowIs g types s at (read_instr (grammar_of g) types (reader_at s at None)) r
    inst_zero w e h r z v =
        decline _ l t u r _ (reader_of s e) v (first_by _ (word_got s (decoder at None) e w h).reads ∙ simp (eq-eqb (w / 65536) 0 z))

  module _ (w : ℕ) (e : Decoder) (h : Ok (w, e) ≡ word_from s (decoder at None)) (z : w / 65536 ≡ 0 → ⊥)
      (f : Option ℕ) (o : row_found g f ≡ row_of (w % 65536) (grammar_of g).rows) where
    -- its opcode has no row
    pub inst_unknown : (l t : List ℕ) (u : Used) (r : Result Decoded Refusal) → f ≡ None → r ≡ Err (refusal 5 at (w % 65536))
        → DecodesOver s at (read_instr (grammar_of g) types (reader_at s at None)) l t u r
        × RowIs g types s at (read_instr (grammar_of g) types (reader_at s at None)) r
    inst_unknown l t u r q v =
        decline _ l t u r _ (reader_of s e) v
        (first_by _ (word_got s (decoder at None) e w h).reads ∙ simp (ne_eqb (w / 65536) 0 z, found_none g f _ o q))

    -- its opcode has a row
    inst_row : (p : ℕ) → f ≡ Some p → read_instr (grammar_of g) types (reader_at s at None)
        ≡ body_read g types s (record { at = at; words = w / 65536; opcode = w % 65536; place = p })
    unfolding body_read reader_of
    inst_row p q =
        let d = word_got s (decoder at None) e w h in
        let x : reader_at s e.offset e.limit ≡ reader_at s (at + 4) None =
        ap (λ (i : ℕ). reader_at s i e.limit) d.took.next ∙ ap (reader_at s (at + 4)) (d.took.free refl) in
        first_by _ d.reads ∙ simp (ne_eqb (w / 65536) 0 z, found_at g f _ p o q, x)

    -- the instruction is that of the row
    pub inst_by : (p : ℕ) → f ≡ Some p → (p ≤ length g) × (row_good (w % 65536) (slots_at g p) ≡ true) → (l₀ t₀ l t : List ℕ) (u : Used) (r : Result Decoded Refusal)
        → Decodes s at (body_read g types s (record { at = at; words = w / 65536; opcode = w % 65536; place = p })) l₀ t₀ l t u r
        × ShapeIs (record { at = at; words = w / 65536; opcode = w % 65536; place = p }) r
        → DecodesOver s at (read_instr (grammar_of g) types (reader_at s at None)) l t u r
        × RowIs g types s at (read_instr (grammar_of g) types (reader_at s at None)) r
    inst_by p q k l₀ t₀ l t u r d =
        (record { log₀ = l₀; strs₀ = t₀; decodes = rw (inst_row p q) d.0 }, row_is _ _ p _ r d.1 k (inst_row p q))
