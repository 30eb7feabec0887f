-- What an instruction is read from: as many bytes in front as its word count says. It is read again wherever these stand, and from
-- the bytes written for it, which are plain and as many; where the former are plain, they are the latter. The stores can hold it.
use Prim.Native.Nat.{ℕ, zero, suc, ◌+◌, ◌*◌, ◌-◌, ◌/◌, ◌%◌, ◌<◌, ◌≤◌}
use mathlib.Core.Path.{◌≡◌, refl, ap, sym, ◌∙◌, subst}
use mathlib.Core.Bool.{true, false}
use mathlib.Core.List.{List, [], ◌∷◌, ◌++◌, append_assoc, append-nil}
use Rattle.std.specs.Prelude.{Option, None, Some}
use native.Mathlib.Omega.{arith}
use native.Mathlib.Nat.{div-add-mod'}
use borrow.Author.Tests.{eqb-false}
use lib.Dec.{eqb, eqb-suc-zero}
use lib.ListN.{length, length-append}
use lib.Seq.{drop-append-add}
use Rattle.spec.specs.Base.{joined}
use Rattle.spec.specs.Words.{four, bytes_of, front_of, AllBytes}
use Rattle.spec.specs.Reader.{Reader, reader, Read, got, refused, Parse, after, refuse, word_at}
use Rattle.spec.specs.Grammar.{Slot, Grammar, row_of}
use Rattle.spec.specs.Records.{Operand, Instr, Entry, operand_size, operands_size, id_size, operand_bytes, id_bytes, instr_bytes}
use Rattle.spec.specs.Match.{Seen, nothing_seen, read_row, instr_of, all_read, read_body, read_instr}
use Rattle.spec.specs.Plain.{operands_break, instr_break}
use Rattle.demands.proofs.Choice.{either, IfSome}
use Rattle.demands.proofs.Bytes.{all_append, all_left, all_right, four_word}
use Rattle.demands.proofs.Reading.{RefusedBy, Again, Taken, Comes}
use Rattle.demands.proofs.Formed.{RowFrom, GrammarGood}
use Rattle.demands.proofs.Told.{AllHold, AllSure, along_long, along_sure}
use Rattle.demands.proofs.Rows.{as_operands, SeenTold, row_reads}

-- THE PROPERTY

-- an instruction as records can hold it: an opcode of sixteen bits, operands that log and strings can hold, and a word count that
-- is right and at most 65,535
pub record InstrGood (i : Instr) : Type 0 where
  pub opcode : i.opcode < 65536
  pub operands : AllHold i.operands
  pub count : i.words ≡ 1 + id_size i.result_type + id_size i.result_id + operands_size i.operands
  pub few : i.words ≤ 65535

-- it is read from the bytes x, without a limit
abbrev pub ReadFrom : Grammar → List Entry → ℕ → Instr → List ℕ → Type 0
ReadFrom g types at i x =
    (t : List ℕ) → read_instr g types (reader at None (x ++ t)) ≡ got i (reader (at + 4 * i.words) None t)

-- an instruction that was read from the bytes x, where these are bytes, and y, the bytes written for it
pub record InstrSure (g : Grammar) (types : List Entry) (at : ℕ) (i : Instr) (x y : List ℕ) : Type 0 where
  pub good : InstrGood i
  pub long : length y ≡ 4 * i.words
  pub back : ReadFrom g types at i y
  pub bytes : AllBytes y
  pub plain : (pre t : List ℕ) → length pre ≡ at → instr_break (pre ++ (y ++ t)) i ≡ 0
  pub exact : (pre t : List ℕ) → length pre ≡ at → instr_break (pre ++ (x ++ t)) i ≡ 0 → x ≡ y

-- an instruction was read from the bytes in front, and the reader t is left
pub record InstrRead (g : Grammar) (types : List Entry) (at : ℕ) (rest : List ℕ) (i : Instr) (t : Reader) : Type 0 where
  pub from : List ℕ
  pub behind : List ℕ
  pub takes : rest ≡ from ++ behind
  pub to : t ≡ reader (at + 4 * i.words) None behind
  pub whole : length from ≡ 4 * i.words
  pub some_word : 1 ≤ i.words
  pub offset : i.offset ≡ at
  pub count : i.words ≡ 1 + id_size i.result_type + id_size i.result_id + operands_size i.operands
  pub again : ReadFrom g types at i from
  pub sure : AllBytes from → InstrSure g types at i from (instr_bytes i)

-- what reading came to
abbrev pub Frames : Grammar → List Entry → ℕ → List ℕ → Read Instr → Type 0
Frames g types at rest (got i t) = InstrRead g types at rest i t
Frames g types at rest (refused x t) = RefusedBy (at + length rest) x

-- WHAT IS SEEN

-- results and operands
abbrev seen : Option ℕ → Option ℕ → List Operand → Seen
seen t i os = record { result_type = t; result_id = i; operands = os }

-- their words
seen_size : (t i : Option ℕ) (os : List Operand) → operands_size (as_operands (seen t i os)) ≡ id_size t + id_size i + operands_size os
unfolding operands_size operand_size
seen_size None None os = omega arith
seen_size None (Some i) os = omega arith
seen_size (Some t) None os = omega arith
seen_size (Some t) (Some i) os = omega arith

-- the bytes written for them, after those of the first word
seen_bytes : (first : List ℕ) (t i : Option ℕ) (os : List Operand)
    → first ++ id_bytes t ++ id_bytes i ++ joined operand_bytes os ≡ first ++ joined operand_bytes (as_operands (seen t i os))
unfolding operand_bytes
seen_bytes first None None os = simp append-nil
seen_bytes first None (Some i) os = simp (append_assoc, append-nil)
seen_bytes first (Some t) None os = simp (append_assoc, append-nil)
seen_bytes first (Some t) (Some i) os = simp append_assoc

-- the operands alone
seen_holds : (t i : Option ℕ) (os : List Operand) → AllHold (as_operands (seen t i os)) → AllHold os
seen_holds None None os x = x
seen_holds None (Some i) os x = x.1
seen_holds (Some t) None os x = x.1
seen_holds (Some t) (Some i) os x = x.1.1

-- what breaks an instruction is in the bytes after its first word
seen_breaks : (pre : List ℕ) (at count op a b c d : ℕ) (z : List ℕ) (s : Seen) → length pre ≡ at
    → instr_break (pre ++ (a ∷ b ∷ c ∷ d ∷ z)) (instr_of at count op s) ≡ operands_break (at + 4) (as_operands s) z
unfolding instr_break
seen_breaks pre at count op a b c d z s e = rw (← e, drop-append-add)

-- READING ONE

module _ (g : Grammar) (good : GrammarGood g) (types : List Entry) (at a b c d : ℕ) (r : List ℕ) where
  -- its first word
  abbrev word : ℕ
  word = four a b c d

  -- its word count
  abbrev count : ℕ
  count = word / 65536

  -- its opcode
  abbrev op : ℕ
  op = word % 65536

  -- its bytes and those after them
  abbrev rest : List ℕ
  rest = a ∷ b ∷ c ∷ d ∷ r

  module _ (some_word : eqb count 0 ≡ false) (ss : List Slot) (found : row_of op g.rows ≡ Some ss) where
    -- what reads its row
    abbrev row_read : Parse Seen
    row_read = read_row g types (count - 1) ss nothing_seen

    -- it is read from its first word and what its row is read from
    framed_again : (s : Seen) (x : List ℕ) → Again row_read (count - 1) 0 x s → (t : List ℕ)
        → read_instr g types (reader at None (a ∷ b ∷ c ∷ d ∷ (x ++ t)))
        ≡ got (instr_of at count op s) (reader (at + 4 + length x) None t)
    unfolding read_instr word_at front_of all_read
    framed_again s x again t = rw (some_word, found) (rw (again (at + 4) t (omega arith)))

    -- where its row has taken all words
    module _ (s : Seen) (x y behind : List ℕ) (takes : r ≡ x ++ behind) (all : 4 * (count - 1) ≡ length x)
        (long : length y ≡ length x) (again : Again row_read (count - 1) 0 x s)
        (back : AllBytes x → Again row_read (count - 1) 0 y s) (told : SeenTold s x y) where
      -- the instruction
      abbrev i : Instr
      i = instr_of at count op s

      -- where it ends
      end : at + 4 + length x ≡ at + 4 * count
      end = omega (arith, eqb-false count 0 some_word)

      -- it is read again
      read_from : (z : List ℕ) → length z ≡ length x → Again row_read (count - 1) 0 z s → ReadFrom g types at i (a ∷ b ∷ c ∷ d ∷ z)
      read_from z same p t =
          framed_again s z p t ∙ ap (λ (n : ℕ). got i (reader n None t)) (ap (λ (n : ℕ). at + 4 + n) same ∙ end)

      -- its size
      size : count ≡ 1 + id_size s.result_type + id_size s.result_id + operands_size s.operands
      size = omega (arith, eqb-false count 0 some_word, along_long told, seen_size s.result_type s.result_id s.operands)

      -- the bytes written for it
      written_is : AllBytes (a ∷ b ∷ c ∷ d ∷ []) → y ≡ joined operand_bytes (as_operands s) → instr_bytes i ≡ a ∷ b ∷ c ∷ d ∷ y
      unfolding instr_bytes
      written_is by are =
          let whole : op + 65536 * count ≡ word = omega (arith, div-add-mod' word 65536) in
          let first : bytes_of (op + 65536 * count) ≡ a ∷ b ∷ c ∷ d ∷ [] = ap bytes_of whole ∙ (four_word a b c d by).1 in
          rw (seen_bytes (bytes_of (op + 65536 * count)) s.result_type s.result_id s.operands, first, are)

      -- what is sure of it
      instr_sure : AllBytes (a ∷ b ∷ c ∷ d ∷ x) → InstrSure g types at i (a ∷ b ∷ c ∷ d ∷ x) (instr_bytes i)
      instr_sure by =
          let first : AllBytes (a ∷ b ∷ c ∷ d ∷ []) = all_left (a ∷ b ∷ c ∷ d ∷ []) x by in
          let others : AllBytes x = all_right (a ∷ b ∷ c ∷ d ∷ []) x by in
          let u : AllSure (as_operands s) x y = along_sure told others in
          let is : instr_bytes i ≡ a ∷ b ∷ c ∷ d ∷ y = written_is first u.are in
          let breaks-are : (pre z : List ℕ) → length pre ≡ at
          → instr_break (pre ++ (a ∷ b ∷ c ∷ d ∷ z)) i ≡ operands_break (at + 4) (as_operands s) z =
          λ pre z e. seen_breaks pre at count op a b c d z s e in
          rw is
          (record {
            good =
                record {
                  opcode = omega arith;
                  operands = seen_holds s.result_type s.result_id s.operands u.holds;
                  count = size;
                  few = omega arith;
                };
            long = omega (arith, eqb-false count 0 some_word);
            back = read_from y long (back others);
            bytes = all_append (a ∷ b ∷ c ∷ d ∷ []) y first u.bytes;
            plain = λ pre t e. breaks-are pre (y ++ t) e ∙ u.plain (at + 4) t;
            exact = λ pre t e p.
                ap (λ (l : List ℕ). a ∷ b ∷ c ∷ d ∷ l)
                (u.exact (at + 4) (omega arith) t (sym (breaks-are pre (x ++ t) e) ∙ p));
          })

      -- all of it
      instr_here : InstrRead g types at rest i (reader (at + 4 + length x) None behind)
      instr_here =
          record {
            from = a ∷ b ∷ c ∷ d ∷ x;
            behind = behind;
            takes = ap (λ (l : List ℕ). a ∷ b ∷ c ∷ d ∷ l) takes;
            to = ap (λ (n : ℕ). reader n None behind) end;
            whole = omega (arith, eqb-false count 0 some_word);
            some_word = omega (arith, eqb-false count 0 some_word);
            offset = refl;
            count = size;
            again = read_from x refl again;
            sure = instr_sure;
          }

    -- by the words that its row has left
    left_frames : (s : Seen) (t : Reader) (z : Taken SeenTold row_read (at + 4) (count - 1) r s t)
        → Frames g types at rest
        (all_read (instr_of at count op s) (reader (at + 4 + length z.from) (Some z.left) z.behind))
    unfolding all_read
    left_frames s t z = by z.left z.spends z.again z.back
      where
        by : (n : ℕ) → 4 * (count - 1) ≡ length z.from + 4 * n → Again row_read (count - 1) n z.from s
            → (AllBytes z.from → Again row_read (count - 1) n z.bytes s)
            → Frames g types at rest
            (all_read (instr_of at count op s) (reader (at + 4 + length z.from) (Some n) z.behind))
        by zero spends again back =
            instr_here s z.from z.bytes z.behind z.takes (omega arith) z.long again back z.fact
        by (suc n) spends again back =
            rw eqb-suc-zero (omega (arith, ap length z.takes ∙ length-append z.from z.behind))

    -- by what its row has read
    row_frames : (y : Read Seen) → Comes SeenTold row_read (at + 4) (count - 1) r y
        → Frames g types at rest (after y (λ s. all_read (instr_of at count op s)))
    row_frames (got s t) z =
        subst (λ (u : Reader). Frames g types at rest (all_read (instr_of at count op s) u)) (sym z.to) (left_frames s t z)
    row_frames (refused x t) z = (z.0, omega arith)

  -- by its opcode's row
  body_frames : eqb count 0 ≡ false → (o : Option (List Slot)) → row_of op g.rows ≡ o → IfSome (RowFrom true true) o
      → Frames g types at rest (read_body g types at count op o (reader (at + 4) None r))
  body_frames some_word None e row = omega arith
  body_frames some_word (Some ss) e row =
      row_frames some_word ss e (read_row g types (count - 1) ss nothing_seen (reader (at + 4) (Some (count - 1)) r))
      ((row_reads g good types (count - 1) ss row).comes (at + 4) (count - 1) r)

  -- by its word count
  word_frames : Frames g types at rest (read_instr g types (reader at None rest))
  unfolding read_instr word_at front_of
  word_frames =
      either (λ (m : Parse Instr). Frames g types at rest (m (reader (at + 4) None r))) (eqb count 0) (refuse 4 at)
      (read_body g types at count op (row_of op g.rows)) (λ e. omega arith)
      (λ e. body_frames e (row_of op g.rows) refl (good.rows op))

-- whatever instruction is read
pub instr_read : (g : Grammar) → GrammarGood g → (types : List Entry) (at : ℕ) (rest : List ℕ)
    → Frames g types at rest (read_instr g types (reader at None rest))
unfolding read_instr word_at front_of
instr_read g good types at [] = omega arith
instr_read g good types at (a ∷ []) = omega arith
instr_read g good types at (a ∷ b ∷ []) = omega arith
instr_read g good types at (a ∷ b ∷ c ∷ []) = omega arith
instr_read g good types at (a ∷ b ∷ c ∷ d ∷ r) = word_frames g good types at a b c d r
