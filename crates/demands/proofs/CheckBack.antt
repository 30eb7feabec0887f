-- The stores of instructions that follow on, given to the check, are those instructions again.
use Prim.Native.Nat.{ℕ, suc, ◌+◌, ◌*◌, ◌/◌, ◌%◌, ◌<◌}
use mathlib.Core.Path.{◌≡◌, refl, ap, sym, ◌∙◌}
use mathlib.Core.Bool.{Bool, true, not, ◌&&◌, ◌||◌}
use mathlib.Core.List.{List, [], ◌∷◌, ◌++◌, append_assoc}
use Rattle.std.specs.Prelude.{Option, None, Some}
use native.Mathlib.Omega.{arith}
use native.Mathlib.Nat.{add-zero}
use borrow.Author.Tests.{le-leb, eq-eqb}
use lib.Dec.{leb, ltb, eqb}
use lib.ListN.{length, drop, length-append}
use lib.Seq.{take-append_seam, drop-append_seam}
use Rattle.spec.specs.declared.State.{State}
use Rattle.spec.specs.declared.State.TheVariants.{Outside}
use Rattle.spec.specs.declared.Fields.{Fields}
use Rattle.spec.specs.declared.Numbers.{Numbers}
use Rattle.spec.specs.Base.{or_zero, joined, implies, has}
use Rattle.spec.specs.Words.{bytes_of}
use Rattle.spec.specs.Text.{is_utf8}
use Rattle.spec.specs.Kinds.{is_logged, is_long, is_text}
use Rattle.spec.specs.Layout.{end_number}
use Rattle.spec.specs.Records.{Operand, narrow, wide, text, Placed, operand_size, operands_size, operand_log, operand_string, operands_log, operands_strings, string_store, log_from, presence, fields_of, fields_from, field_size, field_words, fields_at, record_size, record_words, records_with, called_for, numbered, instruction_store}
use Rattle.spec.specs.Check.{Given, records_of, bits_in, fields_good, fields_fault, Left, take_text, take_operand, take_operands, field_in, placed_of, words_good, take_record, scan_from, tags_fault, fault_of, missing, good, check}
use Rattle.spec.proofs.Choice.{left, right, both}
use Rattle.demands.proofs.Bytes.{four_bytes}
use Rattle.demands.proofs.Stores.{operands_log_length, log_length, string_short, strings_short, fields_length, called_length}
use Rattle.demands.proofs.OperandKinds.{long_logged}
use Rattle.demands.proofs.Strings.{no_zeros}
use Rattle.demands.proofs.Told.{Holds, AllHold}
use Rattle.demands.proofs.Instructions.{InstrGood}
use Rattle.demands.proofs.Kept.{Follow, last, leading, words_in}

-- THE RECORDS

-- records are those that their words begin with, whatever their numbers
pub records_back : (fs : List Fields) (ns : List Numbers) → length ns ≡ length fs → (more : List ℕ)
    → records_of record_size (length fs) (records_with fs ns ++ more) ≡ fs
unfolding records_of records_with record_words field_words fields_at
records_back [] ns e more = refl
records_back (f ∷ fs) [] e more = absurd (omega arith)
records_back (f ∷ fs) (n ∷ ns) e more = ap (λ (z : List Fields). f ∷ z) (records_back fs ns (omega arith) more)

-- and so are those without numbers
pub fields_back : (fs : List Fields) (more : List ℕ) → records_of field_size (length fs) (joined field_words fs ++ more) ≡ fs
unfolding records_of field_words fields_at
fields_back [] more = refl
fields_back (f ∷ fs) more = ap (λ (z : List Fields). f ∷ z) (fields_back fs more)

-- so are those of instructions
pub instructions_back : (is : List Placed) (more : List ℕ) → records_of record_size (length is) (instruction_store is ++ more) ≡ fields_from 0 is
unfolding instruction_store numbered
instructions_back is more =
    let fs = fields_from 0 is in
    ap (λ (n : ℕ). records_of record_size n (records_with fs (called_for fs) ++ more)) (sym (fields_length 0 is))
    ∙ records_back fs (called_for fs) (called_length fs) more

-- and without numbers
pub old_instructions_back : (is : List Placed) (more : List ℕ)
    → records_of field_size (length is) (joined field_words (fields_from 0 is) ++ more) ≡ fields_from 0 is
old_instructions_back is more =
    let fs = fields_from 0 is in
    ap (λ (n : ℕ). records_of field_size n (joined field_words fs ++ more)) (sym (fields_length 0 is)) ∙ fields_back fs more

-- the presence bits of a record
bits_back : (start : ℕ) (p : Placed) → p.instr.opcode < 65536
    → bits_in (fields_of start p) ≡ presence p.instr.result_type p.instr.result_id
unfolding fields_of
bits_back start p h = omega arith

-- the opcode of a record
opcode_back : (start : ℕ) (p : Placed) → p.instr.opcode < 65536 → (fields_of start p).head % 65536 ≡ p.instr.opcode
unfolding fields_of
opcode_back start p h = omega arith

-- 1. FIELDS AND OFFSETS

-- presence bits and result fields agree
presence_good : (t i : Option ℕ)
    → (leb (presence t i) 3 && implies (eqb (presence t i % 2) 0) (eqb (or_zero t) 0)
    && implies (ltb (presence t i) 2) (eqb (or_zero i) 0)) ≡ true
presence_good None None = refl
presence_good None (Some i) = refl
presence_good (Some t) None = refl
presence_good (Some t) (Some i) = refl

-- an instruction's fields are good at its offset
fields_good_lem : (start at : ℕ) (p : Placed) → InstrGood p.instr → p.instr.offset ≡ at → fields_good at (fields_of start p) ≡ true
unfolding fields_good
fields_good_lem start at p x e =
    rw (bits_back start p x.opcode)
    (unfold fields_of in
    (both (both (presence_good p.instr.result_type p.instr.result_id) (eq-eqb _ _ e)) (le-leb _ _ x.few)))

-- so no record has bad fields
no_fields_fault : {at : ℕ} {s e : State} {is : List Placed} → Follow at s is e → (index start : ℕ)
    → fields_fault index at (fields_from start is) ≡ None
unfolding fields_fault fields_from fields_of
no_fields_fault last index start = refl
no_fields_fault (leading {at = at} {p = p} x e placed more) index start =
    rw (fields_good_lem start at p x e) (no_fields_fault more (suc index) (start + length (operands_log 0 p.instr.operands)))

-- 2. LOG AND STRINGS

-- what is left of log and strings
abbrev remains : ℕ → List ℕ → ℕ → List ℕ → Left
remains a log b strings = record { log_at = a; log = log; strings_at = b; strings = strings }

-- a list has as many elements as it begins with
has_all : (s t : List ℕ) → has (length s) (s ++ t) ≡ true
has_all [] t = refl
has_all (b ∷ s) t = has_all s t

-- a string
text_taken : (s : List ℕ) (a b : ℕ) (log strings : List ℕ) → no_zeros s ≡ true → is_utf8 s ≡ true
    → take_text b (length s) (remains a log b (s ++ strings)) ≡ Some (text s, remains (a + 9) (drop 9 log) (b + length s) strings)
text_taken s a b log strings z u =
    rw (eq-eqb b b refl, has_all s strings, take-append_seam s strings, drop-append_seam s strings, z, u)

-- an operand that they begin with
one_taken : (o : Operand) (a b : ℕ) (log strings : List ℕ) → Holds o → b + 4 * operand_size o < 4294967296
    → take_operand (remains a (operand_log b o ++ log) b (operand_string o ++ strings))
    ≡ Some (o, remains (a + length (operand_log 0 o)) log (b + length (operand_string o)) strings)
unfolding take_operand operand_log operand_string operand_size bytes_of
one_taken (narrow k v) a b log strings h u =
    rw (
      left (is_logged k) (not (is_long k || is_text k)) h.0,
      right (is_logged k) (not (is_long k || is_text k)) h.0,
      four_bytes v h.1,
    )
one_taken (wide k v) a b log strings h u =
    let low : v % 4294967296 < 4294967296 = omega arith in
    let high : v / 4294967296 < 4294967296 = omega (arith, h.1) in
    let whole : v % 4294967296 + 4294967296 * (v / 4294967296) ≡ v = omega arith in
    rw (long_logged k h.0, h.0, four_bytes (v % 4294967296) low, four_bytes (v / 4294967296) high, whole)
one_taken (text s) a b log strings h u =
    rw (four_bytes b (omega arith), four_bytes (length s) (omega arith))
    (text_taken s a b (operand_log b (text s) ++ log) strings h.0 h.1)

-- operands that log and strings begin with
operands_taken : (os : List Operand) (a b : ℕ) (log strings : List ℕ) → AllHold os → b + 4 * operands_size os < 4294967296
    → take_operands (length os) (remains a (operands_log b os ++ log) b (operands_strings os ++ strings))
    ≡ Some (os, remains (a + length (operands_log 0 os)) log (b + length (operands_strings os)) strings)
unfolding take_operands operands_log operands_strings operands_size
operands_taken [] a b log strings h u = rw (add-zero a, add-zero b)
operands_taken (o ∷ os) a b log strings h u =
    let n : ℕ = length (operand_string o) in
    let a-is : a + length (operand_log 0 o ++ operands_log (0 + n) os) ≡ a + length (operand_log 0 o) + length (operands_log 0 os) =
    omega (arith, length-append (operand_log 0 o) (operands_log (0 + n) os), operands_log_length (0 + n) 0 os) in
    let b-is : b + length (operand_string o ++ joined operand_string os) ≡ b + n + length (joined operand_string os) =
    omega (arith, length-append (operand_string o) (joined operand_string os)) in
    rw (
      append_assoc (operand_log b o),
      append_assoc (operand_string o),
      one_taken o a b _ _ h.0 (omega arith),
      operands_taken os (a + length (operand_log 0 o)) (b + n) log strings h.1 (omega (arith, string_short o)),
      a-is,
      b-is,
    )

-- the instruction of a record
placed_back : (start : ℕ) (p : Placed) → p.instr.opcode < 65536 → placed_of (fields_of start p) p.instr.operands ≡ p
unfolding placed_of
placed_back start p h =
    rw (bits_back start p h, opcode_back start p h)
    (unfold fields_of in
    rw (type_back p.instr.result_type p.instr.result_id, id_back p.instr.result_type p.instr.result_id))
  where
    type_back : (t i : Option ℕ) → field_in (eqb (presence t i % 2) 1) (or_zero t) ≡ t
    type_back None None = refl
    type_back None (Some i) = refl
    type_back (Some t) None = refl
    type_back (Some t) (Some i) = refl

    id_back : (t i : Option ℕ) → field_in (leb 2 (presence t i)) (or_zero i) ≡ i
    id_back None None = refl
    id_back None (Some i) = refl
    id_back (Some t) None = refl
    id_back (Some t) (Some i) = refl

-- its word count is right
words_good_lem : (p : Placed) → InstrGood p.instr → words_good p ≡ true
unfolding words_good
words_good_lem p x = eq-eqb _ _ x.count

-- an instruction that its record, log and strings begin with
record_taken : (p : Placed) (start b : ℕ) (log strings : List ℕ) → InstrGood p.instr → b + 4 * operands_size p.instr.operands < 4294967296
    → take_record (fields_of start p) (remains start (operands_log b p.instr.operands ++ log) b (operands_strings p.instr.operands ++ strings))
    ≡ Some (p, remains (start + length (operands_log 0 p.instr.operands)) log (b + length (operands_strings p.instr.operands)) strings)
unfolding take_record fields_of
record_taken p start b log strings x u =
    rw (
      operands_taken p.instr.operands start b log strings x.operands u,
      eq-eqb start start refl,
      placed_back start p x.opcode,
      words_good_lem p x,
    )

-- the operands of all records, up to the counts of log and strings
scan_back : {at : ℕ} {s e : State} {is : List Placed} → Follow at s is e → (log_count string_count index start b : ℕ)
    → b + 4 * words_in is < 4294967296 → start + length (log_from 0 is) ≡ log_count → b + length (string_store is) ≡ string_count
    → scan_from log_count string_count index (remains start (log_from b is) b (string_store is)) (fields_from start is)
    ≡ record { instrs = is; fault = None }
unfolding scan_from fields_from log_from string_store words_in fields_of
scan_back last log_count string_count index start b u el es =
    rw (eq-eqb start log_count (omega arith), eq-eqb b string_count (omega arith))
scan_back (leading {p = p} {ps = ps} x e placed more) log_count string_count index start b u el es =
    let os : List Operand = p.instr.operands in
    let n : ℕ = length (operands_strings os) in
    let a : ℕ = length (operands_log 0 os) in
    let log : start + a + length (log_from 0 ps) ≡ log_count =
    omega (arith, length-append (operands_log 0 os) (log_from (0 + n) ps), log_length (0 + n) 0 ps) in
    let strings : b + n + length (string_store ps) ≡ string_count =
    omega (arith, length-append (operands_strings os) (string_store ps)) in
    rw (
      record_taken p start b (log_from (b + n) ps) (string_store ps) x (omega arith),
      scan_back more log_count string_count (suc index) (start + a) (b + n) (omega (arith, strings_short os)) log strings,
    )

-- 3. TAGS

-- no record has a bad tag
no_tags_fault : {at : ℕ} {s e : State} {is : List Placed} → Follow at s is e → (whole : Bool)
    → implies whole (eqb (end_number e) 0) ≡ true → (index start : ℕ) → tags_fault whole index s (fields_from start is) ≡ None
unfolding tags_fault fields_from fields_of
no_tags_fault last whole w index start = rw w
no_tags_fault (leading {p = p} x e placed more) whole w index start =
    rw (opcode_back start p x.opcode, placed, eq-eqb p.tag p.tag refl)
    (no_tags_fault more whole w (suc index) (start + length (operands_log 0 p.instr.operands)))

-- THE CHECK

-- records, and log and strings that begin with those of some instructions and go on, with the counts of these
abbrev given_of : List Placed → List ℕ → List ℕ → List ℕ → Given
given_of is ws b c =
    record {
      instructions = ws;
      log = log_from 0 is ++ b;
      strings = string_store is ++ c;
      count = length is;
      log_count = length (log_from 0 is);
      string_count = length (string_store is);
    }

-- instructions that follow on from the header pass the check, in records of any length that have their fields, and are what it says
pub check_back : (size : ℕ) (whole : Bool) (is : List Placed) (e : State) → Follow 20 Outside is e → 4 * words_in is < 4294967296
    → implies whole (eqb (end_number e) 0) ≡ true → (ws b c : List ℕ) → records_of size (length is) ws ≡ fields_from 0 is
    → check size whole (given_of is ws b c) ≡ good is
unfolding check fault_of missing
check_back size whole is e follow few w ws b c said =
    rw (
      said,
      take-append_seam (log_from 0 is) b,
      take-append_seam (string_store is) c,
      fields_length 0 is,
      eq-eqb (length is) (length is) refl,
      no_fields_fault follow 1 0,
      scan_back follow (length (log_from 0 is)) (length (string_store is)) 1 0 0 (omega arith) (omega arith) (omega arith),
      no_tags_fault follow whole w 1 0,
    )
