-- Records given as stores: the instructions that they say, or the first record that breaks the store layout (refusal 30).
--
-- Three folds over the records, each with its own running state, name the first record that each finds bad. A record is bad when one
-- of them finds it so, and each judges it by itself and the records before it: so the first bad record is the lowest that they name.
-- How many words a record has is a number that the check is given; `record_size` is that of the records that a load keeps.
use Rattle.std.specs.Prelude.{ℕ, zero, suc, ◌+◌, ◌*◌, ◌/◌, ◌%◌, Bool, true, false, not, ◌&&◌, ◌||◌, List, [], ◌∷◌, leb, ltb, eqb, length, take, drop, get_or, if◌then◌else◌}
use Rattle.std.specs.Prelude.{Option, None, Some}
use Rattle.spec.specs.declared.State.{State}
use Rattle.spec.specs.declared.State.TheVariants.{Outside}
use Rattle.spec.specs.declared.Fields.{Fields}
use Rattle.spec.specs.declared.Counts.{Counts}
use Rattle.spec.specs.Base.{implies, has, every, and_then as ◌>>=◌}
use Rattle.spec.specs.Words.{four_at, long}
use Rattle.spec.specs.Text.{is_utf8}
use Rattle.spec.specs.Kinds.{is_logged, is_long, is_text}
use Rattle.spec.specs.Records.{Operand, narrow, wide, text, Placed, operands_size, id_size, fields_at}
use Rattle.spec.specs.Layout.{layout_of, end_number}
use Rattle.spec.specs.Load.{Stores}
use Rattle.spec.specs.Layout.{Cell}
use Rattle.std.specs.Prelude.{Err, Ok}

-- three stores and their counts: records, log bytes, string bytes
pub record Given : Type 0 where
  pub instructions : List ℕ
  pub log : List ℕ
  pub strings : List ℕ
  pub count : ℕ
  pub log_count : ℕ
  pub string_count : ℕ

-- stores and counts, as a load leaves and answers them
unfoldable pub given_by : Stores → Counts → Given
given_by t n =
    record {
      instructions = t.instructions;
      log = t.log;
      strings = t.strings;
      count = n.instructions;
      log_count = n.log;
      string_count = n.strings;
    }

-- the lower of two indices, where one is there
abbrev pub lower : Option ℕ → Option ℕ → Option ℕ
lower None b = b
lower (Some i) None = Some i
lower (Some i) (Some j) = if leb i j then Some i else Some j

-- THE RECORDS

-- so many records of a length, as far as they lie wholly in the store
unfoldable pub records_of : ℕ → ℕ → List ℕ → List Fields
records_of size zero ws = []
records_of size (suc n) ws =
    let more = records_of size n (drop size ws) in
    if has size ws then fields_at ws ∷ more else []

-- the first record that does not
unfoldable pub missing : ℕ → List Fields → Option ℕ
missing count fs = if eqb (length fs) count then None else Some (length fs + 1)

-- 1. FIELDS AND OFFSETS: "unknown .. presence bits, a result field not 0 without its bit", "offsets (the first is 20) .. that do not
-- follow on", a word count over 65,535

-- the presence bits: 1 for a result type, 2 for a result id
abbrev pub bits_in : Fields → ℕ
bits_in f = f.head / 65536

-- the fields of a record that should stand at an offset
unfoldable pub fields_good : ℕ → Fields → Bool
fields_good at f =
    leb (bits_in f) 3 && implies (eqb (bits_in f % 2) 0) (eqb f.rtype 0) && implies (ltb (bits_in f) 2) (eqb f.rid 0)
    && eqb f.offset at && leb f.words 65535

-- the first record whose fields are bad, the first of them at an index and an offset
unfoldable pub fields_fault : ℕ → ℕ → List Fields → Option ℕ
fields_fault index at [] = None
fields_fault index at (f ∷ fs) =
    let later = fields_fault (suc index) (at + 4 * f.words) fs in
    if fields_good at f then later else Some index

-- 2. LOG AND STRINGS: "unknown kinds", "ranges past a store", "logs that do not follow on, strings with a zero byte or not UTF-8, a
-- word count that is wrong", and log or string bytes left over

-- how much of log and strings went before, and what is left of them
pub record Left : Type 0 where
  pub log_at : ℕ
  pub log : List ℕ
  pub strings_at : ℕ
  pub strings : List ℕ

-- so many bytes of log and strings further
abbrev pub past : ℕ → ℕ → Left → Left
past n m l =
    record { log_at = l.log_at + n; log = drop n l.log; strings_at = l.strings_at + m; strings = drop m l.strings }

-- a string of so many bytes that starts there, and what is left, where it follows on, lies in the store, has no zero byte and is
-- UTF-8
abbrev pub take_text : ℕ → ℕ → Left → Option (Operand × Left)
take_text start n l =
    let s = take n l.strings in
    if eqb start l.strings_at && has n l.strings && every (λ b. not (eqb b 0)) s && is_utf8 s then Some (text s, past 9 n l)
    else None

-- an operand of a kind, with its first number
abbrev pub take_kind : ℕ → ℕ → Left → Option (Operand × Left)
take_kind k v l =
    if not (is_long k || is_text k) then Some (narrow k v, past 5 0 l)
    else if not (has 9 l.log) then None
    else if is_long k then Some (wide k (long v (four_at 5 l.log)), past 9 0 l)
    else take_text v (four_at 5 l.log) l

-- the operand that the log begins with, and what is left, where it is good
unfoldable pub take_operand : Left → Option (Operand × Left)
take_operand l =
    if has 5 l.log && is_logged (get_or l.log 0 0) then take_kind (get_or l.log 0 0) (four_at 1 l.log) l else None

-- so many operands, and what is left, where all are good
unfoldable pub take_operands : ℕ → Left → Option (List Operand × Left)
take_operands zero l = Some ([], l)
take_operands (suc n) l = do
  x ← take_operand l
  xs ← take_operands n x.1
  Some (x.0 ∷ xs.0, xs.1)

-- a result field that is there
abbrev pub field_in : Bool → ℕ → Option ℕ
field_in true v = Some v
field_in false v = None

-- the instruction that a record and its operands say
unfoldable pub placed_of : Fields → List Operand → Placed
placed_of f os =
    record {
      instr =
          record {
            opcode = f.head % 65536;
            result_type = field_in (eqb (bits_in f % 2) 1) f.rtype;
            result_id = field_in (leb 2 (bits_in f)) f.rid;
            operands = os;
            offset = f.offset;
            words = f.words;
          };
      tag = f.tag;
    }

-- its word count is that of its first word, its result words and its operands
unfoldable pub words_good : Placed → Bool
words_good p =
    eqb p.instr.words
    (1 + id_size p.instr.result_type + id_size p.instr.result_id + operands_size p.instr.operands)

-- the instruction that a record says, and what is left, where its operands start where the log goes on ("an instruction without
-- operands starts at the log count so far"), are good, and its word count is right
unfoldable pub take_record : Fields → Left → Option (Placed × Left)
take_record f l = do
  x ← take_operands f.count l
  if eqb f.start l.log_at && words_good (placed_of f x.0) then Some (placed_of f x.0, x.1) else None

-- the instructions before the first record whose operands are bad, and its index
pub record Scan : Type 0 where
  pub instrs : List Placed
  pub fault : Option ℕ

-- a record's instruction before those of the records after it, or the fault there
abbrev pub on_record : ℕ → Option (Placed × Left) → (Left → Scan) → Scan
on_record index None more = record { instrs = []; fault = Some index }
on_record index (Some x) more = let later = more x.1 in record { instrs = x.0 ∷ later.instrs; fault = later.fault }

-- the operands of records, the first of them at an index; all of both counts is taken in the end
unfoldable pub scan_from : ℕ → ℕ → ℕ → Left → List Fields → Scan
scan_from log_count string_count index l [] =
    record { instrs = []; fault = if eqb l.log_at log_count && eqb l.strings_at string_count then None else Some index }
scan_from log_count string_count index l (f ∷ fs) =
    on_record index (take_record f l) (λ m. scan_from log_count string_count (suc index) m fs)

-- 3. TAGS: "tags that the table cannot give, and in module order records that end inside a function"

-- go on where the tag is the one that the table gives
abbrev pub on_tag : ℕ → ℕ → Cell → (State → Option ℕ) → Option ℕ
on_tag index tag (Ok (t, s)) more = if eqb tag t then more s else Some index
on_tag index tag (Err n) more = Some index

-- the first record whose tag is bad, the first of them at an index and in a state; whole: the end must be outside functions
unfoldable pub tags_fault : Bool → ℕ → State → List Fields → Option ℕ
tags_fault whole index s [] = if implies whole (eqb (end_number s) 0) then None else Some index
tags_fault whole index s (f ∷ fs) =
    on_tag index f.tag (layout_of (f.head % 65536) s) (λ t. tags_fault whole (suc index) t fs)

-- THE CHECK

-- the records of a length in what is given, up to their count
abbrev pub records_in : ℕ → Given → List Fields
records_in size x = records_of size x.count x.instructions

-- their operands, in log and strings up to their counts
abbrev pub scan_of : ℕ → Given → Scan
scan_of size x =
    scan_from x.log_count x.string_count 1
    (record { log_at = 0; log = take x.log_count x.log; strings_at = 0; strings = take x.string_count x.strings })
    (records_in size x)

-- the index of the first bad record, or count + 1 for the end; whole as for module order and standing, not for any other call
unfoldable pub fault_of : ℕ → Bool → Given → Option ℕ
fault_of size whole x =
    lower (missing x.count (records_in size x))
    (lower (fields_fault 1 20 (records_in size x)) (lower (scan_of size x).fault (tags_fault whole 1 Outside (records_in size x))))

-- what a check comes to: the index of the first bad record, or the instructions
pub data Checked : Type 0 where
  bad : ℕ → Checked
  good : List Placed → Checked

-- by the first fault, where there is one
abbrev pub checked_by : Option ℕ → List Placed → Checked
checked_by None is = good is
checked_by (Some i) is = bad i

-- the check of given records of a length
unfoldable pub check : ℕ → Bool → Given → Checked
check size whole x = checked_by (fault_of size whole x) (scan_of size x).instrs
