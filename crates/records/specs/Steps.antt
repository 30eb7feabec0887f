-- The check as one pass over the records: what each of its three steps answers for a record, by the definitions of spec/Check.
use Rattle.std.specs.Prelude.{ℕ, ◌+◌, ◌*◌, ◌%◌, Bool, true, false, not, ◌&&◌, List, leb, ltb, eqb, length, take, drop, if◌then◌else◌}
use Rattle.std.specs.Prelude.{Option, None, Some}
use Rattle.spec.specs.declared.State.{State}
use Rattle.spec.specs.declared.State.TheVariants.{Outside}
use Rattle.spec.specs.declared.Fields.{Fields}
use Rattle.spec.specs.Base.{implies, has, every}
use Rattle.spec.specs.Text.{is_utf8, text_words}
use Rattle.spec.specs.Records.{Operand, operand_size, operands_size}
use Rattle.spec.specs.Layout.{layout_of, end_number}
use Rattle.spec.specs.Check.{Given, lower, records_of, bits_in, fields_good, fields_fault, Left, take_record, scan_from, tags_fault}
use Rattle.records.specs.declared.Asked.{Asked}
use Rattle.records.specs.declared.Passed.{Passed}
use Rattle.spec.specs.Layout.{Cell}
use Rattle.std.specs.Prelude.{Err, Ok}

-- stores and counts that are given
abbrev pub given : List ℕ → List ℕ → List ℕ → ℕ → ℕ → ℕ → Given
given instructions log strings count log_count string_count =
    record {
      instructions = instructions;
      log = log;
      strings = strings;
      count = count;
      log_count = log_count;
      string_count = string_count;
    }

-- the answer at the end: good, or bad at an index
unfoldable pub end_answer : Bool → ℕ → Option ℕ
end_answer true i = None
end_answer false i = Some i

-- the lower of two numbers
unfoldable pub at_most : ℕ → ℕ → ℕ
at_most a b = if leb a b then a else b

-- 1. FIELDS AND OFFSETS

-- known presence bits, and no result field without its bit
unfoldable pub fields_hold : Fields → Bool
fields_hold f =
    leb (bits_in f) 3 && implies (eqb (bits_in f % 2) 0) (eqb f.rtype 0) && implies (ltb (bits_in f) 2) (eqb f.rid 0)

-- the offset after a record that should stand at one
unfoldable pub offset_after : ℕ → Fields → Option ℕ
offset_after at f = if fields_good at f then Some (at + 4 * f.words) else None

-- 2. LOG AND STRINGS

-- past operands of so many words, log and strings go on at two places
abbrev pub got : ℕ → ℕ → ℕ → Passed
got a b w = record { log = a; strings = b; words = w }

-- what is left of log and strings from two places on
unfoldable pub left_at : List ℕ → List ℕ → ℕ → ℕ → Left
left_at log strings a b = record { log_at = a; log = drop a log; strings_at = b; strings = drop b strings }

-- a string's bytes: no zero byte, and UTF-8
unfoldable pub is_string : List ℕ → Bool
is_string s = every (λ b. not (eqb b 0)) s && is_utf8 s

-- a string of so many bytes that starts there: it follows on, lies in the store, and is one
unfoldable pub text_good : List ℕ → ℕ → ℕ → ℕ → Bool
text_good strings b start n = eqb start b && has n (drop b strings) && is_string (take n (drop b strings))

-- past such a string
unfoldable pub text_passed : List ℕ → ℕ → ℕ → ℕ → ℕ → Option Passed
text_passed strings a b start n = if text_good strings b start n then Some (got (a + 9) (b + n) (text_words n)) else None

-- past what was taken, with its words
unfoldable pub passed_by : {A : Type 0} → (A → ℕ) → Option (A × Left) → Option Passed
passed_by size None = None
passed_by size (Some x) = Some (got x.1.log_at x.1.strings_at (size x.0))

-- past an operand
unfoldable pub passed_one : Option (Operand × Left) → Option Passed
passed_one x = passed_by operand_size x

-- past some operands, with the words of those before them
unfoldable pub passed_all : ℕ → Option (List Operand × Left) → Option Passed
passed_all w x = passed_by (λ os. w + operands_size os) x

-- one word for what is there
unfoldable pub word_if : Bool → ℕ
word_if true = 1
word_if false = 0

-- the words of a record's results
unfoldable pub result_words : Fields → ℕ
result_words f = word_if (eqb (bits_in f % 2) 1) + word_if (leb 2 (bits_in f))

-- past a record's operands
unfoldable pub operands_after : Fields → Left → Option Passed
operands_after f l = passed_by (λ p. operands_size p.instr.operands) (take_record f l)

-- 3. TAGS

-- the state after a tag that a cell of the table gives
unfoldable pub tag_by : ℕ → Cell → Option State
tag_by tag (Ok (t, s)) = if eqb tag t then Some s else None
tag_by tag (Err n) = None

-- the state after a record's tag
unfoldable pub tag_after : State → Fields → Option State
tag_after s f = tag_by f.tag (layout_of (f.head % 65536) s)

-- outside functions
unfoldable pub is_outside : State → Bool
is_outside s = eqb (end_number s) 0

-- THE PASS

-- the first of so many records, from an index on, that does not lie wholly in the store
unfoldable pub missing_from : ℕ → ℕ → List Fields → Option ℕ
missing_from index count fs = if eqb (length fs) count then None else Some (length fs + index)

-- the lowest fault of the records from an index on, by what is asked for: so many are left, at an offset, with so much left and in a
-- state
unfoldable pub faults_from : Asked → ℕ → ℕ → ℕ → Left → State → List Fields → Option ℕ
faults_from q index count at l s fs =
    lower (missing_from index count fs)
    (lower (fields_fault index at fs) (lower (scan_from q.log q.strings index l fs).fault (tags_fault q.whole index s fs)))

-- the lowest fault in records, log and strings that go to their ends
unfoldable pub fault_in : Asked → List ℕ → List ℕ → List ℕ → Option ℕ
fault_in q instructions log strings =
    faults_from q 1 q.count 20 (left_at log strings 0 0) Outside (records_of q.size q.count instructions)
