-- The stores of some instructions, and of one more: records, operand log and strings; and stores that begin with others.
use Prim.Native.Nat.{ℕ, suc, ◌+◌, ◌*◌, ◌≤◌}
use mathlib.Core.Path.{◌≡◌, refl, ap, ◌∙◌}
use mathlib.Core.List.{List, [], ◌∷◌, ◌++◌, append_assoc, append-nil}
use native.Mathlib.Omega.{arith}
use native.Mathlib.Nat.{add_assoc, add-zero}
use lib.ListN.{length, length-append, length-map}
use Rattle.spec.specs.declared.Fields.{Fields}
use Rattle.spec.specs.declared.Numbers.{Numbers}
use Rattle.spec.specs.Base.{joined}
use Rattle.spec.specs.Words.{bytes_of}
use Rattle.spec.specs.Numbers.{no_numbers, onward, numbers_from}
use Rattle.spec.specs.Records.{Operand, narrow, wide, text, Placed, Entry, entry, entry_words, operand_size, operands_size, operand_log, operand_string, operands_log, operands_strings, string_store, log_from, fields_from, field_words, record_words, records_with, called_for, numbered, instruction_store, record_size}
use Rattle.spec.specs.Load.{Stores}
use Rattle.demands.proofs.Lists.{Begins, joined_append}

-- an operand takes as much of the log wherever its string starts
operand_log_length : (m n : ℕ) (o : Operand) → length (operand_log m o) ≡ length (operand_log n o)
unfolding operand_log bytes_of
operand_log_length m n (narrow k v) = refl
operand_log_length m n (wide k v) = refl
operand_log_length m n (text s) = refl

-- and so do operands
pub operands_log_length : (m n : ℕ) (os : List Operand) → length (operands_log m os) ≡ length (operands_log n os)
unfolding operands_log
operands_log_length m n [] = refl
operands_log_length m n (o ∷ os) =
    simp length-append
    (omega (arith, operand_log_length m n o, operands_log_length (m + length (operand_string o)) (n + length (operand_string o)) os))

-- and so do instructions
pub log_length : (m n : ℕ) (is : List Placed) → length (log_from m is) ≡ length (log_from n is)
unfolding log_from
log_length m n [] = refl
log_length m n (p ∷ ps) =
    let k : ℕ = length (operands_strings p.instr.operands) in
    simp length-append (omega (arith, operands_log_length m n p.instr.operands, log_length (m + k) (n + k) ps))

-- a string is no longer than its words
pub string_short : (o : Operand) → length (operand_string o) ≤ 4 * operand_size o
unfolding operand_string operand_size
string_short (narrow k v) = omega arith
string_short (wide k v) = omega arith
string_short (text s) = omega arith

-- nor are strings
pub strings_short : (os : List Operand) → length (operands_strings os) ≤ 4 * operands_size os
unfolding operands_strings operands_size
strings_short [] = omega arith
strings_short (o ∷ os) = omega (arith, length-append (operand_string o) (joined operand_string os), string_short o, strings_short os)

-- there are as many fields as instructions
pub fields_length : (start : ℕ) (is : List Placed) → length (fields_from start is) ≡ length is
unfolding fields_from
fields_length start [] = refl
fields_length start (p ∷ ps) = ap suc (fields_length (start + length (operands_log 0 p.instr.operands)) ps)

-- and as many numbers as tags
numbers_length : (n : Numbers) (tags : List ℕ) → length (numbers_from n tags) ≡ length tags
unfolding numbers_from
numbers_length n [] = refl
numbers_length n (tag ∷ tags) = ap suc (numbers_length (onward tag n) tags)

-- so as fields
pub called_length : (fs : List Fields) → length (called_for fs) ≡ length fs
unfolding called_for
called_length fs = numbers_length no_numbers _ ∙ length-map fs (λ (f : Fields). f.tag)

-- a record is ten words
pub records_length : (fs : List Fields) (ns : List Numbers) → length ns ≡ length fs → length (records_with fs ns) ≡ record_size * length fs
unfolding records_with record_words field_words
records_length [] ns e = refl
records_length (f ∷ fs) [] e = absurd (omega arith)
records_length (f ∷ fs) (n ∷ ns) e = omega (arith, records_length fs ns (omega arith))

-- the records of fields
pub numbered_length : (fs : List Fields) → length (numbered fs) ≡ record_size * length fs
unfolding numbered
numbered_length fs = records_length fs (called_for fs) (called_length fs)

-- the records of instructions
pub instructions_length : (is : List Placed) → length (instruction_store is) ≡ record_size * length is
unfolding instruction_store
instructions_length is = numbered_length (fields_from 0 is) ∙ ap (λ (n : ℕ). record_size * n) (fields_length 0 is)

-- a type entry is three
pub entries_length : (es : List Entry) → length (joined entry_words es) ≡ 3 * length es
entries_length [] = refl
entries_length (entry id w s ∷ es) = omega (arith, entries_length es)

-- the strings of one more
pub strings_more : (is : List Placed) (p : Placed)
    → string_store (is ++ (p ∷ [])) ≡ string_store is ++ operands_strings p.instr.operands
unfolding string_store
strings_more is p = joined_append (λ (q : Placed). operands_strings q.instr.operands) is (p ∷ []) ∙ rw append-nil

-- the log of one more
pub log_more : (strings : ℕ) (is : List Placed) (p : Placed)
    → log_from strings (is ++ (p ∷ [])) ≡ log_from strings is ++ operands_log (strings + length (string_store is)) p.instr.operands
unfolding log_from string_store
log_more strings [] p = rw (append-nil, add-zero)
log_more strings (q ∷ qs) p =
    let a : List ℕ = operands_strings q.instr.operands in
    rw (log_more (strings + length a) qs p, length-append, ← add_assoc, append_assoc)

-- stores that begin with others
pub record BeginWith (t u : Stores) : Type 0 where
  pub instructions : Begins t.instructions u.instructions
  pub log : Begins t.log u.log
  pub strings : Begins t.strings u.strings
  pub types : Begins t.types u.types
