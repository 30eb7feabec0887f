-- "The writers do not read the two numbers": stores whose records have the same fields and any numbers are written alike.
use Prim.Native.Nat.{ℕ}
use mathlib.Core.Path.{◌≡◌}
use mathlib.Core.List.{List, ◌++◌}
use lib.ListN.{length}
use Rattle.spec.specs.declared.Fields.{Fields}
use Rattle.spec.specs.declared.Numbers.{Numbers}
use Rattle.spec.specs.Records.{records_with}
use Rattle.spec.specs.Check.{Given, fault_of, check}
use Rattle.spec.specs.Write.{write_parse, write_module, standing}
use Rattle.spec.specs.Disassembly.{check_named, disassemble}
use Rattle.demands.proofs.CheckBack.{records_back}

-- each call over records answers the same for two books, and writes the same
pub record WrittenAlike (x y : Given) : Type 0 where
  pub parse_order : (h out : List ℕ) → write_parse h x out ≡ write_parse h y out
  pub module_order_lem : (h out : List ℕ) → write_module h x out ≡ write_module h y out
  pub stands : standing x ≡ standing y
  pub text : (h out : List ℕ) → disassemble h x out ≡ disassemble h y out

-- a book of fields and numbers, in a store that goes on, with a log and strings up to their counts
abbrev pub book_with : List Fields → List Numbers → List ℕ → List ℕ → List ℕ → ℕ → ℕ → Given
book_with fs ns more log strings log_count string_count =
    record {
      instructions = records_with fs ns ++ more;
      log = log;
      strings = strings;
      count = length fs;
      log_count = log_count;
      string_count = string_count;
    }

-- books of the same fields with any numbers
pub any_numbers : (fs : List Fields) (ns ms : List Numbers) → length ns ≡ length fs → length ms ≡ length fs → (a b log strings : List ℕ)
    (log_count string_count : ℕ) → WrittenAlike (book_with fs ns a log strings log_count string_count) (book_with fs ms b log strings log_count string_count)
unfolding write_parse write_module standing disassemble check_named check fault_of
any_numbers fs ns ms e f a b log strings lc sc =
    let one = records_back fs ns e a in
    let other = records_back fs ms f b in
    record { parse_order = λ h out. rw (one, other); module_order_lem = λ h out. rw (one, other); stands = rw (one, other); text = λ h out. rw (one, other) }
