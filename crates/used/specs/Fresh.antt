-- What is in use where an instruction begins, and with a result more.
use Rattle.std.specs.Prelude.{ℕ, ◌+◌, ◌*◌, ◌≤◌, ◌≡◌, eqb, if◌then◌else◌}
use Rattle.std.specs.Prelude.{Option, None, Some}
use Rattle.used.specs.declared.used.Used.{Used}

-- what is in use before the first operand, from these places on, with so many string bytes before those of the store, where this breaks
-- what was read before
unfoldable pub unused : ℕ → ℕ → ℕ → ℕ → Used
unused a b c x = record { rtype = None; rid = None; operands = 0; kind1 = 0; value1 = 0; kind2 = 0; value2 = 0; log = a; strings = b; base = c; breaks = x }

-- nothing of an instruction that begins at a place is in use yet, and so little before it that nothing wraps
pub record Fresh (at : ℕ) (u : Used) : Type 0 where
  pub nothing : u ≡ unused u.log u.strings u.base u.breaks
  pub few_log : 4 * u.log ≤ 9 * at
  pub few_strings : u.base + u.strings ≤ at

-- the same operands with other results
unfoldable pub with_results : Option ℕ → Option ℕ → Used → Used
with_results t i u =
    record {
      rtype = t;
      rid = i;
      operands = u.operands;
      kind1 = u.kind1;
      value1 = u.value1;
      kind2 = u.kind2;
      value2 = u.value2;
      log = u.log;
      strings = u.strings;
      base = u.base;
      breaks = u.breaks;
    }

-- a result more: the result type for 46, else the result id
unfoldable pub with_result : ℕ → Option ℕ → Used → Used
with_result k i u = if eqb k 46 then with_results i u.rid u else with_results u.rtype i u
