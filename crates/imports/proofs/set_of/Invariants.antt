use mathlib.Core.Path.{◌≡◌}
use Rattle.std.specs.Prelude.{None}
use lib.ListN.{drop}
use Rattle.spec.specs.Disassembly.{set_of}
use Rattle.spelled.specs.Said.{said}
use Rattle.imports.proofs.set_of.Given as goal

abbrev pub invariant-loop-i : goal.invariant-loop-i
invariant-loop-i l = set_of l.id (drop l.i (said l.good)) ≡ None
