use Rattle.imports.specs.Imports.{ImportsEnd}
use Rattle.imports.proofs.imports_end.Given as goal

abbrev pub invariant-loop-i : goal.invariant-loop-i
invariant-loop-i l = ImportsEnd l.instructions l.count l.i
