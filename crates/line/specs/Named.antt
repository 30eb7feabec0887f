-- The name of an extended instruction.
use Rattle.std.specs.Prelude.{ℕ, ◌&&◌, List, eqb, if◌then◌else◌}
use Rattle.std.specs.Prelude.{Option, None}
use Rattle.spec.specs.Records.{Placed}
use Rattle.spec.specs.Write.{has_tag}
use Rattle.spec.specs.Disassembly.{ext_name}

-- the name that takes the place of an instruction's second operand
unfoldable pub name_in : List Placed → Placed → Option (List ℕ)
name_in is p = let name = ext_name is p.instr.operands in if eqb p.instr.opcode 12 && has_tag 15 p then name else None
