-- Names: "opcode and enumerant names as constant tables", and the names of extended instructions.
use Rattle.std.specs.Prelude.{ℕ, Bool, ◌&&◌, List, [], ◌∷◌, eqb, if◌then◌else◌}
use Rattle.std.specs.Prelude.{Option, None, Some}
use Rattle.spec.specs.NameTable.{Name, name_table}

-- THE SETS: the enumerants of an operand kind are the set of its number, and there are three more

-- opcodes. An embedded opcode (kind 39) has its name here too: the crate prints it as `spirv::Op`, which has the grammar table's names.
abbrev pub opcode_set : ℕ
opcode_set = 0

-- the extended instructions of GLSL.std.450
abbrev pub glsl_set : ℕ
glsl_set = 46

-- the extended instructions of OpenCL.std
abbrev pub opencl_set : ℕ
opencl_set = 47

-- LOOKING UP

-- is it the name of a number in a set
abbrev pub is_name_of : ℕ → ℕ → Name → Bool
is_name_of s n x = eqb x.set s && eqb x.number n

-- the text of the first name of a number in a set
unfoldable pub named : ℕ → ℕ → List Name → Option (List ℕ)
named s n [] = None
named s n (x ∷ xs) = let later = named s n xs in if is_name_of s n x then Some x.text else later

-- the text of a number in a set, where it has a name
unfoldable pub name_of : ℕ → ℕ → Option (List ℕ)
name_of s n = named s n name_table
