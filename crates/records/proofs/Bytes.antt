-- How many bytes the instruction of a record is written as: four for each of its words.
use Prim.Native.Nat.{ℕ, ◌+◌, ◌*◌, ◌-◌, ◌%◌}
use mathlib.Core.Path.{◌≡◌, refl, ◌∙◌}
use mathlib.Core.List.{List, [], ◌∷◌}
use Rattle.std.specs.Prelude.{Option, None, Some}
use native.Mathlib.Omega.{arith}
use lib.Dec.{leb, eqb}
use lib.ListN.{length, replicate, length-append, length-replicate}
use Rattle.spec.specs.declared.Fields.{Fields}
use Rattle.spec.specs.Base.{joined}
use Rattle.spec.specs.Words.{bytes_of}
use Rattle.spec.specs.Text.{padded}
use Rattle.spec.specs.Records.{Operand, narrow, wide, text, Instr, operand_size, operands_size, id_size, operand_bytes, id_bytes, instr_bytes}
use Rattle.spec.specs.Check.{bits_in, placed_of}
use Rattle.records.specs.Steps.{result_words}
use Rattle.records.proofs.Operands.{id_word}

-- an operand
pub operand_bytes_lem : (o : Operand) → length (operand_bytes o) ≡ 4 * operand_size o
unfolding operand_bytes operand_size bytes_of padded
operand_bytes_lem (narrow k v) = refl
operand_bytes_lem (wide k v) = refl
operand_bytes_lem (text s) = omega (arith, length-append s (replicate {A = ℕ} (4 - length s % 4) 0), length-replicate {A = ℕ} (4 - length s % 4) 0)

-- some operands
pub operands_bytes : (os : List Operand) → length (joined operand_bytes os) ≡ 4 * operands_size os
unfolding operands_size
operands_bytes [] = refl
operands_bytes (o ∷ os) = omega (arith, length-append (operand_bytes o) (joined operand_bytes os), operand_bytes_lem o, operands_bytes os)

-- an id that is there or not
id_bytes_lem : (o : Option ℕ) → length (id_bytes o) ≡ 4 * id_size o
unfolding bytes_of
id_bytes_lem None = refl
id_bytes_lem (Some i) = refl

-- an instruction
instr_bytes_lem : (i : Instr)
    → length (instr_bytes i) ≡ 4 * (1 + id_size i.result_type + id_size i.result_id + operands_size i.operands)
unfolding instr_bytes bytes_of
instr_bytes_lem i =
    simp length-append
    (omega (arith, id_bytes_lem i.result_type, id_bytes_lem i.result_id, operands_bytes i.operands))

-- the instruction of a record whose word count is right
pub record_bytes : (f : Fields) (os : List Operand) → f.words ≡ 1 + result_words f + operands_size os
    → length (instr_bytes (placed_of f os).instr) ≡ 4 * f.words
unfolding placed_of result_words
record_bytes f os e =
    instr_bytes_lem (placed_of f os).instr
    ∙ omega (arith, e, id_word (eqb (bits_in f % 2) 1) f.rtype, id_word (leb 2 (bits_in f)) f.rid)
