-- The listing program's text: "index, offset, tag, opcode, words" of each record, then how the load ended.
use Rattle.std.specs.Prelude.{ℕ, suc, List, [], ◌∷◌, ◌++◌, ltb, eqb, length, get_or, if◌then◌else◌}
use Rattle.spec.specs.declared.Loaded.{Loaded}
use Rattle.spec.specs.Base.{every, ascii}
use Rattle.spec.specs.Words.{major, minor}
use Rattle.spec.specs.Digits.{decimal}
use Rattle.spec.specs.Records.{Placed}
use Rattle.spec.specs.Load.{Outcome, enough, load}
use Rattle.spec.specs.Builtin.{builtin}

-- numbers in decimal, a blank between them, and the end of the line
unfoldable pub numbers_line : List ℕ → List ℕ
numbers_line [] = ascii "\n"
numbers_line (v ∷ []) = decimal v ++ ascii "\n"
numbers_line (v ∷ w ∷ vs) = decimal v ++ ascii " " ++ numbers_line (w ∷ vs)

-- "module M.m bound B"
unfoldable pub version_line : ℕ → ℕ → List ℕ
version_line version bound =
    ascii "module " ++ decimal (major version) ++ ascii "." ++ decimal (minor version) ++ ascii " bound " ++ numbers_line (bound ∷ [])

-- the module line, left out "when the header words are 0"
unfoldable pub module_line : List ℕ → List ℕ
module_line h = if every (λ w. eqb w 0) h then [] else version_line (get_or h 1 0) (get_or h 3 0)

-- a line for each record, the first of them at an index
unfoldable pub record_lines : ℕ → List Placed → List ℕ
record_lines index [] = []
record_lines index (p ∷ ps) =
    numbers_line (index ∷ p.instr.offset ∷ p.tag ∷ p.instr.opcode ∷ p.instr.words ∷ []) ++ record_lines (suc index) ps

-- "accepted N"
unfoldable pub accepted_line : ℕ → List ℕ
accepted_line n = ascii "accepted " ++ numbers_line (n ∷ [])

-- "`refused`, number, offset, index"
unfoldable pub refused_line : ℕ → ℕ → ℕ → List ℕ
refused_line n offset index = ascii "refused " ++ numbers_line (n ∷ offset ∷ index ∷ [])

-- how the load ended
unfoldable pub last_line : Loaded → List ℕ
last_line x =
    if eqb x.number 0 then accepted_line x.counts.instructions else refused_line x.number x.offset x.index

-- the text of a load
unfoldable pub outcome_text : Outcome → List ℕ
outcome_text x = module_line x.said.header ++ record_lines 1 x.kept ++ last_line x.said

-- "A listing program takes at most 4,096 bytes on standard input (more: the line `too long`)", with room for the 1,019 words after the
-- header of so many bytes
unfoldable pub listing : List ℕ → List ℕ
listing s =
    if ltb 4096 (length s) then ascii "too long\n"
    else outcome_text (load builtin (enough 1019) s)
