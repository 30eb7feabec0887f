-- Writing in both orders, and standing.
use Rattle.std.specs.Prelude.{ℕ, ◌+◌, ◌*◌, Bool, true, false, not, ◌&&◌, ◌||◌, List, [], ◌∷◌, ◌++◌, reverse, leb, ltb, eqb, length, take, drop, get_or, if◌then◌else◌}
use Rattle.spec.specs.declared.Written.{Written}
use Rattle.spec.specs.declared.Stands.{Stands}
use Rattle.spec.specs.Base.{joined, only}
use Rattle.spec.specs.Words.{bytes_of, major, minor}
use Rattle.spec.specs.Records.{Placed, instr_bytes, record_size}
use Rattle.spec.specs.Load.{Outcome, laid_over}
use Rattle.spec.specs.Check.{Given, Checked, bad, good, check}

-- PARSE ORDER

-- the bytes of some instructions
unfoldable pub bytes_of_all : List Placed → List ℕ
bytes_of_all is = joined (λ p. instr_bytes p.instr) is

-- "Parse order writes header words and instructions as read."
unfoldable pub parse_bytes : List ℕ → List Placed → List ℕ
parse_bytes h is = joined bytes_of h ++ bytes_of_all is

-- MODULE ORDER

-- "header with its magic, generator and reserved constants and a version word made of major and minor alone"; the bound is kept
unfoldable pub module_header : List ℕ → List ℕ
module_header h =
    0x07230203 ∷ (65536 * major (get_or h 1 0) + 256 * minor (get_or h 1 0)) ∷ 0x000F0000 ∷ get_or h 3 0 ∷ 0 ∷ []

-- has it the tag
abbrev pub has_tag : ℕ → Placed → Bool
has_tag t p = eqb p.tag t

-- a section: the instructions with its tag, in their order; "only the last MemoryModel"
unfoldable pub section_of : ℕ → List Placed → List Placed
section_of t is = if eqb t 4 then take 1 (reverse (only (has_tag t) is)) else only (has_tag t) is

-- "sections 1 to 11 (order in constructs.rs)"
unfoldable pub sections : List Placed → List Placed
sections is = joined (λ t. section_of t is) (1 ∷ 2 ∷ 3 ∷ 4 ∷ 5 ∷ 6 ∷ 7 ∷ 8 ∷ 9 ∷ 10 ∷ 11 ∷ [])

-- the parameters of the function that is open: those before its end
unfoldable pub parameters_in : List Placed → List Placed
parameters_in [] = []
parameters_in (p ∷ ps) =
    let more = parameters_in ps in
    if has_tag 16 p then [] else if has_tag 13 p then p ∷ more else more

-- "then per function definition, parameters, blocks, end": the parameters right after the definition, all else as it comes
unfoldable pub functions : List Placed → List Placed
functions [] = []
functions (p ∷ ps) =
    let more = functions ps in
    if has_tag 12 p then p ∷ parameters_in ps ++ more
    else if leb 14 p.tag then p ∷ more
    else more

-- the instructions in module order
unfoldable pub module_order : List Placed → List Placed
module_order is = sections is ++ functions is

-- the bytes in module order
unfoldable pub module_bytes : List ℕ → List Placed → List ℕ
module_bytes h is = joined bytes_of (module_header h) ++ bytes_of_all (module_order is)

-- WHAT A WRITER COMES TO

-- its answer, and the output after it
pub record Writing : Type 0 where
  pub said : Written
  pub output : List ℕ

-- a refused write changes no byte
abbrev pub unwritten : ℕ → ℕ → List ℕ → Writing
unwritten n i out = record { said = record { number = n; index = i; bytes = 0 }; output = out }

-- bytes put into an output, or a refusal exactly when they exceed it. "Output past the bytes written stays."
abbrev pub put_or : ℕ → List ℕ → List ℕ → Writing
put_or n out bs =
    if ltb (length out) (length bs) then unwritten n 0 out
    else record { said = record { number = 0; index = 0; bytes = length bs }; output = laid_over out bs }

-- "Then 29, exactly when the bytes needed exceed the output."
abbrev pub put : List ℕ → List ℕ → Writing
put out bs = put_or 29 out bs

-- first 30 for records that break the store layout
abbrev pub write_by : Checked → (List Placed → List ℕ) → List ℕ → Writing
write_by (bad i) f out = unwritten 30 i out
write_by (good is) f out = put out (f is)

-- writing in the order read
unfoldable pub write_parse : List ℕ → Given → List ℕ → Writing
write_parse h x out = write_by (check record_size false x) (parse_bytes h) out

-- writing in module order
unfoldable pub write_module : List ℕ → Given → List ℕ → Writing
write_module h x out = write_by (check record_size true x) (module_bytes h) out

-- bytes were written into an output: the number is 0, and past them stands what was there
abbrev pub wrote : List ℕ → List ℕ → Writing
wrote bs out = record { said = record { number = 0; index = 0; bytes = length bs }; output = bs ++ drop (length bs) out }

-- the bytes written in the order read for what a load came to: its header words and the instructions that it kept
abbrev pub written : Outcome → List ℕ
written x = parse_bytes x.said.header x.kept

-- STANDING

-- "tags 1 to 11 come first and never fall": t is the tag before, 12 after the first instruction of a function
unfoldable pub never_falls : ℕ → List Placed → Bool
never_falls t [] = true
never_falls t (p ∷ ps) = (leb 12 p.tag || leb t p.tag) && never_falls (if leb p.tag 11 then p.tag else 12) ps

-- "no parameter follows a label in its function": whether a label came already
unfoldable pub parameters_first : Bool → List Placed → Bool
parameters_first label [] = true
parameters_first label (p ∷ ps) =
    not (has_tag 13 p && label) && parameters_first (not (has_tag 12 p) && (label || has_tag 14 p)) ps

-- which functions have a body, one after the other: whether a label came between its definition and its end
unfoldable pub bodies : Bool → List Placed → List Bool
bodies label [] = []
bodies label (p ∷ ps) =
    let more = bodies (not (has_tag 12 p) && (label || has_tag 14 p)) ps in
    if has_tag 16 p then label ∷ more else more

-- the standard's 2.4, items 10 and 11: "All function declarations ("declarations" are functions without a body [..])", then "All
-- function definitions (functions with a body)": whether one with a body came already
unfoldable pub declarations_first : Bool → List Bool → Bool
declarations_first body [] = true
declarations_first body (b ∷ bs) = (b || not body) && declarations_first (body || b) bs

-- with 2.4, item 4, "The single required OpMemoryModel instruction": tag 4 occurs exactly once
unfoldable pub is_standing : List Placed → Bool
is_standing is =
    never_falls 0 is
    && parameters_first false is
    && eqb (length (only (has_tag 4) is)) 1
    && declarations_first false (bodies false is)

-- "A yes or no over records, or 30"
abbrev pub stands_by : Checked → Stands
stands_by (bad i) = record { number = 30; index = i; yes = false }
stands_by (good is) = record { number = 0; index = 0; yes = is_standing is }

-- "Standing gives 30 as module order does"
unfoldable pub standing : Given → Stands
standing x = stands_by (check record_size true x)
