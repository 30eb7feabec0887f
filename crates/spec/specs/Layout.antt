-- The layout: "a fixed table of nineteen kinds against three states" (the standard, 2.4, as reflect.rs and loader.rs read it).
use Rattle.std.specs.Prelude.{ℕ, suc, ◌-◌, List, [], ◌∷◌, ◌++◌, get_or, if◌then◌else◌}
use Rattle.spec.specs.declared.State.{State}
use Rattle.spec.specs.declared.State.TheVariants.{Outside, Function, Block}
use Rattle.spec.specs.Base.{is_in}
use Rattle.std.specs.Prelude.{Result, Ok, Err}

-- OPCODES

-- the types of section 11
abbrev pub type_opcodes : List ℕ
type_opcodes =
    19 ∷ 20 ∷ 21 ∷ 22 ∷ 23 ∷ 24 ∷ 25 ∷ 26 ∷ 27 ∷ 28 ∷ 29 ∷ 30 ∷ 31 ∷ 32 ∷ 33 ∷ 34 ∷ 35 ∷ 36 ∷ 37 ∷ 38 ∷ 39 ∷ 4472 ∷ 5341 ∷ []

-- `is_constant`
abbrev pub constant_opcodes : List ℕ
constant_opcodes = 41 ∷ 42 ∷ 43 ∷ 44 ∷ 45 ∷ 46 ∷ 48 ∷ 49 ∷ 50 ∷ 51 ∷ 52 ∷ []

-- `is_block_terminator`
abbrev pub terminator_opcodes : List ℕ
terminator_opcodes = 249 ∷ 250 ∷ 251 ∷ 252 ∷ 253 ∷ 254 ∷ 255 ∷ 4416 ∷ 4448 ∷ 4449 ∷ []

-- THE TABLE

-- a cell: the tag and the state after it, or the number of a refusal
abbrev pub Cell : Type 0
Cell = Result (ℕ × State) ℕ

-- a line of the table: the opcodes of its kind, and its cell in each state
pub record Line : Type 0 where
  pub opcodes : List ℕ
  pub cell : State → Cell

-- opcodes with their cells outside, in a function, in a block
abbrev pub line : List ℕ → Cell → Cell → Cell → Line
line ops o f b = record { opcodes = ops; cell = cell }
  where
    cell : State → Cell
    cell Outside = o
    cell Function = f
    cell Block = b

-- "Tags 1 to 11 in any state, state kept"
abbrev pub section : ℕ → List ℕ → Line
section tag ops = record { opcodes = ops; cell = λ s. Ok (tag, s) }

-- the lines of kinds 1 to 18, in the order of the kinds
abbrev pub lines : List Line
lines =
    section 1 (17 ∷ [])  -- Capability
    ∷ section 2 (10 ∷ [])  -- Extension
    ∷ section 3 (11 ∷ [])  -- ExtInstImport
    ∷ section 4 (14 ∷ [])  -- MemoryModel
    ∷ section 5 (15 ∷ [])  -- EntryPoint
    ∷ section 6 (16 ∷ [])  -- ExecutionMode
    ∷ section 7 (7 ∷ 3 ∷ 4 ∷ 2 ∷ [])  -- String, Source, SourceExtension, SourceContinued
    ∷ section 8 (5 ∷ 6 ∷ [])  -- Name, MemberName
    ∷ section 9 (330 ∷ [])  -- ModuleProcessed
    ∷ section 10 (71 ∷ 72 ∷ 73 ∷ 74 ∷ 75 ∷ 5632 ∷ 5633 ∷ [])  -- annotations, `is_annotation`
    ∷ section 11 (type_opcodes ++ constant_opcodes)  -- types and constants
    ∷ line (8 ∷ 317 ∷ []) (Ok (11, Outside)) (Ok (11, Function)) (Ok (15, Block))  -- Line, NoLine
    ∷ line (59 ∷ 1 ∷ []) (Ok (11, Outside)) (Err 23) (Ok (15, Block))  -- Variable, Undef
    ∷ line (54 ∷ []) (Ok (12, Function)) (Err 15) (Err 15)  -- Function
    ∷ line (55 ∷ []) (Err 18) (Ok (13, Function)) (Ok (13, Block))  -- FunctionParameter
    ∷ line (248 ∷ []) (Err 19) (Ok (14, Block)) (Err 20)  -- Label
    ∷ line terminator_opcodes (Err 22) (Err 22) (Ok (15, Function))  -- terminators
    ∷ line (56 ∷ []) (Err 17) (Ok (16, Outside)) (Err 21)  -- FunctionEnd
    ∷ []

-- the line of kind 19, "other": every opcode of no line above
abbrev pub other_line : Line
other_line = line [] (Err 23) (Err 23) (Ok (15, Block))

-- the number of the first of some lines that has the opcode, where the first of them is of kind n
unfoldable pub kind_from : ℕ → ℕ → List Line → ℕ
kind_from op n [] = n
kind_from op n (l ∷ ls) = let later = kind_from op (suc n) ls in if is_in op l.opcodes then n else later

-- the kind of an opcode, 1 to 19
unfoldable pub opcode_kind : ℕ → ℕ
opcode_kind op = kind_from op 1 lines

-- what the table says of a kind in a state
unfoldable pub layout_at : ℕ → State → Cell
layout_at kind s = (get_or lines (kind - 1) other_line).cell s

-- what the table says of an opcode in a state
unfoldable pub layout_of : ℕ → State → Cell
layout_of op s = layout_at (opcode_kind op) s

-- "At the end an open block is 21, else an open function 16."
abbrev pub end_number : State → ℕ
end_number Outside = 0
end_number Function = 16
end_number Block = 21
