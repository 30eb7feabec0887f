-- The fourteen fittings: one table; that they hold is shown in proofs/Fittings.
use Rattle.std.specs.Prelude.{ℕ, ◌-◌, ◌/◌, Bool, true, false, List, [], ◌∷◌, ◌++◌, length, take}
use Rattle.spec.specs.declared.Counts.{Counts}
use Rattle.spec.specs.declared.Loaded.{Loaded}
use Rattle.spec.specs.Base.{joined, ascii}
use Rattle.spec.specs.Words.{bytes_of}
use Rattle.spec.specs.Header.{no_words}
use Rattle.spec.specs.Records.{long_bytes}
use Rattle.spec.specs.Load.{counts, enough, Outcome, Stores, lent, stores_of}

-- all that a load shows: its answer, and the four stores up to their counts
pub record Shown : Type 0 where
  pub said : Loaded
  pub stores : Stores

-- what a load shows
unfoldable pub shown : Outcome → Shown
shown x = record { said = x.said; stores = stores_of x }

-- a fitting: a module's bytes, and what its load shows
pub data Fitting : Type 0 where
  fitting : List ℕ → Shown → Fitting

-- room that always suffices for a module
abbrev pub room_for : List ℕ → Counts
room_for s = enough (length s / 4 - 5)

-- what the loads of a table's modules show
unfoldable pub found : (List ℕ → Outcome) → List Fitting → List Shown
found load_of [] = []
found load_of (fitting s x ∷ fs) = shown (load_of s) ∷ found load_of fs

-- what the table says that they show
unfoldable pub claimed : List Fitting → List Shown
claimed [] = []
claimed (fitting s x ∷ fs) = x ∷ claimed fs

-- THE TABLE

-- "H being 07230203 00010000 0 0 0"
abbrev pub H : List ℕ
H = 0x07230203 ∷ 0x00010000 ∷ 0 ∷ 0 ∷ 0 ∷ []

-- the bytes of some words
abbrev pub module_of : List ℕ → List ℕ
module_of ws = joined bytes_of ws

-- an answer: number, offset, index, value; header words; counts; is the module plain, and what breaks it
abbrev pub answer : ℕ → ℕ → ℕ → ℕ → List ℕ → Counts → Bool → ℕ → Loaded
answer n o i v h c p b =
    record { number = n; offset = o; index = i; value = v; header = h; counts = c; plain = p; breaks = b }

-- nothing kept
abbrev pub bare : ℕ → ℕ → ℕ → ℕ → List ℕ → Bool → ℕ → Shown
bare n o i v h p b = record { said = answer n o i v h (counts 0 0 0 0) p b; stores = lent [] [] [] [] }

-- H and some words, refused at the first instruction
abbrev pub refused_at : ℕ → ℕ → ℕ → List ℕ → Fitting
refused_at n o v ws = fitting (module_of (H ++ ws)) (bare n o 1 v H false 0)

-- "string "ab"", from one word
abbrev pub ab : ℕ → Bool → ℕ → Fitting
ab w p b =
    fitting (module_of (H ++ (0x00030007 ∷ 1 ∷ w ∷ [])))
    (record {
      said = answer 0 32 2 0 H (counts 1 9 2 0) p b;
      stores = lent (0x20007 ∷ 7 ∷ 20 ∷ 0 ∷ 1 ∷ 0 ∷ 1 ∷ 3 ∷ 0 ∷ 0 ∷ []) (40 ∷ bytes_of 0 ++ bytes_of 2) (ascii "ab") [];
    })

-- the module of fitting 6
abbrev pub six : List ℕ
six = module_of (H ++ (0x0003000E ∷ 0 ∷ 1 ∷ []))

-- the fourteen
unfoldable pub fittings : List Fitting
fittings =
    fitting [] (bare 1 0 0 0 no_words false 0)  -- 1
    ∷ fitting (take 19 (module_of H)) (bare 1 16 0 0 no_words false 0)  -- 2
    ∷ fitting (module_of (0x03022307 ∷ 0x00010000 ∷ 0 ∷ 0 ∷ 0 ∷ [])) (bare 3 0 0 0 no_words false 0)  -- 3
    ∷ fitting (module_of H) (bare 0 20 1 0 H true 0)  -- 4
    ∷ fitting (module_of H ++ (1 ∷ 2 ∷ 3 ∷ [])) (bare 0 20 1 0 H false 20)  -- 5
    ∷ fitting six  -- 6
    (record {
      said = answer 0 32 2 0 H (counts 1 10 0 0) true 0;
      stores = lent (14 ∷ 4 ∷ 20 ∷ 0 ∷ 0 ∷ 0 ∷ 2 ∷ 3 ∷ 0 ∷ 0 ∷ []) (0x0B ∷ 0 ∷ 0 ∷ 0 ∷ 0 ∷ 0x0C ∷ 1 ∷ 0 ∷ 0 ∷ 0 ∷ []) [] [];
    })
    ∷ refused_at 4 20 0 (0 ∷ [])  -- 7
    ∷ refused_at 5 20 0xFFFF (0x0001FFFF ∷ [])  -- 8
    ∷ refused_at 6 28 0 (0x0002000E ∷ 0 ∷ [])  -- 9
    ∷ refused_at 7 32 0 (0x0004000E ∷ 0 ∷ 1 ∷ 0 ∷ [])  -- 10
    ∷ refused_at 9 28 0 (0x0003000E ∷ 0 ∷ [])  -- 11
    ∷ ab 0x00006261 true 0  -- 12
    ∷ ab 0x01006261 false 31  -- 13
    ∷ fitting (module_of (H ++ (0x00040015 ∷ 2 ∷ 0x40 ∷ 0 ∷ 0x0005002B ∷ 2 ∷ 3 ∷ 7 ∷ 1 ∷ [])))  -- 14
    (record {
      said = answer 0 56 3 0 H (counts 2 19 0 2) true 0;
      stores =
          lent
          (0x20015 ∷ 11 ∷ 20 ∷ 0 ∷ 2 ∷ 0 ∷ 2 ∷ 4 ∷ 0 ∷ 0 ∷ 0x3002B ∷ 11 ∷ 36 ∷ 2 ∷ 3 ∷ 10 ∷ 1 ∷ 5 ∷ 0 ∷ 0 ∷ [])
          ((34 ∷ bytes_of 64) ++ (34 ∷ bytes_of 0) ++ (36 ∷ long_bytes 4294967303))
          []
          (2 ∷ 64 ∷ 1 ∷ 3 ∷ 64 ∷ 1 ∷ []);
    })
    ∷ []

-- "Fitting 6 prints, as index, offset, tag, opcode, words", these lines
unfoldable pub six_listed : List ℕ
six_listed = ascii "module 1.0 bound 0\n1 20 4 14 3\naccepted 1\n"
