-- The built-in grammar: its bytes, that they are read back as its items, and that it is well-formed, each computed over the whole run.
use Rattle.std.specs.Prelude.{ℕ, ◌/◌, ◌%◌, ◌≡◌, refl, true, List, [], ◌∷◌}
use Rattle.spec.specs.Base.{joined}
use Rattle.spec.specs.Words.{bytes_of, bits_from, bits_of}
use Rattle.spec.specs.Grammar.{Item, row, operand, enumerant, parameter, broken, items, items_from, rule, next, rules_from, parameters_of, enumerants_of, parameterless, all_flat, well_formed, well_formed_items}
use Rattle.spec.specs.Table.{table}

-- an item's bytes, numbers low byte first
abbrev pub item_bytes : Item → List ℕ
item_bytes (row o) = 1 ∷ o % 256 ∷ o / 256 ∷ []
item_bytes (operand k q) = 2 ∷ k ∷ q ∷ []
item_bytes (enumerant k v) = 3 ∷ k ∷ bytes_of v
item_bytes (parameter k) = 4 ∷ k ∷ []
item_bytes broken = []

-- "The built-in grammar is one constant run of bytes"
unfoldable pub builtin : List ℕ
builtin = joined item_bytes table

-- its bytes are read as its items
pub builtin_items : items builtin ≡ table
unfolding builtin table bytes_of items items_from
builtin_items = refl

-- "shown well-formed once over the whole run"
pub builtin_well_formed : well_formed builtin ≡ true
unfolding builtin table bytes_of items items_from well_formed well_formed_items rule next rules_from enumerants_of parameters_of parameterless all_flat bits_of bits_from
builtin_well_formed = refl
