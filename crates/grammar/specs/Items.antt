-- The code's items and those of the definitions.
use Rattle.std.specs.Prelude.{ℕ, ◌+◌, List, get_or, drop}
use Rattle.spec.specs.Grammar.{row, operand, enumerant, parameter, broken, body_length, item_of}
use Rattle.spec.specs.Grammar
use Rattle.grammar.specs.declared.items.Item.{Item}
use Rattle.grammar.specs.declared.items.Item.TheVariants.{Row, Operand, Enumerant, Parameter, Broken}

-- the item that the code's item says
abbrev pub item_is : Item → Grammar.Item
item_is (Row o) = row o
item_is (Operand k q) = operand k q
item_is (Enumerant k v) = enumerant k v
item_is (Parameter k) = parameter k
item_is Broken = broken

-- the code's item for an item
abbrev pub item_for : Grammar.Item → Item
item_for (row o) = Row o
item_for (operand k q) = Operand k q
item_for (enumerant k v) = Enumerant k v
item_for (parameter k) = Parameter k
item_for broken = Broken

-- the item that starts at a place of a grammar's bytes
unfoldable pub item_at : List ℕ → ℕ → Item
item_at g at = item_for (item_of (get_or g at 0) (drop (at + 1) g))

-- how many bytes the item that starts at a place has, its byte of kind with them
unfoldable pub length_at : List ℕ → ℕ → ℕ
length_at g at = 1 + body_length (get_or g at 0)
