-- Which function, which block: "function number and block number", both from 1, by the section tags of the records alone.
use Rattle.std.specs.Prelude.{ℕ, ◌+◌, List, [], ◌∷◌, eqb, if◌then◌else◌}
use Rattle.spec.specs.declared.Numbers.{Numbers}
use Rattle.spec.specs.Base.{within}

-- in a function, in none of its blocks
abbrev pub in_function : ℕ → Numbers
in_function f = record { function = f; block = 0 }

-- in no function
abbrev pub no_numbers : Numbers
no_numbers = in_function 0

-- how many functions have begun, and how many blocks of the last of them, with a record of a tag more: 12 begins a function, 14 a block
unfoldable pub onward : ℕ → Numbers → Numbers
onward tag n =
    if eqb tag 12 then in_function (n.function + 1)
    else if eqb tag 14 then record { function = n.function; block = n.block + 1 }
    else n

-- the numbers of a record of a tag, where so many have begun with it: 14 and 15 are in a block; "Tags 12, 13 and 16 have block 0"; "0
-- where the instruction has tag 1 to 11"
unfoldable pub numbers_of : ℕ → Numbers → Numbers
numbers_of tag n =
    if within 14 tag 15 then n
    else if within 12 tag 16 then in_function n.function
    else no_numbers

-- the numbers of records by their tags, where so many functions and blocks have begun before them
unfoldable pub numbers_from : Numbers → List ℕ → List Numbers
numbers_from n [] = []
numbers_from n (tag ∷ tags) = let m = onward tag n in numbers_of tag m ∷ numbers_from m tags
