-- Records counted one after the other: what has begun so far, and the next record's own numbers.
use Rattle.std.specs.Prelude.{ℕ, List, [], ◌∷◌, map}
use Rattle.spec.specs.declared.Fields.{Fields}
use Rattle.spec.specs.declared.Numbers.{Numbers}
use Rattle.spec.specs.Numbers.{no_numbers, onward, numbers_of}
use Rattle.numbers.specs.declared.Step.{Step}

-- a record of a tag, where so many have begun before it
unfoldable pub step_of : ℕ → Numbers → Step
step_of tag n = record { begun = onward tag n; own = numbers_of tag (onward tag n) }

-- how many have begun after records of these tags
unfoldable pub counted : Numbers → List ℕ → Numbers
counted n [] = n
counted n (tag ∷ tags) = counted (onward tag n) tags

-- how many have begun after the records of a book
unfoldable pub begun : List Fields → Numbers
begun fs = counted no_numbers (map (λ f. f.tag) fs)
