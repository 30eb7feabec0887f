-- `Names::find` meets its contract.
use Rattle.std.proofs.Common.{arith}
use Rattle.lookup.proofs.Laws.{inside, hit, other_set, other_number}
use Rattle.lookup.proofs.Names.find.Goals as goal

pub word_at-there-requires : goal.word_at-there-requires
word_at-there-requires c = omega (arith, inside _ _ c.args.self.indexed _ _ _ c.place_of-at.ensures.0)

pub bounds-self-at : goal.bounds-self-at
bounds-self-at c = omega (arith, inside _ _ c.args.self.indexed _ _ _ c.place_of-at.ensures.0)

pub bounds-self-at-then-there-number : goal.bounds-self-at-then-there-number
bounds-self-at-then-there-number c = omega (arith, inside _ _ c.args.self.indexed _ _ _ c.place_of-at.ensures.0)

pub returns-then-there-number : goal.returns-then-there-number
returns-then-there-number c =
    let found = hit _ _ c.args.self.indexed _ _ _ c.place_of-at.ensures.0 _ c.wide_byte.ensures.0 _ c.if-self-at.true c.word_at-there.ensures c.if-there-number.true in
    record { result_value = found.0; inside = found.1 }

pub returns-else-there-number : goal.returns-else-there-number
returns-else-there-number c =
    let none = other_number _ _ c.args.self.indexed _ _ _ c.place_of-at.ensures.0 _ c.word_at-there.ensures c.if-there-number.false in
    record { result_value = none.0; inside = none.1 }

pub returns-else-self-at : goal.returns-else-self-at
returns-else-self-at c =
    let none = other_set _ _ c.args.self.indexed _ _ _ c.place_of-at.ensures.0 c.if-self-at.false in
    record { result_value = none.0; inside = none.1 }
