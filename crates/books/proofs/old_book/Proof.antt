-- `books::old_book` meets its contract: the check, then the numbers, then the room, then the records.
-- Assumes nothing.
use native.Mathlib.Omega.{arith}
use borrow.Author.Rules.{rules}
use Rattle.spec.specs.Records.{field_size, record_size}
use Rattle.books.proofs.Calls.{book_held, book_few, checked_good, room_told, old_bad, old_wrong, old_short, old_done}
use Rattle.books.proofs.old_book.Statement.{statement}
use Rattle.books.proofs.old_book.Tie as tie

returns : tie.Need-returns-in-Some
returns c = old_bad _ _ c.before.before.check_of-checked.ensures c.before.in-Some.is c.refused.ensures

check-numbers-requires : tie.Need-check_numbers-numbers-requires
check-numbers-requires c κs =
    let checked = c.before.check_of-checked.ensures in
    let good = c.in_default.is in
    (book_held record_size _ checked good, book_few record_size _ checked good (λ i. (c.before.before.before.before.before.shared_slice_known-1.given i).fits))

returns-2 : tie.Need-returns-in-Some-numbers
returns-2 c =
    old_wrong _ _ c.before.before.before.before.before.check_of-checked.ensures c.before.before.before.before.in_default.is c.before.before.before.check_numbers-numbers.ensures c.before.in-Some-numbers.is c.refused-in-Some-numbers.ensures

returns-3 : tie.Need-returns-in-Some-room
returns-3 c =
    old_short _ _ c.before.before.before.before.before.before.check_of-checked.ensures c.before.before.before.before.before.in_default.is c.before.before.before.before.check_numbers-numbers.ensures c.before.before.in_default-numbers.is
    c.before.before.before.check_room-room.ensures c.before.in-Some-room.is c.refused-in-Some-room.ensures

put-old-requires : tie.Need-put_old-requires
put-old-requires c κs = (
  book_held record_size _ c.before.before.before.before.before.before.check_of-checked.ensures c.before.before.before.before.before.in_default.is,
  room_told field_size _ _ (omega arith) (checked_good c.before.before.before.check_room-room.ensures c.before.in_default-room.is),
)

returns-4 : tie.Need-returns
returns-4 c =
    old_done _ _ c.before.before.before.before.before.before.before.before.before.before.check_of-checked.ensures c.before.before.before.before.before.before.before.before.before.in_default.is c.before.before.before.before.before.before.before.before.check_numbers-numbers.ensures c.before.before.before.before.before.before.in_default-numbers.is
    c.before.before.before.before.before.before.before.check_room-room.ensures c.before.before.before.before.before.in_default-room.is c.before.before.before.put_old.ensures c.turned.ensures

pub old_book_spec : {M : Type 1} → statement M
old_book_spec =
    tie.close
    (tie.spec
    (λ c κs. search rules)
    (λ c. search rules)
    (λ c κs. search rules)
    returns
    (λ c. search rules)
    check-numbers-requires
    (λ c κs. search rules)
    (λ c. search rules)
    (λ c κs. search rules)
    returns-2
    (λ c. search rules)
    (λ c. search rules)
    (λ c κs. search rules)
    returns-3
    (λ c. search rules)
    put-old-requires
    (λ c κs. search rules)
    (λ c. search rules)
    returns-4)
