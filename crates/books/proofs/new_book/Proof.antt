-- `books::new_book` meets its contract: the check, then the room, then the records, which are few where they pass.
-- Assumes nothing.
use native.Mathlib.Omega.{arith}
use borrow.Author.Rules.{rules}
use Rattle.spec.specs.Records.{field_size, record_size}
use Rattle.books.proofs.Calls.{book_held, book_few, checked_good, room_told, new_bad, new_short, new_done}
use Rattle.books.proofs.new_book.Statement.{statement}
use Rattle.books.proofs.new_book.Tie as tie

returns : tie.Need-returns-in-Some
returns c = new_bad _ _ c.before.before.check_of-checked.ensures c.before.in-Some.is c.refused.ensures

returns-2 : tie.Need-returns-in-Some-room
returns-2 c =
    new_short _ _ c.before.before.before.before.check_of-checked.ensures c.before.before.before.in_default.is c.before.before.check_room-room.ensures c.before.in-Some-room.is c.refused-in-Some-room.ensures

put-new-requires : tie.Need-put_new-requires
put-new-requires c κs =
    let checked = c.before.before.before.before.check_of-checked.ensures in
    let good = c.before.before.before.in_default.is in (
      book_held field_size _ checked good,
      (
        room_told record_size _ _ (omega arith) (checked_good c.before.before.check_room-room.ensures c.before.in_default-room.is),
        book_few field_size _ checked good (λ i. (c.before.before.before.before.before.before.before.before.shared_slice_known-1.given i).fits),
      ),
    )

returns-3 : tie.Need-returns
returns-3 c =
    new_done _ _ c.before.before.before.before.before.before.before.before.check_of-checked.ensures c.before.before.before.before.before.before.before.in_default.is c.before.before.before.before.before.before.check_room-room.ensures c.before.before.before.before.before.in_default-room.is
    c.before.before.before.put_new.ensures c.turned.ensures

pub new_book_spec : {M : Type 1} → statement M
new_book_spec =
    tie.close
    (tie.spec
    (λ c κs. search rules)
    (λ c. search rules)
    (λ c κs. search rules)
    returns
    (λ c. search rules)
    (λ c κs. search rules)
    (λ c. search rules)
    (λ c κs. search rules)
    returns-2
    (λ c. search rules)
    put-new-requires
    (λ c κs. search rules)
    (λ c. search rules)
    returns-3)
