-- `order::put_one` meets its contract: its record can be written.
use Rattle.spelled.proofs.Spell.{lent_room}
use Rattle.spelled.proofs.Orders.{one_room, one_wrote}
use Rattle.spelled.proofs.Stores.{stores_at, stores_in}
use Rattle.order.proofs.put_one.Goals as goal

pub record_at-f-requires : goal.record_at-f-requires
record_at-f-requires c = stores_in _ _ _ _ c.args.good.stores _ c.requires.i_lt_count

pub put_instruction-requires : goal.put_instruction-requires
put_instruction-requires c =
    let here = stores_at _ _ _ _ c.args.good.stores _ c.requires.i_lt_count _ c.record_at-f.ensures in
    record { sound = here.sound; words_in_bounds = lent_room c.args.out.now c.args.at _ (one_room here c.requires.room) }

pub returns : goal.returns
returns c =
    let here = stores_at _ _ _ _ c.args.good.stores _ c.requires.i_lt_count _ c.record_at-f.ensures in
    one_wrote here c.args.out.now c.put_instruction.new.out c.args.at c.put_instruction.ensures
