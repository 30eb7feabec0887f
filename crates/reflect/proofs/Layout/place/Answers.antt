-- `reflect::Layout::place` meets its contract: every kind has a line of the cells, and every state a column.
use Rattle.std.proofs.Common.{arith, refl}
use Rattle.reflect.proofs.Laws.{kind_given, place_is, place_by}
use Rattle.reflect.proofs.Layout.place.Goals as goal

pub overflow_sub-line : goal.overflow_sub-line
overflow_sub-line c = (kind_given _ _ c.kind.ensures).0

pub bounds-self-line : goal.bounds-self-line
bounds-self-line c = omega (arith, kind_given _ _ c.kind.ensures)

pub returns : goal.returns
returns c =
    let cells = c.args.self.now.cells_known in
    place_by _ _ _ _ c.kind.ensures (place_is _ _ _ _ _ _ cells (kind_given _ _ c.kind.ensures) c.column.ensures.0 refl c.cell.ensures)
