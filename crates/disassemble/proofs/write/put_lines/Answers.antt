-- `disassemble::write::put_lines` meets its contract.
-- Assumes nothing.
use Rattle.spelled.proofs.Stores.{stores_at, stores_in}
use Rattle.pieces.proofs.Put.{going_room, going_on, going_ends}
use Rattle.disassemble.proofs.Wholes.{lines_start, next_told, lines_more, lines_fewer, lines_end}
use native.Mathlib.Omega.{arith}
use Rattle.disassemble.proofs.write.put_lines.Goals as goal

pub loop-i-init : goal.loop-i-init
loop-i-init c = lines_start _ _ _ _ (omega arith) c.requires.room

pub record_at-requires : goal.record_at-requires
record_at-requires c =
    stores_in _ _ _ _ c.args.good.stores _ (next_told _ _ _ _ _ _ c.advance.ensures c.in-Some.is).0

pub put_line-at-requires-clause-all_readable : goal.put_line-at-requires-clause-all_readable
put_line-at-requires-clause-all_readable c =
    (stores_at _ _ _ _ c.args.good.stores _ (next_told _ _ _ _ _ _ c.advance.ensures c.in-Some.is).0 _ c.record_at.ensures).sound.operands

pub put_line-at-requires-clause-room : goal.put_line-at-requires-clause-room
put_line-at-requires-clause-room c =
    let next = next_told _ _ _ _ _ _ c.advance.ensures c.in-Some.is in
    going_room c.loop-i.invariant _ _ (lines_more (stores_at _ _ _ _ c.args.good.stores _ next.0 _ c.record_at.ensures) _ _ next.1)

pub loop-i-smaller : goal.loop-i-smaller
loop-i-smaller c =
    let next = next_told _ _ _ _ _ _ c.advance.ensures c.in-Some.is in
    lines_fewer (stores_at _ _ _ _ c.args.good.stores _ next.0 _ c.record_at.ensures) _ _ next.1

pub loop-i-preserved : goal.loop-i-preserved
loop-i-preserved c =
    let next = next_told _ _ _ _ _ _ c.advance.ensures c.in-Some.is in
    going_on c.loop-i.invariant _ _ (lines_more (stores_at _ _ _ _ c.args.good.stores _ next.0 _ c.record_at.ensures) _ _ next.1) c.put_line-at.ensures

pub returns : goal.returns
returns c = going_ends c.loop-i.invariant (lines_end _ _ _ _ c.advance.ensures c.in_default.is)
