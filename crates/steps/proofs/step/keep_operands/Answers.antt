-- `steps::step::keep_operands` meets its contract: from scratch and spare, or read again.
use Rattle.untyped.proofs.RowLaws.{fresh_unused}
use Rattle.steps.proofs.Keeping.{from_scratch, from_module}
use mathlib.Core.Path.{sym}
use lib.Seq.{length-take-le}
use native.Mathlib.Omega.{arith}
use Rattle.steps.proofs.step.keep_operands.Goals as goal

pub slice_bounds-put_records-end : goal.slice_bounds-put_records-end
slice_bounds-put_records-end c = sym (length-take-le _ _ c.if-size-scratch.true)

pub put_records-requires : goal.put_records-requires
put_records-requires c =
    omega (arith, length-take-le c.args.t.read.log c.args.scratch.now c.if-size-scratch.true, c.requires.log_in_bounds.0)

pub slice_bounds-put_bytes-end : goal.slice_bounds-put_bytes-end
slice_bounds-put_bytes-end c = sym (length-take-le _ _ c.if-more-spare.true)

pub put_bytes-requires : goal.put_bytes-requires
put_bytes-requires c =
    omega (arith, length-take-le c.args.t.read.strings c.args.spare.now c.if-more-spare.true, c.requires.log_in_bounds.1)

pub returns-then-more-spare : goal.returns-then-more-spare
returns-then-more-spare c =
    from_scratch c.requires.shown c.if-size-scratch.true c.if-more-spare.true _ _ _ _ c.put_records.ensures c.put_bytes.ensures

pub parse_body-requires : goal.parse_body-requires
parse_body-requires c =
    let stands = c.requires.bounded.0 in
    let typed = c.requires.bounded.1 in
    let shown = c.requires.shown in
    record {
      framed = (
        record {
          short = c.requires.s_len_bound.0;
          inside = c.requires.s_len_bound.1;
          moves = shown.handed.moves;
          place_in = shown.row.inside;
          operands = shown.row.operands;
        },
        fresh_unused _ _ _ _ _ _ c.unused-used.ensures stands.few_log (omega (arith, stands.few_strings)),
      );
      count_in_bounds = typed.inside;
      hinted = typed.hinted;
    }

pub returns : goal.returns
returns c =
    from_module c.requires.shown _ _ _ _ c.requires.log_in_bounds.0 c.requires.log_in_bounds.1 _ _ c.unused-used.ensures c.parse_body.ensures.decodes
