-- `kollafrin::put_where_fits`: the bytes are kept exactly where they fit.
use Rattle.kollafrin.proofs.Laws.{fits_in, full_in}
use Rattle.kollafrin.proofs.put_where_fits.Goals as goal

pub returns-then-bytes-out-clause-out_after : goal.returns-then-bytes-out-clause-out_after
returns-then-bytes-out-clause-out_after c = fits_in _ _ _ c.if-bytes-out.true c.put_bytes.ensures

pub returns-else-bytes-out-clause-out_after : goal.returns-else-bytes-out-clause-out_after
returns-else-bytes-out-clause-out_after c = full_in _ _ c.if-bytes-out.false
