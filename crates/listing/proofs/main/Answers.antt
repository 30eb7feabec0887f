-- `main` meets its contract: the listing has room in the text.
use native.Mathlib.Omega.{arith}
use mathlib.Core.Path.{sym}
use lib.Seq.{length-take-le}
use Rattle.listed.proofs.Recorded.{listing_size}
use Rattle.listing.proofs.main.Goals as goal

pub slice_bounds-text-end : goal.slice_bounds-text-end
slice_bounds-text-end c = omega (arith, listing_size _ _ c.listing-size.ensures.value, c.listing-size.auto.out)

pub slice_bounds-write_all-end : goal.slice_bounds-write_all-end
slice_bounds-write_all-end c = sym (length-take-le _ _ (omega (arith, listing_size _ _ c.listing-size.ensures.value, c.listing-size.auto.out)))
