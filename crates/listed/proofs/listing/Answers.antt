-- `listed::listing` meets its contract.
use native.Mathlib.Omega.{arith}
use mathlib.Core.Path.{sym}
use Rattle.listed.proofs.Recorded.{listing_long, listing_room, kept_few, listing_is}
use Rattle.listed.proofs.listing.Goals as goal

pub put_text-requires : goal.put_text-requires
put_text-requires c = omega arith

pub shape_of-out-then-module-gt4096 : goal.shape_of-out-then-module-gt4096
shape_of-out-then-module-gt4096 c = c.put_text.auto.out

pub returns-then-module-gt4096 : goal.returns-then-module-gt4096
returns-then-module-gt4096 c = let told = listing_long _ c.if-module-gt4096.true c.put_text.ensures in record { value = told.0; out_after = told.1 }

pub slice_bounds-load_text-end : goal.slice_bounds-load_text-end
slice_bounds-load_text-end c = sym c.load_builtin-l.auto.instructions

pub load_text-requires : goal.load_text-requires
load_text-requires c = (kept_few listing_room c.load_builtin-l.ensures, omega arith, omega (arith, kept_few listing_room c.load_builtin-l.ensures, c.load_builtin-l.auto.instructions))

pub shape_of-out : goal.shape_of-out
shape_of-out c = c.load_text.auto.out

pub returns : goal.returns
returns c = let told = listing_is listing_room c.load_builtin-l.ensures c.if-module-gt4096.false c.load_text.ensures in record { value = told.0; out_after = told.1 }
