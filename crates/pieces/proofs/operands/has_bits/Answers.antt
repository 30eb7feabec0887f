-- `pieces::operands::has_bits` meets its contract.
-- Assumes nothing.
use mathlib.Core.Path.{ap}
use mathlib.Core.Bool.{Bool, not, ◌&&◌}
use lib.Dec.{eqb}
use Rattle.pieces.specs.Putting.{has_bits}
use Rattle.pieces.proofs.operands.has_bits.Goals as goal

pub returns : goal.returns
unfolding has_bits
returns c =
    ap (λ (m : Bool). m && not (eqb c.args.value 0)) c.is_mask.ensures
