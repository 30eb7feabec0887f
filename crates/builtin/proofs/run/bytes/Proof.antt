-- `builtin::bytes` meets its contract: its bytes are those of the definition's items, by computation.
use mathlib.Core.Path.{refl}
use Rattle.spec.specs.Words.{bytes_of}
use Rattle.spec.specs.Table.{table}
use Rattle.spec.specs.Builtin.{builtin}
use Rattle.builtin.proofs.run.bytes.Statement.{statement}
use Rattle.builtin.proofs.run.bytes.Tie as tie

returns : tie.Need-returns
unfolding builtin table bytes_of
returns c = refl

pub bytes_spec : {M : Type 1} → statement M
bytes_spec = tie.close (tie.spec returns)
