-- `names::bytes` meets its contract: its bytes are those of the definition's names, by computation.
use mathlib.Core.Path.{refl}
use Rattle.spec.specs.Words.{bytes_of}
use Rattle.spec.specs.NameTable.{name_table}
use Rattle.lookup.specs.Run.{name_run}
use Rattle.names.proofs.run.bytes.Statement.{statement}
use Rattle.names.proofs.run.bytes.Tie as tie

returns : tie.Need-returns
unfolding name_run name_table bytes_of
returns c = refl

pub bytes_spec : {M : Type 1} → statement M
bytes_spec = tie.close (tie.spec returns)
