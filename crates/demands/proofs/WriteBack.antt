-- What is written for the records of a load: the bytes of the instructions that it keeps, after its header words.
use Prim.Native.Nat.{ℕ, ◌≤◌}
use mathlib.Core.Path.{◌≡◌, refl}
use mathlib.Core.List.{List}
use borrow.Author.Tests.{le-ltb}
use lib.ListN.{length}
use Rattle.spec.specs.declared.Counts.{Counts}
use Rattle.spec.specs.Load.{Outcome, load, Stores, stores_of}
use Rattle.spec.specs.Write.{write_parse, written, wrote}
use Rattle.spec.specs.Words.{AllBytes}
use Rattle.spec.specs.Check.{given_by}
use Rattle.demands.proofs.Stores.{BeginWith}
use Rattle.demands.proofs.ReadBack.{reads_back}
use Rattle.demands.proofs.Leaves.{laid_over_lem}

-- the records of a load, accepted or refused, wherever stores begin with them, are written so, where the output has room
pub load_written : (g : List ℕ) (room : Counts) (s : List ℕ) → AllBytes s → (t : Stores) → BeginWith t (stores_of (load g room s))
    → (out : List ℕ)
    → let x = load g room s in length (written x) ≤ length out
    → write_parse x.said.header (given_by t x.said.counts) out ≡ wrote (written x) out
unfolding write_parse
load_written g room s by t b out h =
    let x : Outcome = load g room s in
    rw (
      reads_back g room s by t b,
      le-ltb (length out) (length (written x)) h,
      laid_over_lem out (written x) (length (written x)) refl h,
    )
