-- `untyped::parse_pair` meets its contract: no id, or what comes of the record after it.
use Rattle.std.proofs.Common.{refl}
use Rattle.spec.proofs.Answered.{passed_on}
use Rattle.untyped.proofs.Walk.{each_cons, first_bad, good_told, seq}
use Rattle.untyped.proofs.KindLaws.{id_single}
use Rattle.untyped.proofs.Values.{each_done}
use mathlib.Core.List.{◌∷◌, []}
use Rattle.untyped.proofs.parse_pair.Goals as goal

pub read_one-requires : goal.read_one-requires
read_one-requires c = (c.requires.0, id_single)

pub returns-in_err-n : goal.returns-in_err-n
returns-in_err-n c =
    rw (passed_on _ c.from_residual.ensures) (first_bad _ _ _ (each_cons _ _ _ _) _ _ _ _ _ _ _ _ _ _ _ c.in_err-n.ensures refl)

pub read_one-requires-2 : goal.read_one-requires-2
read_one-requires-2 c = ((good_told _ _ _ c.in_ok-n.ensures refl).few, c.requires.1)

pub returns : goal.returns
returns c =
    let a = good_told _ _ _ c.in_ok-n.ensures refl in
    seq a.held _ _ _ _ _ _ a.went a.spotted (each_done _ (33 ∷ []) _ _ _ _ a.read) _ c.read_one-2.ensures
