-- `simple::simple_result` meets its contract.
use Rattle.std.proofs.Common.{refl}
use Rattle.spec.specs.Kinds.{is_result}
use Rattle.untyped.proofs.KindLaws.{not_kind}
use Rattle.used.proofs.TypeLaws.{literal_other}
use Rattle.simple.proofs.SimpleRows.{reads_result}
use Rattle.simple.proofs.simple_result.Goals as goal

pub returns : goal.returns
returns c g types log strings =
    let is = c.requires.few.1 in
    reads_result _ _ _ _ _ _ _ _ _ refl _ (literal_other _ _ _ (not_kind is_result _ 48 is refl) (not_kind is_result _ 49 is refl)).0 is c.requires.few.0 _ _
    c.next_word-x.ensures _ c.with_result.ensures
