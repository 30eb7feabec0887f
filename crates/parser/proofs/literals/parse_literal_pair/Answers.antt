-- `literals::parse_literal_pair` meets its contract: no literal, or what comes of the id after it.
use Rattle.std.proofs.Common.{refl}
use Rattle.spec.specs.Grammar.{grammar_of}
use Rattle.spec.proofs.Answered.{passed_on}
use Rattle.untyped.proofs.KindLaws.{id_single}
use Rattle.untyped.proofs.Walk.{first_bad, first_done, good_told, seq}
use Rattle.untyped.proofs.LiteralLaws.{pair_is}
use Rattle.parser.proofs.literals.parse_literal_pair.Goals as goal

pub returns-in_err-n : goal.returns-in_err-n
returns-in_err-n c =
    rw (passed_on _ c.from_residual.ensures)
    (first_bad _ _ _ (pair_is (grammar_of c.args.rows.bytes.now) _ _) _ _ _ _ _ _ _ _ _ _ _ c.in_err-n.ensures refl)

pub read_one-requires : goal.read_one-requires
read_one-requires c = ((good_told _ _ _ c.in_ok-n.ensures refl).few, id_single)

pub returns : goal.returns
returns c =
    let a = good_told _ _ _ c.in_ok-n.ensures refl in
    seq a.held _ _ _ _ _ _ a.went a.spotted (first_done _ _ _ (pair_is (grammar_of c.args.rows.bytes.now) _ _) _ _ a.read) _ c.read_one.ensures
