-- `rules::rules::row_end` meets its contract.
use Rattle.rules.proofs.RuleLaws.{count_length}
use Rattle.rules.specs.Rules.{passed_of}
use lib.Dec.{lit<}
use borrow.Author.Tests.{eq-eqb, ne_eqb}
use Rattle.rules.proofs.rules.row_end.Statement.{statement}
use Rattle.rules.proofs.rules.row_end.Tie as tie

returns : tie.Need-returns-then-op-eq-TYPE_INT
unfolding passed_of
returns c before e = rw e (simp (eq-eqb _ _ c.before.if-op-eq-TYPE_INT.true, count_length 3 (lit< tt)))

returns-2 : tie.Need-returns-then-op-eq-TYPE_FLOAT
unfolding passed_of
returns-2 c before e =
    let at-if1 = c.before.before in
    rw e (simp (ne_eqb _ _ at-if1.if-op-eq-TYPE_INT.false, eq-eqb _ _ c.before.if-op-eq-TYPE_FLOAT.true, count_length 2 (lit< tt)))

returns-3 : tie.Need-returns
returns-3 c before e = simp (ne_eqb _ _ c.before.if-op-eq-TYPE_INT.false, ne_eqb _ _ c.if-op-eq-TYPE_FLOAT.false)

pub row_end_spec : {M : Type 1} → statement M
row_end_spec = tie.close (tie.spec returns returns-2 returns-3)
