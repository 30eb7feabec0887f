-- `rules::rules::fixed_kind` meets its contract.
use borrow.Author.Tests.{le-leb, lt-leb, eq-eqb, ne_eqb}
use Rattle.rules.proofs.rules.fixed_kind.Statement.{statement}
use Rattle.rules.proofs.rules.fixed_kind.Tie as tie

returns : tie.Need-returns-then-n-count
returns c = simp (le-leb _ _ c.if-n-count.true)

returns-2 : tie.Need-returns-then-count-eq0
returns-2 c = simp (lt-leb _ _ c.before.if-n-count.false, eq-eqb _ _ c.if-count-eq0.true)

returns-3 : tie.Need-returns-else-count-eq0
returns-3 c = simp (lt-leb _ _ c.before.if-n-count.false, ne_eqb _ _ c.if-count-eq0.false)

pub fixed_kind_spec : {M : Type 1} → statement M
fixed_kind_spec = tie.close (tie.spec returns returns-2 returns-3)
