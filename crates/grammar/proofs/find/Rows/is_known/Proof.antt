-- `grammar::find::Rows::is_known` meets its contract.
use Rattle.grammar.proofs.KnownLaws.{known_mask, known_value}
use mathlib.Core.Path.{sym, ◌∙◌}
use borrow.Author.Rules.{rules}
use Rattle.grammar.proofs.find.Rows.is_known.Statement.{statement}
use Rattle.grammar.proofs.find.Rows.is_known.Tie as tie

returns : tie.Need-returns-then-is_mask
returns c =
    let at-is-mask = c.before.before in
    known_mask _ _ _ _ (sym at-is-mask.is_mask.ensures ∙ c.before.if-is_mask.true) c.bits_listed.ensures

returns-2 : tie.Need-returns
returns-2 c =
    let at-is-mask = c.before.before in
    known_value _ _ _ _ (sym at-is-mask.is_mask.ensures ∙ c.before.if-is_mask.false) c.is_listed.ensures

pub is_known_spec : {M : Type 1} → statement M
is_known_spec =
    tie.close (tie.spec (λ c κs. search rules) (λ c κs. search rules) returns (λ c κs. search rules) returns-2)
