-- `records::operand_at` meets its contract: of two words or one.
-- Assumes nothing.
use Rattle.records.proofs.Read.{read_two, read_one_lem}
use native.Mathlib.Omega.{arith}
use mathlib.Core.Path.{sym, ◌∙◌}
use borrow.Author.Rules.{rules}
use Rattle.records.proofs.operand_at.Statement.{statement}
use Rattle.records.proofs.operand_at.Tie as tie

word_at_requires_2 : tie.Need-word_at-high-requires
word_at_requires_2 c κs =
    let at-start = c.before.before.before.before.before in
    omega (arith, at-start.requires.nine (sym c.before.is_two.ensures ∙ c.if-is_two.true))

returns : tie.Need-returns-then-is_two
returns c =
    let at-is-two = c.before.before in
    let at-word-at = at-is-two.before in
    let at-start = at-word-at.before.before.before in
    read_two _ _ at-start.requires _ at-word-at.word_at-low.ensures (search rules) (sym at-is-two.is_two.ensures ∙ c.before.if-is_two.true) _ c.word_at-high.ensures (search rules)

returns-2 : tie.Need-returns
returns-2 c =
    let at-word-at = c.before.before in
    let at-start = at-word-at.before.before.before in
    read_one_lem _ _ at-start.requires _ at-word-at.word_at-low.ensures (search rules) (sym c.before.is_two.ensures ∙ c.if-is_two.false)

pub operand_at_spec : {M : Type 1} → statement M
operand_at_spec =
    tie.close
    (tie.spec
    (λ c. search rules)
    (λ c. search rules)
    (λ c κs. search rules)
    (λ c κs. search rules)
    (λ c. search rules)
    word_at_requires_2
    (λ c. search rules)
    (λ c. search rules)
    (λ c. search rules)
    (λ c. search rules)
    returns
    (λ c. search rules)
    returns-2)
