-- `records::pass_text` meets its contract: by each test in turn.
-- Assumes nothing.
use Rattle.records.proofs.Operands.{string_elsewhere, string_outside, string_ascii, string_bytes}
use mathlib.Core.Bool.{true, false}
use borrow.Author.Rules.{rules}
use Rattle.records.proofs.pass_text.Statement.{statement}
use Rattle.records.proofs.pass_text.Tie as tie

returns-3 : tie.Need-returns-then-ascii
returns-3 c =
    let at-if1 = c.before.before in
    let at-start = at-if1.before.before in
    string_ascii _ _ _ _ _ at-if1.if-start-strings_at.false c.before.if-strings-strings_at.false (at-start.requires.1.1 c.if-ascii.true)

returns-4 : tie.Need-returns-then-is_string
returns-4 c =
    let at-if2 = c.before.before.before.before in
    let at-if1 = at-if2.before in
    string_bytes _ _ _ _ _ at-if1.if-start-strings_at.false at-if2.if-strings-strings_at.false true _ c.before.is_string.ensures c.if-is_string.true

returns-5 : tie.Need-returns
returns-5 c =
    let at-if2 = c.before.before.before.before in
    let at-if1 = at-if2.before in
    string_bytes _ _ _ _ _ at-if1.if-start-strings_at.false at-if2.if-strings-strings_at.false false _ c.before.is_string.ensures c.if-is_string.false

pub pass_text_spec : {M : Type 1} → statement M
pass_text_spec =
    tie.close
    (tie.spec
    (λ c. string_elsewhere _ _ _ _ _ c.if-start-strings_at.true)
    (λ c. search rules)
    (λ c. string_outside _ _ _ _ _ c.before.if-start-strings_at.false c.if-strings-strings_at.true)
    (λ c. search rules)
    (λ c. search rules)
    (λ c. search rules)
    returns-3
    (λ c. search rules)
    (λ c. search rules)
    (λ c. search rules)
    (λ c κs. search rules)
    (λ c. search rules)
    (λ c. search rules)
    returns-4
    returns-5)
