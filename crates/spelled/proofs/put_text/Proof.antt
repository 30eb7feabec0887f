-- `spelled::put_text` meets its contract: the bytes go over the zero word.
-- Assumes nothing.
use native.Mathlib.Omega.{arith}
use Rattle.spelled.proofs.Spell.{length_padded, zeroed_length, text_put}
use borrow.Author.Rules.{rules}
use Rattle.spelled.proofs.put_text.Statement.{statement}
use Rattle.spelled.proofs.put_text.Tie as tie

put-bytes-requires : tie.Need-put_bytes-requires
put-bytes-requires c κs =
    let at-put-word = c.before.before.before in
    let at-start = at-put-word.before.before.before.before in
    omega (arith, length_padded at-start.args.s.now, zeroed_length at-start.args.out.now _ at-start.args.s.now at-put-word.put_word.ensures)

returns : tie.Need-returns
returns c =
    let at-put-bytes = c.before.before in
    let at-put-word = at-put-bytes.before.before.before.before in
    let at-start = at-put-word.before.before.before.before in
    (length_padded _, text_put at-start.args.out.now _ at-start.args.s.now at-put-word.put_word.ensures at-start.requires _ at-put-bytes.put_bytes.ensures)

pub put_text_spec : {M : Type 1} → statement M
put_text_spec =
    tie.close
    (tie.spec (λ c. search rules) (λ c κs. omega (arith, length_padded c.before.before.before.args.s.now)) put-bytes-requires (λ c. search rules) (λ c. search rules) returns)
