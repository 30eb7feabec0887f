-- `grammar::find::Rows::guessed` meets its contract.
use Rattle.grammar.proofs.FindLaws.{look_hit, guess_silent}
use native.Mathlib.Omega.{arith}
use Rattle.grammar.proofs.find.Rows.guessed.Goals as goal

pub returns-then-m-value : goal.returns-then-m-value
returns-then-m-value c = λ s.
    look_hit _ _ _ _ c.args.self.indexed _ _ c.mark_at-m.ensures (omega (arith, c.mark_count.ensures, c.args.self.indexed.count)) c.if-m-kind.true c.if-m-value.true

pub returns-else-m-value : goal.returns-else-m-value
returns-else-m-value c = guess_silent

pub returns-else-m-kind : goal.returns-else-m-kind
returns-else-m-kind c = guess_silent

pub returns-else-guess-mark_count : goal.returns-else-guess-mark_count
returns-else-guess-mark_count c = guess_silent
