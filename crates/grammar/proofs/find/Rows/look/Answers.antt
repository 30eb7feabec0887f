-- `grammar::find::Rows::look` meets its contract: where the guess says.
use Rattle.grammar.proofs.FindLaws.{guess_right}
use Rattle.grammar.proofs.find.Rows.look.Goals as goal

pub returns-in-Some : goal.returns-in-Some
returns-in-Some c = guess_right _ _ _ c.in-Some.is c.guessed.ensures
