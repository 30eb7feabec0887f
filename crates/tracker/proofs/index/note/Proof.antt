-- `tracker::index::note` meets its contract.
use native.Mathlib.Omega.{arith}
use borrow.Author.Rules.{rules}
use Rattle.tracker.proofs.Hinting.{guess_room, both_noted}
use Rattle.tracker.proofs.index.note.Statement.{statement}
use Rattle.tracker.proofs.index.note.Tie as tie

guess-requires : tie.Need-guess-requires
guess-requires c κs =
    let at_mark = c.before.before.before in
    let at-start = at_mark.before.before.before in
    guess_room _ _ 0 _ _ at_mark.mark.ensures at-start.requires.0

returns : tie.Need-returns
returns c =
    let at-guess = c.before.before in
    let at_mark = at-guess.before.before.before.before in
    both_noted _ _ _ _ _ at_mark.mark.ensures _ at-guess.guess.ensures

pub note_spec : {M : Type 1} → statement M
note_spec =
    tie.close
    (tie.spec
    (λ c κs. let at-start = c.before.before in (omega (arith, at-start.requires.0), at-start.requires.1))
    guess-requires
    (λ c. search rules)
    returns)
