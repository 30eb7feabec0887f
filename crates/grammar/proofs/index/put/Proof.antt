-- `grammar::index::put` meets its contract.
use Rattle.grammar.proofs.IndexLaws.{both_put}
use native.Mathlib.Omega.{arith}
use lib.ListN.{length-set}
use borrow.Author.Rules.{rules}
use Rattle.grammar.proofs.index.put.Statement.{statement}
use Rattle.grammar.proofs.index.put.Tie as tie

slice_write_index_2 : tie.Need-bounds-index-guess
slice_write_index_2 c = simp length-set (omega (arith, c.guess_place-guess.ensures))

returns : tie.Need-returns
returns c =
    let at-start = c.before.before in
    both_put at-start.args.index.now _ _ _ at-start.requires.0 c.guess_place-guess.ensures

pub put_spec : {M : Type 1} → statement M
put_spec =
    tie.close
    (tie.spec
    (λ c κs. search rules)
    (λ c. search rules)
    (λ c. search rules)
    (λ c. search rules)
    (λ c. search rules)
    (λ c. search rules)
    (λ c. search rules)
    slice_write_index_2
    (λ c. search rules)
    returns)
