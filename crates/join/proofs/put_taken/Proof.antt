-- `join::put_taken` meets its contract.
use borrow.Author.Rules.{rules}
use Rattle.join.proofs.WalkLaws.{taken_first, taken_second, may_put, put_told}
use Rattle.join.proofs.put_taken.Statement.{statement}
use Rattle.join.proofs.put_taken.Tie as tie

put-requires : tie.Need-put-requires
put-requires c κs = may_put c.before.before.before.before.before.before.args.out.now _ _ (taken_first _ _ _ _ _ _ c.before.before.if-i-i2.true) c.before.before.before.before.before.before.requires.1

returns : tie.Need-returns-then-i-i2
returns c = put_told _ _ _ _ _ (taken_first _ _ _ _ _ _ c.before.before.before.before.before.if-i-i2.true) c.before.before.put.ensures

put_requires_2 : tie.Need-put-requires-2
put_requires_2 c κs = may_put c.before.before.before.before.before.before.args.out.now _ _ (taken_second _ _ _ _ _ _ c.before.before.if-i-i2.false) c.before.before.before.before.before.before.requires.1

returns-2 : tie.Need-returns
returns-2 c = put_told _ _ _ _ _ (taken_second _ _ _ _ _ _ c.before.before.before.before.before.if-i-i2.false) c.before.before.put-2.ensures

pub put_taken_spec : {M : Type 1} → statement M
put_taken_spec =
    tie.close
    (tie.spec
    (λ c. search rules)
    (λ c. search rules)
    (λ c. search rules)
    put-requires
    (λ c. search rules)
    returns
    (λ c. search rules)
    (λ c. search rules)
    (λ c. search rules)
    put_requires_2
    (λ c. search rules)
    returns-2)
