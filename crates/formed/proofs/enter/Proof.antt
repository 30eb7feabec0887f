-- `formed::enter` meets its contract.
use Rattle.std.proofs.lemmas.Bool.{not_from_true, not_from_false}
use Rattle.formed.proofs.CheckLaws.{enter_other, row_refused, row_room, row_entered, enumerant_refused, enumerant_least, enumerant_room, enumerant_entered}
use Rattle.formed.specs.Check.{Entered}
use borrow.Author.Tests.{not-true, not-false}
use borrow.Author.Rules.{rules}
use Rattle.formed.proofs.enter.Statement.{statement}
use Rattle.formed.proofs.enter.Tie as tie

returns : tie.Need-returns-then-not-may_follow
unfolding Entered
returns c =
    let at_x = c.before.before in
    let at-start = at_x.before.before.before in
    row_refused at-start.requires.0 at-start.requires.1.1 _ at-start.requires.1.2 _ at_x.in-Row.is _ c.before.may_follow.ensures (not-true _ (not_from_false _ c.if-not-may_follow.true))

operands-end-requires : tie.Need-operands_end-requires
operands-end-requires c κs =
    let at-may-follow = c.before.before.before.before.before in
    let at_x = at-may-follow.before in
    let at-start = at_x.before.before.before in
    (at-start.requires.1.0, row_room at-start.requires.0 at-start.requires.1.1 _ at-start.requires.1.2 _ at_x.in-Row.is _ at-may-follow.may_follow.ensures)

returns-2 : tie.Need-returns-then-not-may_follow-enumerant_rule
unfolding Entered
returns-2 c =
    let at-may-follow2 = c.before.before in
    let at-x2 = at-may-follow2.before in
    let at-start = at-x2.before.before.before in
    enumerant_refused at-start.requires.0 at-start.requires.1.1 _ at-start.requires.1.2 _ _ at-x2.in-Enumerant.is _ _ at-may-follow2.may_follow-in-Enumerant.ensures c.before.enumerant_rule.ensures (not-true _ (not_from_false _ c.if-not-may_follow-enumerant_rule.true))

parameters-end-requires : tie.Need-parameters_end-requires
parameters-end-requires c κs =
    let at-if2 = c.before.before.before.before.before.before in
    let at-enumerant-rule = at-if2.before in
    let at-may-follow2 = at-enumerant-rule.before in
    let at-x2 = at-may-follow2.before in
    let at-start = at-x2.before.before.before in
    let checking = at-start.requires.0 in
    let follows = at-may-follow2.may_follow-in-Enumerant.ensures in
    let rule = at-enumerant-rule.enumerant_rule.ensures in
    (at-start.requires.1.0, enumerant_room checking at-start.requires.1.1 _ at-start.requires.1.2 _ _ at-x2.in-Enumerant.is _ _ follows rule (not-false _ (not_from_true _ at-if2.if-not-may_follow-enumerant_rule.false)), enumerant_least checking at-start.requires.1.1 _ at-start.requires.1.2 _ _ at-x2.in-Enumerant.is _ _ follows rule (not-false _ (not_from_true _ at-if2.if-not-may_follow-enumerant_rule.false)), checking.noting.sizes.0, checking.noting.sizes.1)

returns-3 : tie.Need-returns-else-not-may_follow
returns-3 c =
    let at-put = c.before.before.before in
    let at-if1 = at-put.before.before in
    let at-may-follow = at-if1.before in
    let at_x = at-may-follow.before in
    let at-start = at_x.before.before.before in
    rw at_x.in-Row.is (row_entered at-start.requires.0 at-start.requires.1.1 _ at-start.requires.1.2 _ at_x.in-Row.is _ at-may-follow.may_follow.ensures (not-false _ (not_from_true _ at-if1.if-not-may_follow.false)) _ at-put.put.ensures _ c.operands_end.ensures)

returns-4 : tie.Need-returns-else-not-may_follow-enumerant_rule
returns-4 c =
    let at-put2 = c.before.before.before.before.before in
    let at-if2 = at-put2.before.before in
    let at-enumerant-rule = at-if2.before in
    let at-may-follow2 = at-enumerant-rule.before in
    let at-x2 = at-may-follow2.before in
    let at-start = at-x2.before.before.before in
    rw at-x2.in-Enumerant.is (enumerant_entered at-start.requires.0 at-start.requires.1.1 _ at-start.requires.1.2 _ _ at-x2.in-Enumerant.is _ _ at-may-follow2.may_follow-in-Enumerant.ensures at-enumerant-rule.enumerant_rule.ensures (not-false _ (not_from_true _ at-if2.if-not-may_follow-enumerant_rule.false)) _ at-put2.put-in-Enumerant.ensures _ _ _ c.parameters_end.ensures)

returns-5 : tie.Need-returns-in_default
unfolding Entered
returns-5 c =
    let at-start = c.before.before.before in
    enter_other at-start.requires.0 at-start.requires.1.1 _ at-start.requires.1.2 c.in_default.in_default-own.keys3

pub enter_spec : {M : Type 1} → statement M
enter_spec =
    tie.close
    (tie.spec
    (λ c. search rules)
    (λ c. search rules)
    (λ c κs. search rules)
    returns
    (λ c. search rules)
    (λ c κs. search rules)
    operands-end-requires
    (λ c. search rules)
    (λ c κs. search rules)
    (λ c κs. search rules)
    returns-2
    (λ c. search rules)
    (λ c κs. search rules)
    parameters-end-requires
    (λ c. search rules)
    returns-3
    (λ c. search rules)
    returns-4
    returns-5)
