-- `tracker::index::find` meets its contract.
use Rattle.std.proofs.lemmas.Bool.{not_from_false}
use mathlib.Core.Path.{sym, ◌∙◌}
use native.Mathlib.Omega.{arith}
use borrow.Author.Rules.{rules}
use borrow.Author.Tests.{not-true}
use Rattle.tracker.proofs.Hinting.{own_says, unmarked, emptied}
use Rattle.tracker.proofs.Search.{found_own}
use Rattle.tracker.proofs.index.find.Statement.{statement}
use Rattle.tracker.proofs.index.find.Tie as tie

returns-2 : tie.Need-returns-then-not-is_marked
returns-2 c =
    let at-is-marked = c.before in
    let at-if2 = at-is-marked.before in
    let at-start = at-if2.before.before.before.before.before in
    unmarked at-start.requires.1 _ at-if2.if-at-marks.true _ at-is-marked.is_marked.ensures (not-true _ (not_from_false _ c.if-not-is_marked.true))

returns-3 : tie.Need-returns-then-guess-eq0
returns-3 c =
    let at-slot-of = c.before.before in
    let at-start = at-slot-of.before.before.before.before.before.before in
    emptied at-start.requires.1 _ _ at-slot-of.slot_of-slot.ensures.0 c.if-guess-eq0.true

returns-4 : tie.Need-returns-then-is_own
returns-4 c =
    let at-is-own = c.before in
    let at-if4 = at-is-own.before in
    let at-start = at-if4.before.before.before.before.before.before.before.before in
    let says = own_says _ _ _ _ (sym at-is-own.is_own.ensures ∙ c.if-is_own.true) in
    found_own _ _ at-start.requires.1.alone _ _ (omega (arith, says.0, at-if4.if-guess-eq0.false)) says.1

slot-of-requires : tie.Need-slot_of-slot-requires
slot-of-requires c κs = let at-start = c.before.before.before.before.before in at-start.requires.1.room

scan-requires : tie.Need-scan-requires
scan-requires c κs =
    let at-start = c.before.before.before.before.before.before.before.before.before.before in
    (at-start.requires.0, at-start.requires.1.alone)

pub find_spec : {M : Type 1} → statement M
find_spec =
    tie.close
    (tie.spec
    (λ c. let at-start = c.before.before.before.before in sym (at-start.requires.1.above _ c.if-t-id.true))
    (λ c κs. let at-start = c.before.before.before.before.before in omega (arith, c.if-at-marks.true, at-start.requires.1.room))
    returns-2
    slot-of-requires
    (λ c. search rules)
    (λ c. search rules)
    (λ c. record { fits = omega (arith, c.shared_slice_known-3-1.given c.before.slot_of-slot.result) })
    returns-3
    (λ c κs. let at-start = c.before.before.before.before.before.before.before.before in (at-start.requires.0, omega (arith, c.if-guess-eq0.false)))
    (λ c. let at-if4 = c.before.before in omega (arith, at-if4.if-guess-eq0.false))
    returns-4
    scan-requires
    (λ c. c.scan.ensures))
