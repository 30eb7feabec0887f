-- `header` meets its contract: too few bytes, a magic number that is not the right one, five words.
-- Assumes nothing.
use borrow.Author.Rules.{rules}
use Rattle.decoder.proofs.Heading.{header_short, header_faulty, header_got}
use Rattle.decoder.proofs.header.Statement.{statement}
use Rattle.decoder.proofs.header.Tie as tie

pub header_spec : {M : Type 1} → statement M
header_spec =
    tie.close
    (tie.spec
    (λ c. search rules)
    (λ c κs. search rules)
    (λ c. header_short _ _ c.no_header.ensures c.before.if-s-lt20.true)
    (λ c κs. search rules)
    (λ c κs. search rules)
    (λ c κs. search rules)
    (λ c. let at-magic-fault = c.before.before in let at-word-at = at-magic-fault.before in let at-if1 = at-word-at.before in header_faulty _ at-if1.if-s-lt20.false _ _ _ at-word-at.word_at-magic.ensures at-magic-fault.magic_fault-fault.ensures c.before.if-fault-ne-ACCEPTED.true c.no_header-then-fault-ne-ACCEPTED.ensures)
    (λ c κs. search rules)
    (λ c κs. search rules)
    (λ c κs. search rules)
    (λ c κs. search rules)
    (λ c. let at-word-at3 = c.before.before in let at-word-at2 = at-word-at3.before in let at-if2 = at-word-at2.before in let at-magic-fault = at-if2.before in let at-word-at = at-magic-fault.before in let at-if1 = at-word-at.before in header_got _ at-if1.if-s-lt20.false _ _ _ _ _ _ at-word-at.word_at-magic.ensures at-magic-fault.magic_fault-fault.ensures at-if2.if-fault-ne-ACCEPTED.false at-word-at2.word_at.ensures at-word-at3.word_at-2.ensures c.before.word_at-3.ensures c.word_at-4.ensures))
