-- `operand::operand_of` meets its contract.
use mathlib.Core.Path.{refl}
use borrow.Author.Rules.{rules}
use Rattle.operand.specs.Parts.{parts_of}
use Rattle.operand.proofs.Laws.{one_word, two_words, same_kind, last_kind}
use Rattle.operand.proofs.operand_of.Statement.{statement}
use Rattle.operand.proofs.operand_of.Tie as tie

pub operand_of_spec : {M : Type 1} → statement M
unfolding parts_of
operand_of_spec =
    tie.close
    (tie.spec
    (λ c. search rules)
    (λ c. search rules)
    (λ c. one_word 1 _ _ c.in-1.is refl c.before.requires)
    (λ c. one_word 2 _ _ c.in-2.is refl c.before.requires)
    (λ c. one_word 3 _ _ c.in-3.is refl c.before.requires)
    (λ c. one_word 4 _ _ c.in-4.is refl c.before.requires)
    (λ c. one_word 5 _ _ c.in-5.is refl c.before.requires)
    (λ c. one_word 6 _ _ c.in-6.is refl c.before.requires)
    (λ c. one_word 7 _ _ c.in-7.is refl c.before.requires)
    (λ c. one_word 8 _ _ c.in-8.is refl c.before.requires)
    (λ c. one_word 9 _ _ c.in-9.is refl c.before.requires)
    (λ c. one_word 10 _ _ c.in-10.is refl c.before.requires)
    (λ c. one_word 11 _ _ c.in-11.is refl c.before.requires)
    (λ c. one_word 12 _ _ c.in-12.is refl c.before.requires)
    (λ c. one_word 13 _ _ c.in-13.is refl c.before.requires)
    (λ c. one_word 14 _ _ c.in-14.is refl c.before.requires)
    (λ c. one_word 15 _ _ c.in-15.is refl c.before.requires)
    (λ c. one_word 16 _ _ c.in-16.is refl c.before.requires)
    (λ c. one_word 17 _ _ c.in-17.is refl c.before.requires)
    (λ c. one_word 18 _ _ c.in-18.is refl c.before.requires)
    (λ c. one_word 19 _ _ c.in-19.is refl c.before.requires)
    (λ c. one_word 20 _ _ c.in-20.is refl c.before.requires)
    (λ c. one_word 21 _ _ c.in-21.is refl c.before.requires)
    (λ c. one_word 22 _ _ c.in-22.is refl c.before.requires)
    (λ c. one_word 23 _ _ c.in-23.is refl c.before.requires)
    (λ c. one_word 24 _ _ c.in-24.is refl c.before.requires)
    (λ c. one_word 25 _ _ c.in-25.is refl c.before.requires)
    (λ c. one_word 26 _ _ c.in-26.is refl c.before.requires)
    (λ c. one_word 27 _ _ c.in-27.is refl c.before.requires)
    (λ c. one_word 28 _ _ c.in-28.is refl c.before.requires)
    (λ c. one_word 29 _ _ c.in-29.is refl c.before.requires)
    (λ c. one_word 30 _ _ c.in-30.is refl c.before.requires)
    (λ c. one_word 31 _ _ c.in-31.is refl c.before.requires)
    (λ c. one_word 32 _ _ c.in-32.is refl c.before.requires)
    (λ c. one_word 33 _ _ c.in-33.is refl c.before.requires)
    (λ c. one_word 34 _ _ c.in-34.is refl c.before.requires)
    (λ c. one_word 35 _ _ c.in-35.is refl c.before.requires)
    (λ c. same_kind 36 _ _ c.in-36.is)
    (λ c. one_word 37 _ _ c.in-37.is refl c.before.requires)
    (λ c. same_kind 38 _ _ c.in-38.is)
    (λ c. one_word 39 _ _ c.in-39.is refl c.before.requires)
    (λ c. two_words 40 _ _ c.in-40.is)
    (λ c. one_word 41 _ _ c.in-41.is refl c.before.requires)
    (λ c. one_word 42 _ _ c.in-42.is refl c.before.requires)
    (λ c. one_word 43 _ _ c.in-43.is refl c.before.requires)
    (λ c. one_word 44 _ _ c.in-44.is refl c.before.requires)
    (λ c. one_word 45 _ _ (last_kind _ c.before.requires.known c.in_default.in_default-own.rest) refl c.before.requires))
